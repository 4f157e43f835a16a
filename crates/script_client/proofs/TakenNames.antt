-- Lemmas: what names stand for after an operation that takes a slot and puts another.
use Rattle.std.proofs.Common.{◌∙◌, ap, refl, subst, sym, zero, suc, ⊎_elim}
use Rattle.std.specs.Prelude.{◌≡◌, ℕ, ◌<◌, ◌≤◌, List, [], ◌∷◌, length, set}
use Rattle.std.proofs.lemmas.List.{get_or_past, length-set, set-get_or, set-set}
use Rattle.std.proofs.lemmas.Bool.Decides.{leb_tells}
use Rattle.block_device.specs.State.{DeviceState}
use Rattle.journal_front.specs.Values.{HandleValue}
use Rattle.group_commit.specs.Values.{TicketValue}
use Rattle.journal_script.specs.declared.script.Operation.{Operation}
use Rattle.script_client.specs.declared.outcome.OperationOutcome.{OperationOutcome}
use Rattle.script_client.specs.declared.slots.Slot.{Slot}
use Rattle.script_client.specs.declared.slots.Slot.TheVariants.{Empty, Open, Stopped, Waited}
use Rattle.script_client.specs.Names.{MayStand, stands_for}
use Rattle.script_client.specs.Performed.{HasRestarted, HasStopped, HasTouched, HasWaited, Skips, Table}

-- what is put after a take stands there
pub put-there : (old taken new : List Slot) (name : ℕ) (slot : Slot) → taken ≡ set old name Empty → new ≡ set taken name slot → new ≡ set old name slot
put-there old taken new name slot takes puts = puts ∙ ap (λ (names : List Slot). set names name slot) takes ∙ set-set old name Empty slot

-- taking and putting back changes nothing
pub put-back : (old taken new : List Slot) (name : ℕ) (slot : Slot) → slot ≡ stands_for old name → taken ≡ set old name Empty → new ≡ set taken name slot → new ≡ old
put-back old taken new name slot is takes puts =
    put-there old taken new name slot takes puts ∙ ap (λ (s : Slot). set old name s) is ∙ set-get_or old name Empty

-- a name that stands for something exists
is-named : (names : List Slot) (name : ℕ) → (stands_for names name ≡ Empty → ⊥) → name < length names
is-named names name some =
    ⊎_elim
    (λ (past : _ × (length names ≤ name)). absurd (some (get_or_past names name Empty past.1)))
    (λ (within : _ × (name < length names)). within.1)
    (leb_tells (length names) name)

-- nothing stands where a slot was taken
none-there : (names : List Slot) (name : ℕ) → stands_for (set names name Empty) name ≡ Empty
none-there [] name = refl
none-there (x ∷ names) zero = refl
none-there (x ∷ names) (suc name) = none-there names name

-- if something was taken, anything may stand there; else anything but an open handle
pub may-stand : (old taken : List Slot) (name : ℕ) (was slot : Slot) → was ≡ stands_for old name → taken ≡ set old name Empty
    → ((h : HandleValue) → slot ≡ Open h → was ≡ Empty → ⊥) → MayStand taken name slot
may-stand old taken name was slot is takes some = record {
  free = λ h there.
      let none : Empty ≡ Open h = sym (none-there old name) ∙ ap (λ (names : List Slot). stands_for names name) (sym takes) ∙ there in cc;
  named = λ h this.
      subst (λ (n : ℕ). name < n) (sym (ap (λ (names : List Slot). length names) takes ∙ length-set old name Empty))
      (is-named old name (λ none. some h this (is ∙ none)));
}

-- what was taken may stand there again
pub may-return : (old taken : List Slot) (name : ℕ) (slot : Slot) → slot ≡ stands_for old name → taken ≡ set old name Empty → MayStand taken name slot
may-return old taken name slot is takes =
    may-stand old taken name slot slot is takes (λ h this none. let both : Empty ≡ Open h = sym none ∙ this in cc)

module _ {D : Type 0} (state : D → DeviceState) (honest : D → Type 0) (outcome : OperationOutcome) (old new : Table D) (skips : Skips outcome old new) where
  -- no handle is open there: the operation is skipped
  pub else-touched : (operation : Operation) (name : ℕ) (slot : Slot) → ((h : HandleValue) → slot ≡ Open h → ⊥) → HasTouched state honest operation name slot outcome old new
  else-touched operation name Empty not = skips
  else-touched operation name (Open h) not = absurd (not h refl)
  else-touched operation name (Stopped t) not = skips
  else-touched operation name (Waited t) not = skips

  pub else-restarted : (name credits : ℕ) (slot : Slot) → ((h : HandleValue) → slot ≡ Open h → ⊥) → HasRestarted state name credits slot outcome old new
  else-restarted name credits Empty not = skips
  else-restarted name credits (Open h) not = absurd (not h refl)
  else-restarted name credits (Stopped t) not = skips
  else-restarted name credits (Waited t) not = skips

  pub else-stopped : (name : ℕ) (slot : Slot) → ((h : HandleValue) → slot ≡ Open h → ⊥) → HasStopped state name slot outcome old new
  else-stopped name Empty not = skips
  else-stopped name (Open h) not = absurd (not h refl)
  else-stopped name (Stopped t) not = skips
  else-stopped name (Waited t) not = skips

  -- no ticket or receipt is there: the wait is skipped
  pub else-waited : (name : ℕ) (slot : Slot) → ((t : TicketValue) → slot ≡ Stopped t → ⊥) → ((t : TicketValue) → slot ≡ Waited t → ⊥) → HasWaited name slot outcome old new
  else-waited name Empty not nor = skips
  else-waited name (Open h) not nor = skips
  else-waited name (Stopped t) not nor = absurd (not t refl)
  else-waited name (Waited t) not nor = absurd (nor t refl)
