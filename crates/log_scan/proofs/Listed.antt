-- Refusals by the content of a log are neither `Device` nor `Memory`.
use Rattle.std.proofs.Common.{◌∙◌, sym, inl, inr, arith}
use Rattle.std.specs.Prelude.{◌≡◌, ◌≢◌, ℕ, ◌≤◌, ◌==◌, Bool, true, false, if◌then◌else◌, List, [], ◌∷◌, map, Some}
use Rattle.std.specs.List.{AllByRecursion}
use Rattle.journal_model.specs.declared.refusal.JournalError.{JournalError}
use Rattle.journal_model.specs.declared.refusal.JournalError.TheVariants.{BadLength, Device, Memory}
use Rattle.journal_model.specs.Disk.{IsOneOf, Shape}
use Rattle.log_model.specs.Superblock.{first_failed, super_refusal, super_tests}
use Rattle.log_scan.specs.Refusals.{NamesDamage, super_refusals}

-- a refusal of tests is one of theirs
among : (tests : List (Bool × JournalError)) (e : JournalError) → first_failed tests ≡ Some e → IsOneOf (map (λ t. t.1) tests) e
among [] e refused = cc
among ((true, f) ∷ tests) e refused = inr (among tests e refused)
among ((false, f) ∷ tests) e refused = inl (cc)

-- the refusal of a superblock is one of those on the list
pub refused-listed : (shape : Shape) (block : List ℕ) (e : JournalError) → super_refusal shape block ≡ Some e → IsOneOf super_refusals e
refused-listed shape block e refused = either (shape.log_blocks == 0) refused
  where
    either : (none : Bool) → (if none then Some BadLength else first_failed (super_tests shape block)) ≡ Some e → IsOneOf super_refusals e
    either true is = inr (inr (inr (inl (cc))))
    either false is = among (super_tests shape block) e is

-- a refusal that is not listed is none of these
not-among : (wrong : JournalError) (refusals : List JournalError) (e : JournalError) → AllByRecursion (λ f. f ≢ wrong) refusals → IsOneOf refusals e → e ≢ wrong
not-among wrong [] e all none = absurd none
not-among wrong (f ∷ refusals) e all (inl is) = λ same. all.0 (sym is ∙ same)
not-among wrong (f ∷ refusals) e all (inr one) = not-among wrong refusals e all.1 one

-- a superblock's refusal is not `Device`
pub super-device : (e : JournalError) → IsOneOf super_refusals e → e ≢ Device
super-device e one =
    not-among Device super_refusals e
    ((λ e. cc), ((λ e. cc), ((λ e. cc), ((λ e. cc), ((λ e. cc), ((λ e. cc), ((λ e. cc), ((λ e. cc), tt)))))))) one

pub super-memory : (e : JournalError) → IsOneOf super_refusals e → e ≢ Memory
super-memory e one =
    not-among Memory super_refusals e
    ((λ e. cc), ((λ e. cc), ((λ e. cc), ((λ e. cc), ((λ e. cc), ((λ e. cc), ((λ e. cc), ((λ e. cc), tt)))))))) one

-- damage is not `Device`
pub damage-device : (first end : ℕ) (e : JournalError) → NamesDamage first end e → e ≢ Device
damage-device first end e names = λ device. let is = names.refusal in cc

pub damage-memory : (first end : ℕ) (e : JournalError) → NamesDamage first end e → e ≢ Memory
damage-memory first end e names = λ memory. let is = names.refusal in cc

-- damage in a ring is damage within any bounds around it
pub damage-around : (first end low high : ℕ) (e : JournalError) → low ≤ first → end ≤ high → NamesDamage first end e → NamesDamage low high e
damage-around first end low high e under over names =
    let from = names.from in
    let below = names.below in
    record { place = names.place; from = omega arith; below = omega arith; refusal = names.refusal }
