-- The record of handles one at a time has each handle's steps in a row.
use Rattle.std.proofs.Common.{inl, inr, refl, sym, ◌∙◌, ap, subst, arith, ne_eqb}
use Rattle.std.specs.Prelude.{◌≡◌, ℕ, nat_eq, true, false, List, [], ◌∷◌, ◌++◌, map, Some, All, Contains}
use Rattle.std.specs.List.{AllByRecursion, flat_map}
use Rattle.std.proofs.lemmas.Bool.{cases_eq}
use Rattle.std.proofs.lemmas.Bool.Decides.{nat_tests}
use Rattle.std.proofs.lemmas.List.{map-append}
use Rattle.std.proofs.lemmas.List.Concat.{flat_map-append}
use Rattle.std.proofs.lemmas.List.Elements.{All-from_recursion, Contains-append_left, Contains-append_right, recursion_from_All}
use Rattle.journal_model.proofs.ListElements.{contains-behind, contains-first, each-append}
use Rattle.journal_model.specs.declared.transaction.Step.{Step}
use Rattle.journal_model.specs.Disk.{reading}
use Rattle.journal_model.specs.Record.{EachHandleOnce, steps_of}
use Rattle.journal_model.specs.Transaction.{History}
use Rattle.journal_world.specs.Front.{Front, handle_numbers, handles_of, transactions}
use Rattle.journal_world.proofs.Elements.{all-weaker}
use Rattle.handle.specs.Values.{fresh_ticket}
use Rattle.log_epochs.specs.Epoch.{Epoch}
use Rattle.log_epochs.specs.JournalWorld.{Begins, JournalWorld, Leads, Move}
use Rattle.log_epochs.proofs.Keeping.{reads-left}
use Rattle.locked_journal.specs.Known.{TicketKnown, own_of_ticket}
use Rattle.locked_journal.specs.Own.{IsOwn, steps_by}
use Rattle.volume_prefix.specs.Changes.{steps_in}
use Rattle.volume_prefix.specs.Runs.{IsWorkOf, OneAtATime}
use Rattle.volume_prefix.proofs.Classes.{classes}
use Rattle.volume_prefix.proofs.Crashes.{Ends, ends}
use Rattle.volume_prefix.proofs.InOrder.{run-order}
use Rattle.volume_prefix.proofs.Orders.{AreRising, KeepsOrder, numbers}
use Rattle.volume_prefix.proofs.Owning.{Owns, own-steps}
use Rattle.volume_prefix.proofs.Tickets.{given-rise}

-- each step is of a handle of the history
steps-own : (ts : History) → AllByRecursion Owns ts → AllByRecursion (λ s. Contains (handles_of ts) s.handle) (steps_of ts)
steps-own [] own = tt
steps-own (t ∷ ts) own =
    each-append (λ s. Contains (handles_of (t ∷ ts)) s.handle) t.steps (steps_of ts)
    (all-weaker (λ s. Contains t.handles s.handle) (λ s. Contains (handles_of (t ∷ ts)) s.handle)
    (λ s m. Contains-append_left t.handles (handles_of ts) s.handle m) t.steps
    (recursion_from_All (λ s. Contains t.handles s.handle) t.steps own.0))
    (all-weaker (λ s. Contains (handles_of ts) s.handle) (λ s. Contains (handles_of (t ∷ ts)) s.handle)
    (λ s m. Contains-append_right t.handles (handles_of ts) s.handle m) (steps_of ts) (steps-own ts own.1))

-- a ticket for each open handle
abbrev of_open : List (ℕ × ℕ) → List TicketKnown
of_open [] = []
of_open (o ∷ os) = record { ticket = fresh_ticket o.0 0; steps = []; asked = false } ∷ of_open os

open-numbers : (os : List (ℕ × ℕ)) → numbers (of_open os) ≡ map (λ o. o.0) os
open-numbers [] = refl
open-numbers (o ∷ os) = ap (λ (hs : List ℕ). o.0 ∷ hs) (open-numbers os)

-- steps of a handle are by it
by-own : (n : ℕ) (hs : List ℕ) (ss : List Step) → Contains hs n → AllByRecursion (λ s. Contains hs s.handle) (steps_by n ss)
by-own n hs [] has = tt
by-own n hs (s ∷ ss) has =
    elim (cases_eq n s.handle) [
      | inl same ↦
          let passes : nat_eq n s.handle ≡ true = grind (arith, nat_tests) in
          rw passes (subst (Contains hs) same has, by-own n hs ss has)
      | inr other ↦ rw (ne_eqb n s.handle other) (by-own n hs ss has)
    ]

-- the open handles' steps are by them
open-own : (hs : List ℕ) (os : List (ℕ × ℕ)) (ss : List Step) → AllByRecursion (λ o. Contains hs o.0) os →
    AllByRecursion (λ s. Contains hs s.handle) (flat_map (λ k. steps_by k.ticket.handle ss) (of_open os))
open-own hs [] ss all = tt
open-own hs (o ∷ os) ss all =
    each-append (λ s. Contains hs s.handle) (steps_by o.0 ss) (flat_map (λ k. steps_by k.ticket.handle ss) (of_open os))
    (by-own o.0 hs ss all.0) (open-own hs os ss all.1)

open-all : (os : List (ℕ × ℕ)) → AllByRecursion (λ o. Contains (map (λ p. p.0) os) o.0) os
open-all [] = tt
open-all (o ∷ os) = (
  contains-first o.0 (map (λ p. p.0) os) o.0 refl,
  all-weaker (λ q. Contains (map (λ p. p.0) os) q.0) (λ q. Contains (map (λ p. p.0) (o ∷ os)) q.0)
      (λ q m. contains-behind o.0 (map (λ p. p.0) os) q.0 m) os (open-all os),
)

-- what the record has of each ticket's handle
each-own : (f : Front) (ks : List TicketKnown) → EachHandleOnce (transactions f) → AllByRecursion (λ k. IsOwn f (own_of_ticket k)) ks →
    flat_map (λ k. steps_by k.ticket.handle (steps_of (transactions f))) ks ≡ steps_in ks
each-own f [] each own = refl
each-own f (k ∷ ks) each own =
    ap (λ (l : List Step). l ++ flat_map (λ j. steps_by j.ticket.handle (steps_of (transactions f))) ks) (own-steps f k each own.0)
    ∙ ap (λ (l : List Step). k.steps ++ l) (each-own f ks each own.1)

-- the steps of the tickets' handles, and then those of an open one
in-a-row : (f : Front) (ks : List TicketKnown) → EachHandleOnce (transactions f) → handles_of (transactions f) ≡ handle_numbers f.given →
    KeepsOrder f → IsWorkOf f ks → (rest : List Step) × (steps_of (transactions f) ≡ steps_in ks ++ rest)
    × All (λ s. Contains (map (λ h. h.0) f.open_handles) s.handle) rest
in-a-row f ks each given order work =
    let ss : List Step = steps_of (transactions f) in
    let os : List TicketKnown = of_open f.open_handles in
    let opens : List ℕ = map (λ h. h.0) f.open_handles in
    let handles : numbers (ks ++ os) ≡ handles_of (transactions f) =
    map-append (λ k. k.ticket.handle) ks os
    ∙ (ap (λ (hs : List ℕ). numbers ks ++ hs) (open-numbers f.open_handles) ∙ sym work.joined) in
    let rising : AreRising 0 (ks ++ os) = given-rise f.given (ks ++ os) (handles ∙ given) in
    let own : AllByRecursion (λ s. Contains (numbers (ks ++ os)) s.handle) ss =
    subst (λ (hs : List ℕ). AllByRecursion (λ s. Contains hs s.handle) ss) (sym handles)
    (steps-own (transactions f) (recursion_from_All Owns (transactions f) each.own)) in
    let rest : List Step = flat_map (λ k. steps_by k.ticket.handle ss) os in
    let whole : ss ≡ steps_in ks ++ rest =
    classes 0 0 (ks ++ os) ss rising order.order own
    ∙ (flat_map-append (λ k. steps_by k.ticket.handle ss) ks os
    ∙ ap (λ (l : List Step). l ++ rest) (each-own f ks each (recursion_from_All (λ k. IsOwn f (own_of_ticket k)) ks work.known))) in
    (rest, whole, All-from_recursion (λ s. Contains opens s.handle) rest (open-own opens f.open_handles ss (open-all f.open_handles)))

pub run-in-a-row : (start end : JournalWorld) (moves : List Move) (leads : Leads start moves end) (epoch : Epoch) (ks : List TicketKnown) →
    Begins start → OneAtATime start moves end leads → end.below.epoch ≡ Some epoch → IsWorkOf end.told.front ks →
    (rest : List Step) × (steps_of (transactions end.told.front) ≡ steps_in ks ++ rest)
    × All (λ s. Contains (map (λ h. h.0) end.told.front.open_handles) s.handle) rest
run-in-a-row start end moves leads epoch ks begins alone now work =
    let at : Ends end epoch (reading end.below.disk) =
    ends start end moves epoch (reading end.below.disk) begins leads now (reads-left end.below.disk) in
    in-a-row end.told.front ks at.kept.handles at.kept.joined (run-order start end moves leads epoch begins alone now) work
