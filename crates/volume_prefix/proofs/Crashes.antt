-- A crash leaves what the first of the changes make.
use Rattle.std.proofs.Common.{inl, inr, refl, sym, ◌∙◌, ap, subst, arith}
use Rattle.std.specs.Prelude.{◌≡◌, ◌≤◌, ◌<◌, ◌||◌, ◌+◌, ℕ, suc, nat_le, Bool, true, false, cond, List, [], ◌∷◌, ◌++◌, length, take, Option, Some, Contains}
use Rattle.std.specs.List.{AllByRecursion, list_any}
use Rattle.std.proofs.lemmas.Bool.{cases_lt}
use Rattle.std.proofs.lemmas.Bool.Decides.{nat_tests}
use Rattle.std.proofs.lemmas.List.Elements.{All-contains, All-from_recursion}
use Rattle.std.proofs.lemmas.List.Sums.{sum_by-cons}
use Rattle.journal_model.proofs.ListElements.{contains-cases, contains-none}
use Rattle.journal_model.specs.declared.entry.Entry.{Entry}
use Rattle.journal_model.specs.declared.number.Area.TheVariants.{Home}
use Rattle.journal_model.specs.Disk.{Image, Leaves}
use Rattle.journal_model.specs.Record.{acknowledged}
use Rattle.journal_model.specs.Transaction.{AreNumbered, History, Transaction, bytes_of, content_of, effect, last_effect}
use Rattle.journal_world.proofs.Batches.{same-length}
use Rattle.log_epochs.specs.Epoch.{Epoch}
use Rattle.log_epochs.specs.JournalPromise.{KeepsNow, Kept}
use Rattle.log_epochs.specs.JournalWorld.{Begins, JournalWorld, Leads, Move}
use Rattle.locked_journal.specs.Known.{TicketKnown}
use Rattle.volume_prefix.specs.Changes.{Change, OpensToPrefix, steps_in, tickets_of}
use Rattle.volume_prefix.specs.Runs.{IsWorkOf, OneAtATime}
use Rattle.volume_prefix.proofs.Answered.{IsPromised, answered-below, promised}
use Rattle.volume_prefix.proofs.Classes.{all-made, order-before}
use Rattle.volume_prefix.proofs.Cuts.{cut-of, first-changes}
use Rattle.volume_prefix.proofs.Homes.{held-rightly}
use Rattle.volume_prefix.proofs.InOrder.{run-order}
use Rattle.volume_prefix.proofs.Orders.{AreOf, IsCut, KeepsOrder, NeverFall}
use Rattle.volume_prefix.proofs.Steps.{last-steps}
use Rattle.volume_prefix.proofs.Tickets.{Follows, follows}

or-right : (a b : Bool) → b ≡ true → (a || b) ≡ true
or-right true b is = refl
or-right false b is = is

-- a number among those answered passes the test of each transaction up to it
any-answered : (tid n : ℕ) (answered : List ℕ) → Contains answered n → tid ≤ n → list_any (λ m. nat_le tid m) answered ≡ true
any-answered tid n [] has low = absurd (contains-none n has)
any-answered tid n (m ∷ ns) has low =
    elim (contains-cases m ns n has) [
      | inl same ↦
          let passes : nat_le tid m ≡ true = grind (arith, nat_tests) in
          ap (λ (b : Bool). b || list_any (λ k. nat_le tid k) ns) passes
      | inr rest ↦ or-right (nat_le tid m) (list_any (λ k. nat_le tid k) ns) (any-answered tid n ns rest low)
    ]

abbrev step_of : Bool → ℕ
step_of b = cond b 1 0

-- an acknowledged transaction and all before it are counted
acknowledged-most : (tid first : ℕ) (answered : List ℕ) (ts : History) → AreNumbered first ts → Contains answered tid →
    tid < first + length ts → tid < first + acknowledged answered ts
acknowledged-most tid first answered [] numbered has low = let none : tid < first + 0 = low in omega arith
acknowledged-most tid first answered (t ∷ ts) numbered has low =
    let is : t.tid ≡ first = numbered.0 in
    let sum : acknowledged answered (t ∷ ts) ≡ step_of (list_any (λ n. nat_le t.tid n) answered) + acknowledged answered ts =
    sum_by-cons (λ (x : Transaction). step_of (list_any (λ n. nat_le x.tid n) answered)) t ts in
    elim (cases_lt tid first) [
      | inl less ↦ omega (arith, less)
      | inr more ↦
          let up : t.tid ≤ tid = omega arith in
          let one : step_of (list_any (λ n. nat_le t.tid n) answered) ≡ 1 = ap step_of (any-answered t.tid tid answered has up) in
          let next : tid < suc first + length ts = omega arith in
          let rest : tid < suc first + acknowledged answered ts = acknowledged-most tid (suc first) answered ts numbered.1 has next in
          omega (arith, sum, one, rest)
    ]

-- one more transaction with the next number
numbered-more : (first : ℕ) (ts : History) (t : Transaction) → AreNumbered first ts → t.tid ≡ first + length ts →
    AreNumbered first (ts ++ t ∷ [])
numbered-more first [] t numbered is = let here : t.tid ≡ first = omega arith in (here, tt)
numbered-more first (u ∷ us) t numbered is =
    let next : t.tid ≡ suc first + length us = omega arith in
    (numbered.0, numbered-more (suc first) us t numbered.1 next)

-- numbers that never fall are all from the first on
all-later : (least : ℕ) (ks : List TicketKnown) → NeverFall least ks → AllByRecursion (λ k. least ≤ k.ticket.tid) ks
all-later least ks up = rest least ks (omega arith) up
  where
    rest : (from : ℕ) (js : List TicketKnown) → least ≤ from → NeverFall from js → AllByRecursion (λ k. least ≤ k.ticket.tid) js
    rest from [] low rises = tt
    rest from (j ∷ js) low rises =
        let more : from ≤ j.ticket.tid = rises.0 in
        let here : least ≤ j.ticket.tid = omega arith in
        (here, rest j.ticket.tid js here rises.1)

-- what is known at the end of a run of handles one at a time
pub record Ends (end : JournalWorld) (epoch : Epoch) (image : Image) : Type 0 where
  pub kept : Kept end.below.shape epoch end.told image
  pub promise : IsPromised end epoch
  pub number : end.told.front.running.tid ≡ epoch.engine.first + length end.told.front.sealed
  pub numbered : AreNumbered epoch.engine.first (end.told.front.sealed ++ end.told.front.running ∷ [])

pub ends : (start end : JournalWorld) (moves : List Move) (epoch : Epoch) (image : Image) → Begins start → Leads start moves end →
    end.below.epoch ≡ Some epoch → Leaves end.below.disk image → Ends end epoch image
ends start end moves epoch image begins leads now leaves =
    let promise : IsPromised end epoch = promised start end moves epoch begins leads now in
    let keeps : KeepsNow end.below.shape (Some epoch) end.below.disk end.told =
    subst (λ (o : Option Epoch). KeepsNow end.below.shape o end.below.disk end.told) now promise.promise.now in
    let kept : Kept end.below.shape epoch end.told image = keeps image leaves in
    let few = same-length end.told.front.sealed epoch.engine.accepted promise.front.accepted in
    let number : end.told.front.running.tid ≡ epoch.engine.first + length end.told.front.sealed =
    promise.front.number ∙ ap (λ (n : ℕ). epoch.engine.first + n) (sym few) in
    record {
      kept = kept;
      promise = promise;
      number = number;
      numbered = numbered-more epoch.engine.first end.told.front.sealed end.told.front.running kept.numbered number;
    }

pub crash-prefix : (start end : JournalWorld) (moves : List Move) (leads : Leads start moves end) (epoch : Epoch) (image : Image)
    (changes : List Change) → Begins start → OneAtATime start moves end leads → end.below.epoch ≡ Some epoch →
    IsWorkOf end.told.front (tickets_of changes) → Leaves end.below.disk image → OpensToPrefix end.below.shape epoch end.told changes image
crash-prefix start end moves leads epoch image changes begins alone now work leaves =
    let first : ℕ = epoch.engine.first in
    let sealed : History = end.told.front.sealed in
    let ks : List TicketKnown = tickets_of changes in
    let at : Ends end epoch image = ends start end moves epoch image begins leads now leaves in
    let kept : Kept end.below.shape epoch end.told image = at.kept in
    let order : KeepsOrder end.told.front = run-order start end moves leads epoch begins alone now in
    let follow : Follows end.told.front first ks =
    follows end.told.front first ks at.numbered kept.handles kept.joined at.promise.front.joined work in
    let of : AreOf first sealed ks = record {
      numbered = kept.numbered;
      ordered = follow.ordered;
      made = all-made 0 0 ks sealed follow.rises (order-before 0 sealed end.told.front.running order.order) follow.sealed;
    } in
    let cut : IsCut first kept.n sealed ks = cut-of first kept.n sealed ks of kept.high in
    let same : (b : ℕ) → last_effect b (take kept.n sealed) ≡ effect b (steps_in cut.done) =
    λ b. sym (last-steps b (take kept.n sealed)) ∙ ap (effect b) cut.steps in
    record {
      n = kept.n;
      count = kept.count;
      acknowledged = λ tid has.
          let low : tid < end.told.front.running.tid =
          All-contains (λ m. m < end.told.front.running.tid) end.told.answered tid
          (All-from_recursion (λ m. m < end.told.front.running.tid) end.told.answered
          (answered-below start end moves epoch begins leads now)) has in
          let number : end.told.front.running.tid ≡ epoch.engine.first + length end.told.front.sealed = at.number in
          let within : tid < epoch.engine.first + length end.told.front.sealed = omega arith in
          let most : tid < epoch.engine.first + acknowledged end.told.answered end.told.front.sealed =
          acknowledged-most tid epoch.engine.first end.told.answered end.told.front.sealed kept.numbered has within in
          let high : acknowledged end.told.answered end.told.front.sealed ≤ kept.n = kept.low in
          omega arith;
      kept = cut.done;
      missing = cut.rest;
      all = cut.whole;
      among = All-from_recursion (λ k. k.ticket.tid < first + kept.n) cut.done cut.before;
      later = All-from_recursion (λ k. first + kept.n ≤ k.ticket.tid) cut.rest (all-later (first + kept.n) cut.rest cut.lost);
      prefix = first-changes changes cut.done cut.rest cut.whole;
      got = kept.opens.got;
      opens = kept.opens.opens;
      made = record {
        written = λ b low.
            kept.opens.recovered b low ∙ ap (λ (e : Option Entry). bytes_of (content_of e) (image Home b)) (same b);
        others = λ b low direct.
            held-rightly epoch sealed kept.n b (image Home b) (steps_in cut.done) cut.steps
            (kept.others b low (ap content_of (same b) ∙ direct));
      };
    }
