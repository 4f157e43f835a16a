use Rattle.std.proofs.Common.{◌≡◌, ◌<◌, ◌≤◌, ◌+◌, ap, arith, subst, sym}
use Rattle.std.proofs.lemmas.Option.{IfSome_then}
use Rattle.std.proofs.lemmas.Result.{IfOk-weaker}
use Rattle.journal_front.specs.Values.{HandleValue}
use Rattle.locked_journal.specs.Known.{own_of_ticket}
use Rattle.locked_journal.specs.Own.{Stands}
use Rattle.locked_journal.proofs.Keeping.{given-least}
use Rattle.locked_journal.proofs.Standing.{tid-least}
use Rattle.locked_journal.proofs.locked.Locked.join_after.Goals as goal

-- The earlier handle is among those given out, and stands in no later transaction.
pub returns-clause-after : goal.returns-clause-after
returns-clause-after g c =
    let f = c.find.new.self.journal.front in
    let keeps = rw c.self.view_is at c.recall_invariant.ensures.agrees.handles in
    IfOk-weaker c.join.result _ _
    (λ handle ok. IfSome_then c.args.last.now c.find.ensures.stands (λ before is.
    let own = own_of_ticket before in
    let stands : Stands f own = subst (λ j. Stands j.journal.front own) (sym c.find.ensures.same.0) is.stands in
    let least = given-least f own keeps stands in
    let tid = tid-least f own stands in
    record {
      number = omega (arith, least, ap (λ (h : HandleValue). h.number) ok.1);
      tid = omega (arith, tid, ap (λ (h : HandleValue). h.tid) ok.1);
    }))
    c.join.ensures.ok
