use Rattle.std.proofs.Common.{sym, ap, subst, ◌≡◌, ◌<◌, ℕ, Some}
use Rattle.std.specs.List.{slice_get}
use Rattle.journal_world.specs.declared.round.Round.TheVariants.{Copies, TailWrite}
use Rattle.journal_world.specs.Checkpoint.RoundCall.{FlushHome}
use Rattle.log_ledger.specs.declared.ledger.Ledger.{Ledger}
use Rattle.log_ledger.specs.Ledger.{HasKept, KeepsPending, engine_of}
use Rattle.log_ledger.proofs.Pendings.{flushed-keeps, none-left}
use Rattle.log_ledger.proofs.Rounds.{gone}
use Rattle.log_ledger.proofs.ledger.Ledger.advance_round.Goals as goal

-- home is flushed, and the round's copies are all there
pub returns-in-None-clause-gone : goal.returns-in-None-clause-gone
returns-in-None-clause-gone c = λ shape runs.
    let l = c.args.self.now in
    let e = engine_of shape l in
    let plain = runs.plain in
    let next = subst (λ (n : ℕ). (t b : ℕ) → slice_get l.pending.unwritten 0 ≡ Some (t, b) → n < t) c.last_of_round.ensures.last c.in-None.ensures.none in
    let none = none-left e l.pending _ _ plain c.in-Copies.is runs.pending next in
    let now = flushed-keeps e l.pending _ _ plain c.in-Copies.is runs.pending none in
    let pending = subst (KeepsPending (record e { round = TailWrite })) (sym (ap (λ (m : Ledger). m.pending) c.go_round.ensures.round)) now in
    gone shape l c.go_round.new.self (Copies c.in-Copies.transaction c.in-Copies.block) _ _ runs c.in-Copies.is (λ none. cc) (FlushHome _ _ none)
    (ap (engine_of shape) c.go_round.ensures.round) (ap (λ (m : Ledger). m.ring.head) c.go_round.ensures.round) pending
    (subst HasKept (sym c.go_round.ensures.round) runs.kept)
