use Rattle.std.proofs.Common.{subst, ◌≡◌, ◌<◌, ℕ, Some}
use Rattle.std.specs.List.{slice_get}
use Rattle.log_ledger.specs.Ledger.{engine_of}
use Rattle.log_ledger.proofs.Pendings.{none-left}
use Rattle.log_ledger.proofs.Rounds.{due-flush, due-release}
use Rattle.log_ledger.proofs.ledger.Ledger.round_flush.Goals as goal

-- no copy of the round's is left
pub returns-in-None : goal.returns-in-None
returns-in-None c = λ shape runs.
    let l = c.args.self.now in
    let e = engine_of shape l in
    let next = subst (λ (n : ℕ). (t b : ℕ) → slice_get l.pending.unwritten 0 ≡ Some (t, b) → n < t) c.last_of_round.ensures.last c.in-None.ensures.none in
    due-flush e _ _ _ c.in-Copies.is (none-left e l.pending _ _ runs.plain c.in-Copies.is runs.pending next)

-- the log is flushed
pub returns-in-TailFlush : goal.returns-in-TailFlush
returns-in-TailFlush c = λ shape runs. due-release (engine_of shape c.args.self.now) _ c.in-TailFlush.is
