use Rattle.std.proofs.Common.{ap, subst, ◌∙◌, ◌≡◌, ◌<◌, ℕ, List, Some}
use Rattle.std.specs.List.{slice_get}
use Rattle.log_model.specs.Superblock.{with_tail}
use Rattle.log_ledger.specs.Ledger.{engine_of}
use Rattle.log_ledger.proofs.Pendings.{none-left}
use Rattle.log_ledger.proofs.Rounds.{due-flush, due-release, due-tail, round-log, round-same}
use Rattle.log_ledger.proofs.ledger.Ledger.round_due.Goals as goal

-- no copy of the round's is left
pub returns-in-None-clause-due : goal.returns-in-None-clause-due
returns-in-None-clause-due c = λ shape runs.
    let l = c.args.self.now in
    let e = engine_of shape l in
    let next = subst (λ (n : ℕ). (t b : ℕ) → slice_get l.pending.unwritten 0 ≡ Some (t, b) → n < t) c.last_of_round.ensures.last c.in-None.ensures.none in
    due-flush e _ _ _ c.in-Copies.is (none-left e l.pending _ _ runs.plain c.in-Copies.is runs.pending next)

-- the superblock is written to block 0
pub returns-in-TailWrite-clause-due : goal.returns-in-TailWrite-clause-due
returns-in-TailWrite-clause-due c = λ shape runs.
    due-tail (engine_of shape c.args.self.now) _ _ _ c.in-TailWrite.is
    (c.write_superblock.ensures.block ∙ ap (λ (sb : List ℕ). with_tail sb c.number_behind-number.result c.new_tail.result) c.deref.ensures.value)
    c.number_behind-number.ensures c.new_tail.ensures

-- the log has that block
pub returns-in-TailWrite-clause-fits : goal.returns-in-TailWrite-clause-fits
returns-in-TailWrite-clause-fits c = λ shape runs.
    (round-log _ runs.plain, c.write_superblock.ensures.size ∙ round-same shape c.args.self.now _ c.requires.can_run runs)

-- the log is flushed
pub returns-in-TailFlush-clause-due : goal.returns-in-TailFlush-clause-due
returns-in-TailFlush-clause-due c = λ shape runs. due-release (engine_of shape c.args.self.now) _ c.in-TailFlush.is
