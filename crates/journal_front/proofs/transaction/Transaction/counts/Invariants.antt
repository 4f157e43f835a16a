use Rattle.std.proofs.Common.{◌≡◌, ◌+◌, length}
use Rattle.journal_model.specs.Transaction.{copied, entries}
use Rattle.journal_front.proofs.transaction.Transaction.counts.Given as goal

-- the copies counted and those left are all copies
abbrev pub invariant-loop-entry : goal.invariant-loop-entry
invariant-loop-entry g l = l.copies + length (copied l.entry-iterator) ≡ length (copied (entries l.self.transaction.steps))
