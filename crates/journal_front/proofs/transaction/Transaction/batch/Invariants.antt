use Rattle.std.proofs.Common.{◌≡◌, ◌++◌}
use Rattle.journal_front.proofs.transaction.Transaction.batch.Given as goal

-- the copied entries and those left are all entries
abbrev pub invariant-loop-block : goal.invariant-loop-block
invariant-loop-block g l = l.entries ++ l.block-iterator ≡ l.self-inside.versions.running
