use Rattle.std.proofs.Common.{◌≡◌, ℕ, take}
use Rattle.journal_model.specs.Transaction.{last_effect}
use Rattle.script_run.specs.LastEntries.{entry_in}
use Rattle.script_run.proofs.last_entries.entries_of.Given as goal

-- the transactions so far are noted
abbrev pub invariant-loop-transaction : goal.invariant-loop-transaction
invariant-loop-transaction l = (b : ℕ) → entry_in l.last b ≡ last_effect b (take l.transaction-index l.history)
