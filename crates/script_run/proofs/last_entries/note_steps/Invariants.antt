use Rattle.std.proofs.Common.{◌≡◌, ℕ, take}
use Rattle.journal_model.specs.Transaction.{effect, later}
use Rattle.script_run.specs.LastEntries.{entry_in}
use Rattle.script_run.proofs.last_entries.note_steps.Given as goal

-- the steps so far are noted
abbrev pub invariant-loop-step : goal.invariant-loop-step
invariant-loop-step l = (b : ℕ) → entry_in l.last b ≡ later (entry_in l.fn.last b) (effect b (take l.step-index l.steps))
