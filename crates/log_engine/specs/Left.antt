-- How many device calls are left: for the commit under way, and until everything committed is released.
use Rattle.std.specs.Prelude.{⊤, ℕ, ◌+◌, ◌-◌, ◌*◌, ◌<◌, nat_lt, if◌then◌else◌, length}
use Rattle.journal_world.specs.declared.round.Round.{Round}
use Rattle.journal_world.specs.declared.round.Round.TheVariants.{Idle as NoRound, Copies, TailWrite, TailFlush}
use Rattle.journal_world.specs.declared.stage.Stage.{Stage}
use Rattle.journal_world.specs.declared.stage.Stage.TheVariants.{Idle, SuperblockWrite, SuperblockFlush, Blocks, CommitWrite, CommitFlush}
use Rattle.journal_world.specs.Engine.{Engine, due_blocks}
use Rattle.log_ledger.specs.declared.progress.Progress.{Progress}
use Rattle.log_ledger.specs.declared.progress.Progress.TheVariants.{Idle as NoProgress, Step, Done}

-- for the commit of a transaction with so many log blocks
abbrev pub calls_from : ℕ → Stage → ℕ
calls_from blocks Idle = 0
calls_from blocks SuperblockWrite = blocks + 4
calls_from blocks SuperblockFlush = blocks + 3
calls_from blocks (Blocks k) = (blocks - k) + 2
calls_from blocks CommitWrite = 2
calls_from blocks CommitFlush = 1

abbrev pub commit_calls : Engine → ℕ
commit_calls e = calls_from (length (due_blocks e)) e.stage

-- at most, for a round that begins with so many transactions released: a copy of each home block for each committed transaction, a
-- flush of home, the superblock and its flush; none if all are released
abbrev pub whole_round : Engine → ℕ → ℕ
whole_round e released = if nat_lt released e.committed then e.committed * e.shape.home_blocks + 3 else 0

-- at most, for the round under way and the next one
abbrev pub round_calls_from : Engine → Round → ℕ
round_calls_from e NoRound = whole_round e e.released
round_calls_from e (Copies transaction block) =
    (e.bound - (transaction + 1)) * e.shape.home_blocks + (e.shape.home_blocks - block) + 3 + whole_round e e.bound
round_calls_from e TailWrite = 2 + whole_round e e.bound
round_calls_from e TailFlush = 1 + whole_round e e.bound

abbrev pub round_calls : Engine → ℕ
round_calls e = round_calls_from e e.round

-- a step that made a call leaves fewer to make
abbrev pub LeavesFewer : (Engine → ℕ) → Progress → Engine → Engine → Type 0
LeavesFewer left NoProgress old new = ⊤
LeavesFewer left Step old new = left new < left old
LeavesFewer left (Done tid) old new = left new < left old
