-- When a checkpoint round is due.
use Rattle.std.specs.Prelude.{◌≢◌, ◌⊎◌, ◌-◌, ◌/◌, ◌≤◌}
use Rattle.journal_world.specs.declared.round.Round.TheVariants.{Idle as NoRound}
use Rattle.journal_world.specs.Engine.{Engine}

-- one is under way, or committed transactions that are not released take at least half of the ring, or are 128
abbrev pub IsRoundDue : Engine → Type 0
IsRoundDue e = (e.round ≢ NoRound) ⊎ ((e.ring.blocks / 2 ≤ e.start - e.tail) ⊎ (128 ≤ e.committed - e.released))
