-- A call of a round that succeeds keeps the engine sound.
use Rattle.std.proofs.Common.{refl, sym, subst}
use Rattle.std.specs.Prelude.{◌≡◌}
use Rattle.journal_model.specs.Disk.{Disk}
use Rattle.journal_world.specs.declared.round.Round.{Round}
use Rattle.journal_world.specs.Call.{Call, after_success}
use Rattle.journal_world.specs.Checkpoint.{RoundCall, RoundSteps, begun}
use Rattle.journal_world.specs.Checkpoint.RoundCall.{CopyHome, FlushHome, WriteTail, FlushTail}
use Rattle.journal_world.specs.Engine.{Engine}
use Rattle.journal_world.specs.Sound.{Sound}
use Rattle.journal_world.proofs.Copying.{copied-sound, home_flush-sound}
use Rattle.journal_world.proofs.Releasing.{tail_flush-sound, tail_write-sound}
use Rattle.journal_world.proofs.Rounds.{begun-sound}

-- whichever call is due, the engine is sound after it
call-sound : (e : Engine) (round : Round) (call : Call) (new : Engine) (disk : Disk) → Sound e disk → e.round ≡ round → RoundCall e round call new →
    Sound new (after_success call disk)
call-sound e round call new disk sound at (CopyHome transaction block i b v next) = copied-sound e disk transaction block i b v sound at next
call-sound e round call new disk sound at (FlushHome transaction block none) = home_flush-sound e disk transaction block sound at none
call-sound e round call new disk sound at WriteTail = tail_write-sound e disk sound at
call-sound e round call new disk sound at FlushTail = tail_flush-sound e disk sound at

-- a step of a round keeps the engine sound
pub round-sound : (old new : Engine) (disk after : Disk) → Sound old disk → RoundSteps old disk new after → Sound new after
round-sound old new disk after sound step =
    subst (λ (d : Disk). Sound new d) (sym step.disk_is)
    (call-sound (begun old) (begun old).round step.call new disk (begun-sound old disk sound step.round) refl step.due)
