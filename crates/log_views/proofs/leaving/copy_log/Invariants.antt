use Rattle.std.proofs.Common.{◌≡◌, ℕ, length}
use Rattle.journal_model.specs.declared.number.Area.TheVariants.{Home}
use Rattle.block_device.specs.Call.{OnlyReads}
use Rattle.block_device.specs.Memory.{state_of}
use Rattle.log_views.specs.Leaving.{HasCopied}
use Rattle.log_views.proofs.leaving.copy_log.Given as goal

abbrev pub invariant-loop-n : goal.invariant-loop-n
invariant-loop-n g l =
    (length l.block ≡ length l.fn.block)
    × (l.copy.shape ≡ l.fn.copy.shape)
    × OnlyReads g.D.Device.state g.D.Device.honest l.fn.device l.device
    × (g.D.Device.honest l.device → HasCopied l.n (g.D.Device.state l.fn.device).disk (state_of l.copy).disk)
    × ((m : ℕ) → (state_of l.copy).disk Home m ≡ (state_of l.fn.copy).disk Home m)
