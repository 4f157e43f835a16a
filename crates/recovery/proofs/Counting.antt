-- How many calls a device has had.
use Rattle.std.proofs.Common.{arith, subst, sym}
use Rattle.std.proofs.Math.Nat.{min-le_left}
use Rattle.std.specs.Prelude.{ℕ, ◌+◌, ◌≤◌}
use Rattle.block_device.specs.State.{CountsCall, DeviceState, most_calls}

-- a counted call adds one at most
pub one-call : (old new : DeviceState) → CountsCall old new → new.calls ≤ old.calls + 1
one-call old new counted = subst (λ (n : ℕ). n ≤ old.calls + 1) (sym counted) (min-le_left (old.calls + 1) most_calls)
