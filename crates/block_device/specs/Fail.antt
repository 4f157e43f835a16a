-- When a device that fails once fails, and what a call then does. This project's own.
use Rattle.std.specs.Prelude.{◌≡◌, ℕ, ◌+◌, Result, IsErr}
use Rattle.block_device.specs.State.{DeviceState, with_own_counts, one_more_call, one_more_fault}
use Rattle.block_device.specs.declared.fail.FailOnce.{FailOnce}

abbrev pub inner_of : {D : Type 0} → FailOnce D → D
inner_of s = s.device

abbrev pub calls_of : {D : Type 0} → FailOnce D → ℕ
calls_of s = s.calls

abbrev pub FailsNext : {D : Type 0} → FailOnce D → Type 0
FailsNext s = s.calls + 1 ≡ s.fails_at

-- the inner device's state, with failures and calls of its own
abbrev pub failing : {D : Type 0} → (D → DeviceState) → FailOnce D → DeviceState
failing state s = with_own_counts (state s.device) s.faults s.calls

-- the call failed and did nothing, and both are counted
abbrev pub IsLost : {D T E : Type 0} → Result T E → FailOnce D → FailOnce D → Type 0
IsLost result old new = IsErr result × (new ≡ record old { calls = one_more_call old.calls; faults = one_more_fault old.faults })

-- the call is counted, and only the inner device changed
abbrev pub PassesOn : {D : Type 0} → FailOnce D → FailOnce D → Type 0
PassesOn old new = new ≡ record old { device = new.device; calls = one_more_call old.calls }
