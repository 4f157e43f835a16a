-- When a device that crashes at a write does so, and what calls then do. This project's own.
use Rattle.std.specs.Prelude.{◌≡◌, ℕ, ◌-◌, Bool, true, Result, IsErr}
use Rattle.block_device.specs.State.{DeviceState, with_own_counts, one_more_call, one_more_fault}
use Rattle.block_device.specs.declared.stop.StopAt.{StopAt}

abbrev pub inner_of : {D : Type 0} → StopAt D → D
inner_of s = s.device

-- the writes left, with the one at which it crashes; 0 if it never does
abbrev pub left_of : {D : Type 0} → StopAt D → ℕ
left_of s = s.left

abbrev pub is_stopped : {D : Type 0} → StopAt D → Bool
is_stopped s = s.stopped

-- the inner device's state, with failures and calls of its own
abbrev pub stopping : {D : Type 0} → (D → DeviceState) → StopAt D → DeviceState
stopping state s = with_own_counts (state s.device) s.faults s.calls

-- the call is counted, and only the inner device changed
abbrev pub PassesOn : {D : Type 0} → StopAt D → StopAt D → Type 0
PassesOn old new = new ≡ record old { device = new.device; calls = one_more_call old.calls }

abbrev pub UsesWrite : {D : Type 0} → StopAt D → StopAt D → Type 0
UsesWrite old new = new ≡ record old { device = new.device; left = old.left - 1; calls = one_more_call old.calls }

-- after the crash a call answers a fault, and changes only counts
abbrev pub IsSilent : {D T E : Type 0} → Result T E → StopAt D → StopAt D → Type 0
IsSilent result old new =
    is_stopped old ≡ true → IsErr result × (new ≡ record old { faults = one_more_fault old.faults; calls = one_more_call old.calls })
