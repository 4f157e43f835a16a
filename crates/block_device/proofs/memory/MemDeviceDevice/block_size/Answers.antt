use Rattle.std.proofs.Common.{subst}
use Rattle.block_device.specs.Memory.{MemState, state_of, blank}
use Rattle.block_device.specs.State.{HoldsWholeBlocks}
use Rattle.block_device.proofs.WholeBlocks.{whole_calls, whole_blank}
use Rattle.block_device.proofs.memory.MemDeviceDevice.block_size.Goals as goal

pub returns-clause-whole : goal.returns-clause-whole
returns-clause-whole c =
    let d = c.self.inside in
    let Whole : MemState → Type 0 = λ s. HoldsWholeBlocks (state_of s) in
    subst Whole c.self.view_is (λ a n v below one. whole_calls d.size (blank d.size) d.calls.items (whole_blank d.size) c.self.invariant.sizes a n v one)
