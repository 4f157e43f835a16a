use Rattle.std.proofs.Common.{◌≡◌, take}
use Rattle.block_device.proofs.memory.copy_of_calls.Given as goal

-- the calls so far
abbrev pub invariant-loop-call : goal.invariant-loop-call
invariant-loop-call l = l.copies.items ≡ take l.call-index l.calls
