use Rattle.std.proofs.Common.{take}
use Rattle.block_device.specs.MemInvariant.{Forgets}
use Rattle.block_device.proofs.memory.forget.Given as goal

abbrev pub invariant-loop-call : goal.invariant-loop-call
invariant-loop-call l = Forgets (take l.call-index l.calls) l.initial.index l.index
