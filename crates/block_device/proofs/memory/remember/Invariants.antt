use Rattle.std.proofs.Common.{take}
use Rattle.block_device.specs.MemInvariant.{Remembers}
use Rattle.block_device.proofs.memory.remember.Given as goal

abbrev pub invariant-loop-i : goal.invariant-loop-i
invariant-loop-i l = Remembers (take l.i l.calls) l.initial.index l.index
