use Rattle.std.proofs.Common.{◌≡◌, ◌++◌, take, drop}
use Rattle.std.specs.Prelude.{map}
use Rattle.block_device.specs.MemInvariant.{unnumbered}
use Rattle.block_device.proofs.memory.drop_numbers.Given as goal

abbrev pub invariant-loop-call : goal.invariant-loop-call
invariant-loop-call l = l.calls ≡ map unnumbered (take l.call-index l.initial.calls) ++ drop l.call-index l.initial.calls
