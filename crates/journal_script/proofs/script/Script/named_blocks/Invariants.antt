use Rattle.std.specs.Prelude.{take}
use Rattle.std.specs.BTreeSet.{keys}
use Rattle.journal_script.specs.Named.{HasDirects, HasNamed}
use Rattle.journal_script.proofs.script.Script.named_blocks.Given as goal

-- those of the operations so far are named
abbrev pub invariant-loop-operation : goal.invariant-loop-operation
invariant-loop-operation l =
    HasNamed l.self.measures.home_blocks (take l.operation-index l.operation-items) (keys l.blocks)
    × HasDirects (take l.operation-index l.operation-items) (keys l.directs)
