use Rattle.std.proofs.Common.{All}
use Rattle.std.specs.BTreeSet.{keys}
use Rattle.journal_model.specs.declared.number.Area.TheVariants.{Home}
use Rattle.journal_model.specs.Disk.{reading}
use Rattle.block_device.specs.State.{Stays}
use Rattle.script_run.specs.LastEntries.{entry_in}
use Rattle.script_run.specs.Verdict.{IsLeft}
use Rattle.script_run.proofs.verdict.are_left.Given as goal

-- all named blocks are as they were left exactly if the remaining ones are
abbrev pub invariant-loop-block : goal.invariant-loop-block
invariant-loop-block g l =
    let old = g.D.Device.state l.fn.device in
    let P = IsLeft (entry_in l.last) (keys l.named.directs) old.shape.block_size (reading old.disk Home) in
    (goal.iterator-loop-block g).can_next l.block-iterator
    × (goal.iterator-loop-block g).is_finite l.block-iterator
    × Stays old (g.D.Device.state l.device)
    × (g.D.Device.honest l.device → g.D.Device.honest l.fn.device)
    × (g.D.Device.honest l.device → All P l.block-iterator → All P (keys l.named.blocks))
    × (All P (keys l.named.blocks) → All P l.block-iterator)
