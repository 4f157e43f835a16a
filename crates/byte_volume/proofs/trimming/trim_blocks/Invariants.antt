use Rattle.std.proofs.Common.{◌≤◌, ◌-◌}
use Rattle.byte_volume.specs.Numbers.{last_taken}
use Rattle.byte_volume.specs.Writing.{AreNoted, TrimsBlocks}
use Rattle.byte_volume.proofs.trimming.trim_blocks.Given as goal

-- this many blocks are trimmed; noted handles stay noted, all of transactions that a later opening takes
abbrev pub invariant-loop-done : goal.invariant-loop-done
invariant-loop-done g l = record {
  within : l.done ≤ l.blocks;
  kept : l.fn.stopped ≤ l.stopped;
  taken : l.fn.stopped ≤ last_taken → l.stopped ≤ last_taken;
  trimmed : TrimsBlocks g.D.Device.state g.D.Device.honest g.J.JournalName.name l.first l.tickets.items l.done;
  noted : AreNoted l.stopped l.tickets.items;
}

-- fewer blocks are left
abbrev pub decreases-loop-done : goal.decreases-loop-done
decreases-loop-done g l = l.blocks - l.done
