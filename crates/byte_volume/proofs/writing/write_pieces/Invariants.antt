use Rattle.std.proofs.Common.{◌≡◌, ◌≤◌, ◌<◌, ◌+◌, ◌-◌, ◌%◌, length, take}
use Rattle.byte_volume.specs.Numbers.{last_taken}
use Rattle.byte_volume.specs.Writing.{AreNoted, WritesPieces}
use Rattle.byte_volume.proofs.writing.write_pieces.Given as goal

-- this many bytes are written, and then a block begins; noted handles stay noted, all of transactions that a later opening takes
abbrev pub invariant-loop-done : goal.invariant-loop-done
invariant-loop-done g l = record {
  within : l.done ≤ length l.bytes;
  kept : l.fn.stopped ≤ l.stopped;
  taken : l.fn.stopped ≤ last_taken → l.stopped ≤ last_taken;
  begins : l.done < length l.bytes → 0 < (l.offset + l.done) % g.J.JournalName.name.shape.block_size → l.done ≡ 0;
  pieces : WritesPieces g.D.Device.state g.D.Device.honest g.J.JournalName.name g.J.JournalName.name.shape.block_size l.offset l.tickets.items (take l.done l.bytes);
  noted : AreNoted l.stopped l.tickets.items;
}

-- fewer bytes are left
abbrev pub decreases-loop-done : goal.decreases-loop-done
decreases-loop-done g l = length l.bytes - l.done
