use Rattle.std.proofs.Common.{◌≡◌, ◌≤◌, ◌-◌, length, take}
use Rattle.byte_volume.specs.Reading.{ReadsRange}
use Rattle.byte_volume.proofs.reading.read_all.Given as goal

-- the buffer begins with this many bytes of the range
abbrev pub invariant-loop-done : goal.invariant-loop-done
invariant-loop-done g l =
    let size = g.J.JournalName.name.shape.block_size in
    record {
      within : l.done ≤ length l.into;
      same : length l.into ≡ length l.fn.into;
      room : length l.room ≡ size;
      reads : ReadsRange g.D.Device.state g.D.Device.honest g.J.JournalName.name size l.offset (take l.done l.into);
    }

-- fewer bytes are left
abbrev pub decreases-loop-done : goal.decreases-loop-done
decreases-loop-done g l = length l.into - l.done
