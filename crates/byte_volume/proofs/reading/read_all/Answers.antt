use Rattle.std.proofs.Common.{◌≡◌, ◌+◌, ◌-◌, ◌/◌, arith, refl, length}
use Rattle.std.proofs.lemmas.Grind.{common_steps}
use Rattle.std.proofs.lemmas.Result.{err_from_is_err_and}
use Rattle.byte_volume.specs.Reading.RangeRefused.{OfBlock}
use Rattle.byte_volume.specs.Reading.ReadsRange.{NoByte}
use Rattle.byte_volume.proofs.Ranges.{further, length-written}
use Rattle.byte_volume.proofs.reading.read_all.Goals as goal

-- no byte was read
pub loop-done-init : goal.loop-done-init
loop-done-init g c = record { within = omega arith; same = refl; room = c.requires.room; reads = NoByte }

-- a part of the next block follows
pub loop-done-preserved : goal.loop-done-preserved
loop-done-preserved g c =
    let old = c.loop-done.into in
    let new = c.read_on.new.into in
    let long : length new ≡ length old - c.loop-done.done = grind (arith, common_steps) in
    let all = length-written old new c.loop-done.done c.loop-done.invariant.within long in
    record {
      within = omega (arith, all, long, c.loop-done.invariant.within, c.in_ok-done.ensures.some.1);
      same = omega (arith, all, c.loop-done.invariant.same);
      room = grind (arith, common_steps);
      reads = further g.D.Device.state g.D.Device.honest g.J.JournalName.name g.J.JournalName.name.shape.block_size c.args.offset c.loop-done.done c.in_ok-done.field-0 old new
          c.loop-done.invariant.within (omega (arith, long, c.in_ok-done.ensures.some.1)) c.loop-done.invariant.reads c.in_ok-done.ensures.part;
    }

-- the read of a block was refused
pub returns-in_err-done-clause-err : goal.returns-in_err-done-clause-err
returns-in_err-done-clause-err g c =
    let p = err_from_is_err_and c.from_residual.result c.from_residual.ensures.1 in
    rw (p.1, p.2) (OfBlock ((c.args.offset + c.loop-done.done) / g.J.JournalName.name.shape.block_size) c.in_err-done.ensures.err)
