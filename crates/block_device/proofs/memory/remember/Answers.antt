use Rattle.std.proofs.Common.{take, sym, arith}
use Rattle.std.proofs.lemmas.List.{length-take-le}
use Rattle.block_device.specs.declared.memory.Call.TheVariants.{Wrote, Flushed}
use Rattle.block_device.proofs.Calls.{take_call, remembers-push, remembers-flush}
use Rattle.block_device.proofs.memory.remember.Goals as goal
use Rattle.block_device.proofs.memory.remember.Goals.{in-Wrote, in_default}

pub loop-i-preserved : goal.loop-i-preserved
loop-i-preserved c = elim c.match-call.branch [
  | in-Wrote w ↦
      rw (w.index-is, take_call c.args.calls.now c.loop-i.i c.index-calls-i.result (Wrote w.in-Wrote.write) c.loop-i-test.true c.index-calls-i.is w.in-Wrote.is)
      (remembers-push (take c.loop-i.i c.args.calls.now) w.in-Wrote.write c.loop-i.i c.args.index.now c.loop-i.index w.reset.new.self
      (sym (length-take-le c.loop-i.i c.args.calls.now (omega arith))) c.loop-i.invariant w.reset.ensures)
  | in_default w ↦
      rw (w.index-is, take_call c.args.calls.now c.loop-i.i c.index-calls-i.result (Flushed w.in_default.field-0) c.loop-i-test.true c.index-calls-i.is w.in_default.is)
      (remembers-flush (take c.loop-i.i c.args.calls.now) w.in_default.field-0 c.args.index.now c.loop-i.index c.loop-i.invariant)
]
