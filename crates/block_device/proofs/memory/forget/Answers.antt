use Rattle.std.proofs.Common.{take}
use Rattle.block_device.specs.declared.memory.Call.TheVariants.{Wrote, Flushed}
use Rattle.block_device.proofs.Calls.{take_call, forgets-push, forgets-flush}
use Rattle.block_device.proofs.memory.forget.Goals as goal
use Rattle.block_device.proofs.memory.forget.Goals.{in-Wrote, in_default}

pub loop-call-preserved : goal.loop-call-preserved
loop-call-preserved c = elim c.match-call.branch [
  | in-Wrote w ↦
      rw (w.index-is, take_call c.args.calls.now c.loop-call.call-index c.call-item.result (Wrote w.in-Wrote.write) c.loop-call-test.true c.call-item.is w.in-Wrote.is)
      (forgets-push (take c.loop-call.call-index c.args.calls.now) w.in-Wrote.write c.args.index.now c.loop-call.index w.reset.new.self c.loop-call.invariant w.reset.ensures)
  | in_default w ↦
      rw (w.index-is, take_call c.args.calls.now c.loop-call.call-index c.call-item.result (Flushed w.in_default.field-0) c.loop-call-test.true c.call-item.is w.in_default.is)
      (forgets-flush (take c.loop-call.call-index c.args.calls.now) w.in_default.field-0 c.args.index.now c.loop-call.index c.loop-call.invariant)
]
