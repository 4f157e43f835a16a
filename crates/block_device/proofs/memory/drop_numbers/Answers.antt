use Rattle.std.proofs.Common.{◌∙◌, ap, set}
use Rattle.block_device.specs.declared.memory.Call.TheVariants.{Wrote, Flushed}
use Rattle.block_device.proofs.Calls.{unnumber_call}
use Rattle.block_device.proofs.memory.drop_numbers.Goals as goal
use Rattle.block_device.proofs.memory.drop_numbers.Goals.{in-Wrote, in_default}

pub loop-call-preserved : goal.loop-call-preserved
loop-call-preserved c = elim c.match-call.branch [
  | in-Wrote w ↦
      w.calls-is
      ∙ unnumber_call c.loop-call.calls c.args.calls.now c.loop-call.call-index c.call-item.result (Wrote w.in-Wrote.write) c.loop-call-test.true c.loop-call.invariant c.call-item.is (c.call-item.is ∙ w.in-Wrote.is)
  | in_default w ↦
      w.calls-is
      ∙ ap (set c.loop-call.calls c.loop-call.call-index) w.in_default.is
      ∙ unnumber_call c.loop-call.calls c.args.calls.now c.loop-call.call-index c.call-item.result (Flushed w.in_default.field-0) c.loop-call-test.true c.loop-call.invariant c.call-item.is (c.call-item.is ∙ w.in_default.is)
]
