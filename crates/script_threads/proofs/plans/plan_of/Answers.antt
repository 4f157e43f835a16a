use Rattle.script_threads.specs.Plans.{IsPlanOf}
use Rattle.script_threads.proofs.Lists.{zips-more}
use Rattle.script_threads.proofs.plans.plan_of.Goals as goal

pub loop-handle-preserved : goal.loop-handle-preserved
loop-handle-preserved c =
    zips-more (IsPlanOf c.args.block_size) c.args.client.now c.loop-handle.plan.items c.push.new.self.items c.loop-handle.handle-index c.handle-item.result c.in_ok-planned.planned c.loop-handle-test.true
    c.handle-item.is c.in_ok-push.ensures.items c.loop-handle.invariant c.in_ok-planned.ensures
