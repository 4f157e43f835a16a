use Rattle.std.proofs.Common.{subst}
use Rattle.std.specs.Prelude.{List, Vec}
use Rattle.std.specs.Global.{Global}
use Rattle.std.specs.List.{AllZip}
use Rattle.journal_script.specs.declared.clients.ClientHandle.{ClientHandle}
use Rattle.volume_service.specs.declared.plan.HandlePlan.{HandlePlan}
use Rattle.script_threads.specs.Plans.{IsPlanOf}
use Rattle.script_threads.proofs.Lists.{zips-more}
use Rattle.script_threads.proofs.plans.plans_of.Goals as goal

pub loop-client-preserved : goal.loop-client-preserved
loop-client-preserved c =
    let size = c.args.block_size in
    zips-more (λ (client : Vec ClientHandle Global) (plan : Vec HandlePlan Global). AllZip (IsPlanOf size) client.items plan.items) c.args.clients.now c.loop-client.plans.items
    c.push.new.self.items c.loop-client.client-index c.client-item.result c.in_ok-plan.plan c.loop-client-test.true c.client-item.is c.in_ok-push.ensures.items c.loop-client.invariant
    (subst (λ (hs : List ClientHandle). AllZip (IsPlanOf size) hs c.in_ok-plan.plan.items) c.deref.ensures.value c.in_ok-plan.ensures)
