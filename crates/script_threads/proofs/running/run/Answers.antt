use Rattle.std.proofs.Common.{subst, sym}
use Rattle.std.proofs.lemmas.Result.{IfOk-weaker}
use Rattle.std.specs.Prelude.{List, Vec}
use Rattle.std.specs.Global.{Global}
use Rattle.journal_script.specs.declared.clients.ClientHandle.{ClientHandle}
use Rattle.volume_service.specs.declared.plan.HandlePlan.{HandlePlan}
use Rattle.script_threads.specs.Plans.{ArePlansOf}
use Rattle.script_threads.proofs.Ending.{ended-of}
use Rattle.script_threads.proofs.running.run.Goals as goal

-- The plans and the blocks are the script's.
pub returns : goal.returns
returns g c =
    let named = c.in_ok-named.named in
    let plans = c.deref-2.result.now in
    let script = c.args.script.now in
    let made = subst (λ (clients : List (Vec ClientHandle Global)). ArePlansOf script.measures.block_size clients c.in_ok-plans.plans.items) c.deref.ensures.value c.in_ok-plans.ensures in
    let are = subst (λ (all : List (Vec HandlePlan Global)). ArePlansOf script.measures.block_size script.clients.items all) (sym c.deref-2.ensures.value) made in
    IfOk-weaker c.run_on.result _ _ (ended-of script plans named are c.in_ok-named.ensures.names c.in_ok-named.ensures.no_directs) c.run_on.ensures
