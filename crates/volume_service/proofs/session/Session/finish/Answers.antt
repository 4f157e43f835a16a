use Rattle.std.proofs.Common.{List, map, subst}
use Rattle.std.proofs.lemmas.Result.{IfOk-weaker}
use Rattle.volume_service.specs.declared.plan.Touch.{Touch}
use Rattle.volume_service.specs.Plan.{StopsAs, touch_step}
use Rattle.volume_service.proofs.Handles.{came}
use Rattle.volume_service.proofs.session.Session.finish.Goals as goal

-- The handle followed its plan.
pub returns-clause-ok : goal.returns-clause-ok
returns-clause-ok g c =
    let stops = subst (λ (ts : List Touch). StopsAs c.args.handle c.in_ok-ticket.ticket (map (touch_step c.args.handle.handle.number) ts)) c.deref.ensures.value c.in_ok-ticket.ensures.ok in
    IfOk-weaker c.follow.result _ _ (λ kept follows. came c.args.plan.now c.args.handle c.in_ok-ticket.ticket kept.0 kept.1 c.requires stops follows) c.follow.ensures.ok
