use Rattle.std.proofs.Common.{subst}
use Rattle.std.specs.Prelude.{List, Vec}
use Rattle.std.specs.Global.{Global}
use Rattle.std.specs.List.{AllZip}
use Rattle.volume_service.specs.declared.outcome.ClientOutcome.{ClientOutcome}
use Rattle.volume_service.specs.declared.outcome.HandleOutcome.{HandleOutcome}
use Rattle.script_threads.specs.Runs.{IsTold}
use Rattle.script_threads.specs.declared.told.ToldHandle.{ToldHandle}
use Rattle.script_threads.proofs.Lists.{zips-more}
use Rattle.script_threads.proofs.told.told_of.Goals as goal

pub loop-client-preserved : goal.loop-client-preserved
loop-client-preserved g c =
    zips-more (λ (client : ClientOutcome g.row.J.Denot g.row.R.Denot) (ts : Vec ToldHandle Global). AllZip (λ h t. IsTold h.tid h.receipt t) client.handles.items ts.items) c.args.clients.now
    c.loop-client.told.items c.push.new.self.items c.loop-client.client-index c.client-item.result c.in_ok-handles.handles c.loop-client-test.true c.client-item.is c.in_ok-push.ensures.items
    c.loop-client.invariant
    (subst (λ (hs : List (HandleOutcome g.row.J.Denot g.row.R.Denot)). AllZip (λ h t. IsTold h.tid h.receipt t) hs c.in_ok-handles.handles.items) c.deref.ensures.value c.in_ok-handles.ensures)
