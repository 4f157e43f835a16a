use Rattle.std.proofs.Common.{refl}
use Rattle.volume_service.specs.declared.outcome.HandleOutcome.{HandleOutcome}
use Rattle.script_threads.specs.Runs.{IsTold}
use Rattle.script_threads.specs.declared.told.ToldHandle.{ToldHandle}
use Rattle.script_threads.proofs.Lists.{zips-more}
use Rattle.script_threads.proofs.told.told_client.Goals as goal

pub loop-handle-preserved : goal.loop-handle-preserved
loop-handle-preserved g c =
    zips-more (λ (h : HandleOutcome g.row.J.Denot g.row.R.Denot) (t : ToldHandle). IsTold h.tid h.receipt t) c.args.handles.now c.loop-handle.told.items c.push.new.self.items c.loop-handle.handle-index
    c.handle-item.result (record { tid = c.handle-item.result.tid; receipt = c.told_receipt-receipt.result }) c.loop-handle-test.true c.handle-item.is c.in_ok-push.ensures.items c.loop-handle.invariant (record { tid_is = refl; receipt_is = c.told_receipt-receipt.ensures })
