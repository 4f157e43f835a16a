use Rattle.std.proofs.Common.{rules, subst}
use Rattle.std.specs.Prelude.{List, All}
use Rattle.std.proofs.lemmas.List.{take_all}
use Rattle.script_threads.specs.Verdicts.{HasReceiptIn}
use Rattle.script_threads.specs.declared.told.ToldHandle.{ToldHandle}
use Rattle.script_threads.proofs.Lists.{all-more}
use Rattle.script_threads.proofs.verdicts.client_stands.Goals as goal

pub loop-handle-preserved : goal.loop-handle-preserved
loop-handle-preserved c =
    let one : HasReceiptIn c.args.committed.now c.handle-item.result.receipt = search rules in
    all-more (λ (h : ToldHandle). HasReceiptIn c.args.committed.now h.receipt) c.args.handles.now c.loop-handle.handle-index c.handle-item.result c.loop-handle-test.true c.handle-item.is c.loop-handle.invariant one

pub returns : goal.returns
returns c = (
  λ yes. subst (λ (hs : List ToldHandle). All (λ h. HasReceiptIn c.args.committed.now h.receipt) hs) (take_all c.loop-handle.handle-index c.args.handles.now c.loop-handle-test.false) c.loop-handle.invariant,
  λ all. search rules,
)
