use Rattle.std.proofs.Common.{rules, subst}
use Rattle.std.specs.Prelude.{List, All, Vec}
use Rattle.std.specs.Global.{Global}
use Rattle.std.proofs.lemmas.List.{take_all}
use Rattle.script_threads.specs.Verdicts.{HasReceiptIn}
use Rattle.script_threads.specs.declared.told.ToldHandle.{ToldHandle}
use Rattle.script_threads.proofs.Lists.{all-more}
use Rattle.script_threads.proofs.verdicts.receipts_stand.Goals as goal

pub loop-client-preserved : goal.loop-client-preserved
loop-client-preserved c =
    let one : All (λ h. HasReceiptIn c.args.committed.now h.receipt) c.deref.result.now = search rules in
    all-more (λ (v : Vec ToldHandle Global). All (λ h. HasReceiptIn c.args.committed.now h.receipt) v.items) c.args.clients.now c.loop-client.client-index c.client-item.result c.loop-client-test.true
    c.client-item.is c.loop-client.invariant
    (subst (λ (hs : List ToldHandle). All (λ h. HasReceiptIn c.args.committed.now h.receipt) hs) c.deref.ensures.value one)

pub returns : goal.returns
returns c = (
  λ yes. subst (λ (vs : List (Vec ToldHandle Global)). All (λ v. All (λ h. HasReceiptIn c.args.committed.now h.receipt) v.items) vs)
      (take_all c.loop-client.client-index c.args.clients.now c.loop-client-test.false) c.loop-client.invariant,
  λ all. search rules,
)
