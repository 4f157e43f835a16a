use Rattle.std.proofs.Common.{rules, subst, sym}
use Rattle.std.specs.Prelude.{List, All, take}
use Rattle.std.proofs.lemmas.List.{take_all}
use Rattle.std.proofs.lemmas.List.Elements.{All-weaker}
use Rattle.script_threads.specs.Verdicts.{HasReceiptUpTo}
use Rattle.script_threads.specs.declared.told.ToldHandle.{ToldHandle}
use Rattle.script_threads.proofs.Lists.{all-more, begins-one, still-one, up-still}
use Rattle.script_threads.proofs.verdicts.greater_receipt.Goals as goal

-- At first it is `least`.
pub loop-handle-init : goal.loop-handle-init
loop-handle-init c = record { all = search rules; keeps = λ tid up. up; some = begins-one c.args.least c.args.handles.now }

pub loop-handle-preserved : goal.loop-handle-preserved
loop-handle-preserved c =
    let old = c.loop-handle.greatest in
    let new = c.later-greatest.result in
    let says = c.later-greatest.ensures in
    let i = c.loop-handle.handle-index in
    record {
      all = all-more (λ (h : ToldHandle). HasReceiptUpTo new h.receipt) c.args.handles.now i c.handle-item.result c.loop-handle-test.true c.handle-item.is
          (All-weaker (λ (h : ToldHandle). HasReceiptUpTo old h.receipt) (λ (h : ToldHandle). HasReceiptUpTo new h.receipt) (λ h. up-still old new says.keeps h.receipt) (take i c.args.handles.now)
          c.loop-handle.invariant.all) says.it;
      keeps = λ tid up. says.keeps tid (c.loop-handle.invariant.keeps tid up);
      some = still-one c.args.least old new c.args.handles.now c.handle-item.result (i, c.loop-handle-test.true, sym c.handle-item.is) c.loop-handle.invariant.some says.some;
    }

pub returns-clause-all : goal.returns-clause-all
returns-clause-all c =
    subst (λ (hs : List ToldHandle). All (λ h. HasReceiptUpTo c.loop-handle.greatest h.receipt) hs) (take_all c.loop-handle.handle-index c.args.handles.now c.loop-handle-test.false)
    c.loop-handle.invariant.all
