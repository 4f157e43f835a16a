use Rattle.std.proofs.Common.{◌≡◌, ◌⊎◌, subst, sym}
use Rattle.std.specs.Prelude.{List, All, IfSome, Some, Vec, take}
use Rattle.std.specs.Global.{Global}
use Rattle.std.proofs.lemmas.List.{take_all}
use Rattle.std.proofs.lemmas.List.Elements.{All-weaker}
use Rattle.script_threads.specs.Verdicts.{HasReceiptUpTo, IsOfHandle}
use Rattle.script_threads.specs.declared.told.ToldHandle.{ToldHandle}
use Rattle.script_threads.proofs.Lists.{all-more, still-any, up-still}
use Rattle.script_threads.proofs.verdicts.greatest_receipt.Goals as goal

pub loop-client-preserved : goal.loop-client-preserved
loop-client-preserved c =
    let old = c.loop-client.greatest in
    let new = c.greater_receipt-greatest.result in
    let says = c.greater_receipt-greatest.ensures in
    let i = c.loop-client.client-index in
    let client = c.client-item.result in
    record {
      all = all-more (λ (v : Vec ToldHandle Global). All (λ h. HasReceiptUpTo new h.receipt) v.items) c.args.clients.now i client c.loop-client-test.true c.client-item.is
          (All-weaker (λ (v : Vec ToldHandle Global). All (λ h. HasReceiptUpTo old h.receipt) v.items) (λ (v : Vec ToldHandle Global). All (λ h. HasReceiptUpTo new h.receipt) v.items)
          (λ v. All-weaker (λ (h : ToldHandle). HasReceiptUpTo old h.receipt) (λ (h : ToldHandle). HasReceiptUpTo new h.receipt) (λ h. up-still old new says.keeps h.receipt) v.items) (take i c.args.clients.now)
          c.loop-client.invariant.all)
          (subst (λ (hs : List ToldHandle). All (λ h. HasReceiptUpTo new h.receipt) hs) c.deref.ensures.value says.all);
      some = still-any old new c.args.clients.now client (i, c.loop-client-test.true, sym c.client-item.is) c.loop-client.invariant.some
          (subst (λ (hs : List ToldHandle). IfSome new (λ tid. (old ≡ Some tid) ⊎ IsOfHandle hs tid)) c.deref.ensures.value says.some);
    }

pub returns-clause-all : goal.returns-clause-all
returns-clause-all c =
    subst (λ (vs : List (Vec ToldHandle Global)). All (λ v. All (λ h. HasReceiptUpTo c.loop-client.greatest h.receipt) v.items) vs)
    (take_all c.loop-client.client-index c.args.clients.now c.loop-client-test.false) c.loop-client.invariant.all
