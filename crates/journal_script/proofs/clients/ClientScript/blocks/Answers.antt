use Rattle.std.proofs.Common.{◌∙◌, sym, subst, Vec, Global}
use Rattle.std.specs.Prelude.{List, All, map, take}
use Rattle.std.specs.BTreeSet.{keys}
use Rattle.std.proofs.lemmas.List.{take_all}
use Rattle.std.proofs.lemmas.List.Elements.{All-push, All-weaker}
use Rattle.journal_script.specs.Clients.{HasTouchedAll}
use Rattle.journal_script.specs.declared.clients.ClientHandle.{ClientHandle}
use Rattle.journal_script.proofs.Serving.{items-more, touched-all-still}
use Rattle.journal_script.proofs.clients.ClientScript.blocks.Goals as goal

-- those of one more client are noted
pub loop-client-preserved : goal.loop-client-preserved
loop-client-preserved c =
    let all = c.deref-client-items.result.now in
    let i = c.loop-client.client-index in
    let so_far = map (λ (v : Vec ClientHandle Global). v.items) (take i all) in
    let old = keys c.loop-client.blocks in
    let new = keys c.note_client.new.blocks in
    let noted = c.in_ok-note_client.ensures in
    subst (λ (hs : List (List ClientHandle)). All (λ h. HasTouchedAll h new) hs) (sym (items-more all i c.client-item.result c.loop-client-test.true c.client-item.is))
    (All-push (λ (h : List ClientHandle). HasTouchedAll h new) so_far c.client-item.result.items
    (All-weaker (λ (h : List ClientHandle). HasTouchedAll h old) (λ (h : List ClientHandle). HasTouchedAll h new) (λ h. touched-all-still h old new noted.keeps) so_far c.loop-client.invariant)
    (subst (λ (hs : List ClientHandle). HasTouchedAll hs new) c.deref.ensures.value noted.notes))

-- those of all clients are
pub returns : goal.returns
returns c =
    let whole = take_all c.loop-client.client-index _ c.loop-client-test.false ∙ c.deref-client-items.ensures.value in
    subst (λ (vs : List (Vec ClientHandle Global)). All (λ h. HasTouchedAll h (keys c.loop-client.blocks)) (map (λ (v : Vec ClientHandle Global). v.items) vs)) whole c.loop-client.invariant
