use Rattle.std.proofs.Common.{◌∙◌, rules, sym, ap, subst, Vec, Global}
use Rattle.std.specs.Prelude.{◌≡◌, List, [], ◌∷◌, ◌++◌, All, map}
use Rattle.std.proofs.lemmas.List.{map-append}
use Rattle.std.proofs.lemmas.List.Elements.{All-push}
use Rattle.serde_json.specs.View.{view}
use Rattle.journal_script.specs.Clients.{IsClient, IsServable}
use Rattle.journal_script.specs.declared.clients.ClientHandle.{ClientHandle}
use Rattle.journal_script.proofs.Serving.{reads-more}
use Rattle.journal_script.proofs.clients.read_all.Goals as goal

-- one more was read
pub loop-list-preserved : goal.loop-list-preserved
loop-list-preserved c =
    let items = λ (v : Vec ClientHandle Global). v.items in
    let served = All (IsServable c.args.limits.capacity c.args.limits.home_blocks) in
    let handles = c.in_ok-handles.handles in
    let so_far = map items c.loop-list.clients.items in
    let adds : map items c.push.new.self.items ≡ so_far ++ handles.items ∷ [] =
    ap (map items) c.in_ok-push.ensures.items ∙ map-append items c.loop-list.clients.items (handles ∷ []) in
    record {
      count = search rules;
      are = reads-more IsClient so_far (map items c.push.new.self.items) c.args.lists.now c.loop-list.list-index handles.items c.list-item.result c.loop-list-test.true c.list-item.is adds
          c.loop-list.invariant.are (record { values = map view c.in_ok-operations.operations.now; is = c.in_ok-operations.ensures.is; are = c.in_ok-handles.ensures.are });
      servable = subst (λ (hs : List (List ClientHandle)). All served hs) (sym adds) (All-push served so_far handles.items c.loop-list.invariant.servable c.in_ok-handles.ensures.servable);
    }
