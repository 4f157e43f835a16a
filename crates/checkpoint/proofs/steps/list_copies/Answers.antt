use Rattle.std.proofs.Common.{◌≡◌, ◌+◌, ◌∷◌, ℕ, drop, length, length-append, arith, sym, ap, ◌∙◌}
use Rattle.std.proofs.lemmas.List.{drop_more}
use Rattle.journal_model.specs.declared.entry.Entry.{Entry}
use Rattle.checkpoint.specs.Steps.{places_of}
use Rattle.checkpoint.proofs.Listed.{length-places, places-copy}
use Rattle.checkpoint.proofs.steps.list_copies.Goals as goal

-- one more place is left, so the list is not full
pub push_reserved-requires : goal.push_reserved-requires
push_reserved-requires c =
    let entries = c.args.entries.now in
    let item = c.index-entries-place.result in
    let k = c.loop-place.place in
    let rest : drop k entries ≡ item ∷ drop (k + 1) entries =
    drop_more entries k item c.loop-place-test.true ∙ ap (λ (e : ℕ × Entry). e ∷ drop (k + 1) entries) (sym c.index-entries-place.is) in
    let left : places_of k (drop k entries) ≡ (item.0, k) ∷ places_of (k + 1) (drop (k + 1) entries) =
    ap (places_of k) rest ∙ places-copy k item c.in-Copy.field-0 (drop (k + 1) entries) c.in-Copy.is in
    let more = ap length left in
    let all = ap length c.loop-place.invariant.rest in
    let split = length-append c.loop-place.list.items (places_of k (drop k entries)) in
    omega (arith, c.requires, length-places 0 entries, c.loop-place.list.ok.0, c.loop-place.invariant.capacity)
