use Rattle.std.proofs.Common.{◌≡◌, ◌∙◌, ap, arith, ℕ, List, [], ◌∷◌, ◌++◌, subst, replicate}
use Rattle.std.proofs.lemmas.List.{replicate_more}
use Rattle.script_client.specs.declared.slots.Slot.{Slot}
use Rattle.script_client.specs.declared.slots.Slot.TheVariants.{Empty}
use Rattle.script_client.proofs.slots.Slots.of.Goals as goal

-- and one more
pub loop-preserved : goal.loop-preserved
loop-preserved c = record {
  items = c.push_reserved.ensures.items ∙ ap (λ (xs : List Slot). xs ++ Empty ∷ []) c.loop.invariant.items ∙ replicate_more c.loop.counter Empty;
  capacity = c.push_reserved.ensures.capacity ∙ c.loop.invariant.capacity;
}

-- all of them
pub returns : goal.returns
returns c =
    let end : c.loop.counter ≡ 10000 = omega (arith, c.loop-test.false, c.loop.auto.counter-end) in
    subst (λ (n : ℕ). c.loop.slots.items ≡ replicate n Empty) end c.loop.invariant.items
