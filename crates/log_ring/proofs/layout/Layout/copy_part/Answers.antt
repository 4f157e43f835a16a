use Rattle.std.proofs.Common.{arith, refl, sym, subst, ap, ◌∙◌, ◌+◌, ◌*◌, ◌/◌, ◌<◌, Some, ℕ}
use Rattle.journal_model.specs.Layout.{tags_of}
use Rattle.log_model.specs.OwnText.{ceil_div}
use Rattle.log_ring.specs.declared.layout.Part.TheVariants.{Descriptor}
use Rattle.log_ring.specs.Parts.{LayoutValue}
use Rattle.log_ring.proofs.PartPlaces.{copy-here, copy-within, descriptor-here}
use Rattle.log_ring.proofs.layout.Layout.copy_part.Goals as goal

-- a copy stands at another place than the first of a group
pub returns-then-place-gt0 : goal.returns-then-place-gt0
returns-then-place-gt0 c =
    let l = c.self.inside.layout in
    let copies = c.self.inside.copies in
    let most = c.tags_of-most.ensures in
    let there = subst (λ (v : LayoutValue). c.args.k < v.copies + ceil_div v.copies (tags_of v.layout)) (sym c.self.view_is) c.requires in
    let within = copy-within l copies c.self.invariant.0 c.args.k _ most.tags most.some there in
    rw (← c.self.view_is) (record {
      part = copy-here l copies c.self.invariant.0 c.args.k _ most.tags most.some there _ (omega arith) c.if-place-gt0.true;
      fits = omega arith;
    })

-- a descriptor stands at the first, and has some of the copies
pub returns-else-place-gt0 : goal.returns-else-place-gt0
returns-else-place-gt0 c =
    let l = c.self.inside.layout in
    let copies = c.self.inside.copies in
    let most = c.tags_of-most.ensures in
    let there = subst (λ (v : LayoutValue). c.args.k < v.copies + ceil_div v.copies (tags_of v.layout)) (sym c.self.view_is) c.requires in
    let within = copy-within l copies c.self.invariant.0 c.args.k _ most.tags most.some there in
    let least = c.min.ensures in
    rw (← c.self.view_is) (record {
      part =
          descriptor-here l copies c.self.invariant.0 c.args.k _ most.tags most.some there _ refl (omega arith)
          ∙ ap (λ (n : ℕ). Some (Descriptor (c.args.k / (c.tags_of-most.result + 1) * c.tags_of-most.result) n)) (sym least);
      fits = (omega arith, omega arith, omega arith);
    })
