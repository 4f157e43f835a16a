use Rattle.std.proofs.Common.{arith, refl, sym, subst, ap, ◌∙◌, ◌*◌, ◌<◌, Some, ℕ}
use Rattle.journal_model.specs.Layout.{numbers_of}
use Rattle.log_model.specs.OwnText.{ceil_div}
use Rattle.log_ring.specs.declared.layout.Part.TheVariants.{Revokes}
use Rattle.log_ring.specs.Parts.{LayoutValue}
use Rattle.log_ring.proofs.PartPlaces.{revoke-within, revokes-at}
use Rattle.log_ring.proofs.layout.Layout.revoke_part.Goals as goal

-- the block at its place has some of the revokes
pub returns : goal.returns
returns c =
    let l = c.self.inside.layout in
    let revokes = c.self.inside.revokes in
    let most = c.numbers_of-most.ensures in
    let there = subst (λ (v : LayoutValue). c.args.k < ceil_div v.revokes (numbers_of v.layout)) (sym c.self.view_is) c.requires in
    let within = revoke-within l revokes c.args.k _ _ most.numbers most.some refl there in
    let least = c.min.ensures in
    rw (← c.self.view_is) (record {
      part =
          revokes-at l revokes c.args.k _ _ most.numbers most.some refl there
          ∙ ap (λ (n : ℕ). Some (Revokes (c.args.k * c.numbers_of-most.result) n)) (sym least);
      fits = (omega arith, omega arith, omega arith);
    })
