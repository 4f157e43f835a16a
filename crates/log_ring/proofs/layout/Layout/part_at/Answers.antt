use Rattle.std.proofs.Common.{arith, ap, subst}
use Rattle.journal_model.specs.Layout.{IsLayout}
use Rattle.log_ring.specs.Parts.{LayoutValue}
use Rattle.log_ring.proofs.PartPlaces.{commit-stands, copy-stands}
use Rattle.log_ring.proofs.layout.Layout.part_at.Goals as goal

-- descriptors and copies stand after the revoke blocks
pub returns-then-behind-self : goal.returns-then-behind-self
returns-then-behind-self c =
    let v = c.args.self.now in
    let taken = subst (λ (v : LayoutValue). IsLayout v.layout) c.self.view_is c.self.invariant.0 in
    let revokes = c.revoke_blocks-revoke_blocks.ensures in
    let copies = ap (λ (v : LayoutValue). v.copies) c.self.view_is in
    let descriptors = c.descriptors.ensures in
    record {
      part = copy-stands v.layout v.copies v.revokes c.args.k taken _ _ (omega arith) (omega arith) c.copy_part.ensures.part;
      fits = c.copy_part.ensures.fits;
    }

-- the commit block is the last
pub returns-else-behind-self : goal.returns-else-behind-self
returns-else-behind-self c =
    let v = c.args.self.now in
    let taken = subst (λ (v : LayoutValue). IsLayout v.layout) c.self.view_is c.self.invariant.0 in
    let revokes = c.revoke_blocks-revoke_blocks.ensures in
    let copies = ap (λ (v : LayoutValue). v.copies) c.self.view_is in
    let descriptors = c.descriptors.ensures in
    let needed = c.requires in
    record { part = commit-stands v.layout v.copies v.revokes c.args.k taken (omega arith); fits = tt }
