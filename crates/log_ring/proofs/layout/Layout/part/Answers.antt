use Rattle.log_ring.proofs.PartPlaces.{text-at}
use Rattle.log_ring.proofs.layout.Layout.part.Goals as goal

-- it is the block of each such text
pub returns-clause-text : goal.returns-clause-text
returns-clause-text c = λ uuid sequence entries copies revokes.
    let v = c.args.self.now in
    text-at v.layout uuid sequence entries v.copies v.revokes c.args.k _ copies revokes c.part_at-part.ensures.part
