use Rattle.log_ring.proofs.OwnParts.{length-parts}
use Rattle.log_ring.proofs.layout_laws.need_is_the_number_of_parts.Goals as goal

pub returns : goal.returns
returns c = length-parts
