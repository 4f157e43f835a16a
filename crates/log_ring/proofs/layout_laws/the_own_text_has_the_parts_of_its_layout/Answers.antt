use Rattle.log_ring.proofs.OwnParts.{own-parts}
use Rattle.log_ring.proofs.layout_laws.the_own_text_has_the_parts_of_its_layout.Goals as goal

pub returns : goal.returns
returns c = λ l uuid sequence entries layout. own-parts l uuid sequence entries
