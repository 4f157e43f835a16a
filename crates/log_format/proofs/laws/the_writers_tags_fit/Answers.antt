use Rattle.log_format.proofs.Written.{tags_from-fit}
use Rattle.log_format.proofs.laws.the_writers_tags_fit.Goals as goal

pub returns : goal.returns
returns c = tags_from-fit
