-- The number is read from the slice that begins at its place.
use Rattle.std.proofs.Common.{◌∙◌}
use Rattle.log_format.proofs.Numbers.{number_from}
use Rattle.log_format.proofs.header.number_in.Goals as goal

pub returns : goal.returns
returns c = c.read_u32.ensures ∙ number_from c.args.at 4 c.args.block.now
