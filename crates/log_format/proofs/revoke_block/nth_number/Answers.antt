-- The number is read from the slice that begins at its place.
use Rattle.std.proofs.Common.{◌∙◌, ◌+◌, ◌*◌}
use Rattle.log_format.proofs.Numbers.{number_from}
use Rattle.log_format.proofs.revoke_block.nth_number.Goals as goal

pub returns-clause-number : goal.returns-clause-number
returns-clause-number c = c.read_whole.ensures.number ∙ number_from (16 + c.args.layout.number_bytes * c.args.i) c.args.layout.number_bytes c.args.block.now
