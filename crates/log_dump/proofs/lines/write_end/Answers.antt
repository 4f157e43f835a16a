use Rattle.std.proofs.Common.{append_assoc}
use Rattle.log_dump.proofs.lines.write_end.Goals as goal

pub returns : goal.returns
returns g c = simp append_assoc c.writeln.ensures.bytes
