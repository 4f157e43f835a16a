use Rattle.std.proofs.Common.{false, rules}
use Rattle.std.proofs.Output.{has_written_of_eq}
use Rattle.std.proofs.lemmas.Fmt.{hex_byte}
use Rattle.script_client.proofs.outcome.write_byte.Goals as goal

-- two digits, with a zero before a single one
pub returns : goal.returns
returns g c = λ plain ok. has_written_of_eq _ _ _ _ _ (hex_byte false c.args.byte (search (rules, c.ranges.byte))) (search rules)
