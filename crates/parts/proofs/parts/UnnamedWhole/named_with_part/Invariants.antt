use Rattle.std.specs.Prelude.{Some}
use Rattle.parts.proofs.parts.UnnamedWhole.named_with_part.Given as goal

abbrev pub ghosts-begin : goal.ghosts-begin
ghosts-begin g a = record { whole = Some a.whole.now }
