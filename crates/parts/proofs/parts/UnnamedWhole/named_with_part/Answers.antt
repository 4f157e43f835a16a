use Rattle.std.proofs.Common.{◌∙◌, arith}
use Rattle.parts.proofs.Moves.{hands_out}
use Rattle.parts.proofs.parts.UnnamedWhole.named_with_part.Goals as goal

-- the first fragment is handed out
pub split_seat-part-requires : goal.split_seat-part-requires
split_seat-part-requires g c = let m = c.self.invariant in (c.begin.ensures.0 ∙ m.1, omega (arith, m.0), hands_out _ _ _ _)
