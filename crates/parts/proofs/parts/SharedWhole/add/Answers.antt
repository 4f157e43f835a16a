use Rattle.std.proofs.Common.{sym, ◌∙◌, arith}
use Rattle.parts.proofs.Moves.{hands_out}
use Rattle.parts.proofs.parts.SharedWhole.add.Goals as goal

-- the new fragment is handed out
pub split_seat-place-requires : goal.split_seat-place-requires
split_seat-place-requires g c =
    let p = c.self.invariant in
    (c.step.ensures.place.0 ∙ (c.whole.invariant.0 ∙ sym p.0), omega (arith, p.1), hands_out _ _ _ _)
