use Rattle.std.proofs.Common.{sym, ap, ◌∙◌, arith}
use Rattle.handle.proofs.Stepping.{shares}
use Rattle.handle.proofs.words.Words.share_seen.Goals as goal

-- A share changes no sum.
pub split_seat-requires : goal.split_seat-requires
split_seat-requires g c =
    let is = c.deref.ensures in
    let b = c.args.self.now in
    (c.requires ∙ sym (ap (λ t. t.shared.table_id) is ∙ b.named), omega (arith, ap (λ t. t.shared.table_id.words) is ∙ b.two), shares _ _ _)
