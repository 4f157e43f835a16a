use Rattle.std.proofs.Common.{sym, ap, ◌∙◌, arith}
use Rattle.handle.proofs.Stepping.{learns_share}
use Rattle.handle.proofs.words.Words.learn_seen.Goals as goal

-- It learns a share.
pub join_seat-requires : goal.join_seat-requires
join_seat-requires g c =
    let is = c.deref.ensures in
    let b = c.args.self.now in
    let own = sym (ap (λ t. t.shared.table_id) is ∙ b.named) in
    (c.requires.named.0 ∙ own, c.requires.named.1 ∙ own, c.requires.no_slots, omega (arith, ap (λ t. t.shared.table_id.words) is ∙ b.two), learns_share _ _ _ _ _ c.requires.clear)
