use Rattle.std.proofs.Common.{sym, ◌∙◌, arith}
use Rattle.block_tables.proofs.Covering.{covers-none, covers-up_to}
use Rattle.block_tables.proofs.Maps.{get-seen}
use Rattle.block_tables.proofs.revokes.RevokeTable.covers.Goals as goal

-- covered up to the noted number
pub returns-in-Some : goal.returns-in-Some
returns-in-Some c =
    let m = c.self.inside.greatest in
    let there = get-seen m c.args.block ∙ sym c.in-Some.ensures.value in
    let up_to = covers-up_to _ c.args.block c.args.tid _ there in
    rw (← c.self.view_is) (λ yes. up_to.1 (grind (arith, c.le.ensures, yes)), λ covers. let h = up_to.0 covers in grind (arith, c.le.ensures, h))

-- not covered without a note
pub returns-in-None : goal.returns-in-None
returns-in-None c =
    let m = c.self.inside.greatest in
    let none = get-seen m c.args.block ∙ sym c.in-None.ensures.value in
    rw (← c.self.view_is) (λ yes. absurd (cc yes), λ covers. absurd (covers-none _ c.args.block c.args.tid none covers))
