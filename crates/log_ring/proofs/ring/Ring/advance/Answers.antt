use Rattle.std.proofs.Common.{ap, sym, ◌∙◌, ◌+◌, ◌%◌, ℕ}
use Rattle.std.proofs.Math.Nat.{add-mod}
use Rattle.log_ring.proofs.ring.Ring.advance.Goals as goal

-- a sum may be reduced part by part
pub returns-clause-place : goal.returns-clause-place
returns-clause-place c =
    let first = c.self.inside.first in
    let blocks = c.self.inside.blocks in
    rw (← c.self.view_is)
    (ap (λ (k : ℕ). first + k) (sym (add-mod c.saturating_sub.result c.args.count blocks))
    ∙ ap (λ (k : ℕ). first + (k + c.args.count) % blocks) c.saturating_sub.ensures)
