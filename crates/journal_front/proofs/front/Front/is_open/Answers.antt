use Rattle.std.proofs.Common.{ℕ, arith, nat_eq, ap, sym, ◌∙◌}
use Rattle.std.proofs.lemmas.Bool.{true≢false}
use Rattle.std.proofs.lemmas.Bool.Decides.{nat_tests}
use Rattle.std.proofs.lemmas.Option.{none-some, same_Some}
use Rattle.std.specs.Map.{lookup}
use Rattle.journal_front.proofs.front.Front.is_open.Goals as goal

pub returns-in-None : goal.returns-in-None
returns-in-None g c =
    let here = ap (λ (n : ℕ). lookup (nat_eq n) c.self.inside.open_handles.entries) c.number.ensures in
    rw (← c.self.view_is)
    (λ is. absurd (true≢false (sym is)), λ handle. absurd (none-some c.args.handle.now.left (c.in-None.ensures.value ∙ here ∙ handle.left)))

-- the open handle has other credits left
pub returns-else-left : goal.returns-else-left
returns-else-left g c =
    let here = ap (λ (n : ℕ). lookup (nat_eq n) c.self.inside.open_handles.entries) c.number.ensures in
    let other = c.if-left.false in
    rw (← c.self.view_is) (
      λ is. absurd (other (grind (arith, nat_tests, is))),
      λ handle. absurd (other (same_Some _ _ (c.in-Some.ensures.value ∙ here ∙ handle.left) ∙ sym c.left.ensures)),
    )
