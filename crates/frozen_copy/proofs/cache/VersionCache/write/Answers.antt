use Rattle.std.proofs.Common.{ap, is_some, sym, true≢false, ◌∙◌}
use Rattle.frozen_copy.proofs.cache.VersionCache.write.Goals as goal

-- a refused insertion was of a new block
pub returns-in_err-insert-clause-again : goal.returns-in_err-insert-clause-again
returns-in_err-insert-clause-again c =
    rw (← c.self.view_is) (λ some. absurd (true≢false (sym some ∙ ap is_some c.in_err-insert.ensures.absent)))
