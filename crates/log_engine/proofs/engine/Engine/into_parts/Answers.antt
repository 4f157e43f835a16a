use Rattle.std.proofs.Common.{refl}
use Rattle.journal_world.proofs.Images.{images-open}
use Rattle.log_engine.proofs.engine.Engine.into_parts.Goals as goal

pub returns-clause-committed : goal.returns-clause-committed
returns-clause-committed g c = rw (← c.self.view_is) refl

pub returns-clause-opens : goal.returns-clause-opens
returns-clause-opens g c = rw (← c.self.view_is) (λ honest. images-open _ _ (c.self.invariant.2 honest))
