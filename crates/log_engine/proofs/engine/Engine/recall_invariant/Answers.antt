use Rattle.journal_world.proofs.Images.{images-open}
use Rattle.log_engine.proofs.engine.Engine.recall_invariant.Goals as goal

pub returns-clause-opens : goal.returns-clause-opens
returns-clause-opens g c = rw (← c.self.view_is) (λ honest. images-open _ _ (c.self.invariant.2 honest))
