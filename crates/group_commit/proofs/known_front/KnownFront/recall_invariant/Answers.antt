use Rattle.journal_steps.proofs.Quarter.{quarter}
use Rattle.journal_steps.proofs.Turning.{opens-now}
use Rattle.group_commit.proofs.known_front.KnownFront.recall_invariant.Goals as goal

pub returns-clause-quarter : goal.returns-clause-quarter
returns-clause-quarter g c = rw (← c.self.view_is) (quarter _ _ c.self.invariant.0 c.recall_invariant.ensures.plain)

pub returns-clause-opens : goal.returns-clause-opens
returns-clause-opens g c = rw (← c.self.view_is) (λ honest. opens-now _ _ c.self.invariant.0 (c.recall_invariant.ensures.opens honest))

pub returns-clause-legal : goal.returns-clause-legal
returns-clause-legal g c = rw (← c.self.view_is) c.self.invariant.1
