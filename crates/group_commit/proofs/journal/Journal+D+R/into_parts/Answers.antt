use Rattle.journal_steps.proofs.Turning.{opens-now}
use Rattle.std.proofs.Common.{subst, sym}
use Rattle.journal_model.specs.Record.{IsLegal}
use Rattle.journal_steps.proofs.LegalSteps.{legal-sealed}
use Rattle.group_commit.proofs.journal.Journal+D+R.into_parts.Goals as goal

pub returns-clause-committed : goal.returns-clause-committed
returns-clause-committed g c = rw (← c.self.view_is) c.into_parts-device.ensures.committed

pub returns-clause-opens : goal.returns-clause-opens
returns-clause-opens g c = rw (← c.self.view_is) (λ honest. opens-now _ _ c.self.invariant.0 (c.into_parts-device.ensures.opens honest))

pub returns-clause-legal : goal.returns-clause-legal
returns-clause-legal g c = rw (← c.self.view_is) (λ honest. subst IsLegal (sym c.into_sealed.ensures) (legal-sealed c.self.inside.front (c.self.invariant.1 honest)))

pub returns-clause-agrees : goal.returns-clause-agrees
returns-clause-agrees g c = rw (← c.self.view_is) c.self.invariant.0
