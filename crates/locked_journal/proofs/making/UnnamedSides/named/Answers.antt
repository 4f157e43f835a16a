use Rattle.std.proofs.Common.{sym, subst}
use Rattle.log_engine.specs.Engine.{EngineValue}
use Rattle.journal_steps.specs.Legal.{KeepsLegal}
use Rattle.journal_steps.specs.Values.{together}
use Rattle.locked_journal.specs.Sides.{IsSeen}
use Rattle.locked_journal.proofs.RunningAlone.{since-none}
use Rattle.locked_journal.proofs.making.UnnamedSides.named.Goals as goal

-- The front's facts hold of the engine.
pub named-reconciler-requires-clause-holds : goal.named-reconciler-requires-clause-holds
named-reconciler-requires-clause-holds g c = since-none g.D.Device.state g.D.Device.honest c.self.inside.engine

-- The front has the engine as it is.
pub invariant_of-of : goal.invariant_of-of
invariant_of-of g c =
    subst (λ (v : EngineValue g.row.D.Denot). IsSeen g.D.Device.state g.D.Device.honest v) (sym c.named-reconciler.ensures.follower)
    (record { plain = c.recall_invariant.ensures.plain; opens = c.recall_invariant.ensures.opens; shape = c.recall_invariant.ensures.shape })

pub of-side-requires-clause-legal : goal.of-side-requires-clause-legal
of-side-requires-clause-legal g c =
    subst (λ (v : EngineValue g.row.D.Denot). KeepsLegal g.D.Device.honest (together c.self.inside.front v)) (sym c.named-reconciler.ensures.follower) c.self.invariant.1
