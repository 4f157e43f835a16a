use Rattle.std.proofs.Common.{sym, subst}
use Rattle.log_engine.specs.Engine.{EngineValue}
use Rattle.locked_journal.specs.Sides.{IsSeen}
use Rattle.locked_journal.proofs.RunningAlone.{since-none}
use Rattle.locked_journal.proofs.front_side.SeenEngine.see.Goals as goal

-- An engine that does nothing goes on alone.
pub reconcile-requires : goal.reconcile-requires
reconcile-requires g c = since-none g.D.Device.state g.D.Device.honest c.args.engine.now

-- The front has the engine as it is.
pub invariant_of-self : goal.invariant_of-self
invariant_of-self g c =
    subst (λ (v : EngineValue g.row.D.Denot). IsSeen g.D.Device.state g.D.Device.honest v) (sym c.reconcile.ensures.follower)
    (record { plain = c.recall_invariant.ensures.plain; opens = c.recall_invariant.ensures.opens; shape = c.recall_invariant.ensures.shape })
