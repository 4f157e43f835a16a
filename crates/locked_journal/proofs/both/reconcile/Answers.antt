use Rattle.std.proofs.Common.{refl, sym, subst, ◌∙◌}
use Rattle.log_engine.specs.Engine.{EngineValue}
use Rattle.locked_journal.specs.Alone.{IsSince}
use Rattle.locked_journal.proofs.Landing.{lands}
use Rattle.locked_journal.proofs.Legal.{caught-legal}
use Rattle.locked_journal.proofs.RunningAlone.{ran-kept}
use Rattle.locked_journal.proofs.both.reconcile.Goals as goal

-- The engine went on alone since the last reconciliation.
pub catch_up-requires : goal.catch_up-requires
catch_up-requires g c =
    let state = g.D.Device.state in
    let since = subst (λ (v : EngineValue g.row.D.Denot). IsSince state g.D.Device.honest c.front.inside.engine v) c.engine.invariant c.see.ensures.since in
    record {
      reconciled = c.front.inside.engine.engine;
      agrees = c.front.invariant.0;
      plain = c.see.ensures.was.plain;
      kept = ran-kept state c.front.inside.engine c.engine.inside.engine since.ran;
    }

pub invariant_of-front : goal.invariant_of-front
invariant_of-front g c =
    let since = subst (λ (v : EngineValue g.row.D.Denot). IsSince g.D.Device.state g.D.Device.honest c.front.inside.engine v) c.engine.invariant c.see.ensures.since in
    lands g.D.Device.honest c.catch_up.new.front c.engine.inside.engine c.see.new.self c.see.ensures.seen c.catch_up.ensures.agrees
    (λ honest. caught-legal _ _ _ c.catch_up.ensures (c.front.invariant.1 (since.back honest)))

pub returns-clause-reconciled : goal.returns-clause-reconciled
returns-clause-reconciled g c =
    let state = g.D.Device.state in
    let since = subst (λ (v : EngineValue g.row.D.Denot). IsSince state g.D.Device.honest c.front.inside.engine v) c.engine.invariant c.see.ensures.since in
    rw (← c.front.view_is, ← c.engine.view_is, c.see.ensures.seen) (record {
      since = since.ran;
      engine_is = refl;
      caught = c.catch_up.ensures;
      plain = c.see.ensures.is.plain;
      shape = c.see.ensures.is.shape;
      measures =
          sym c.see.ensures.is.shape ∙ (ran-kept state c.front.inside.engine c.engine.inside.engine since.ran).shape ∙ c.see.ensures.was.shape;
    })

-- The engine's reads went on from those of the last reconciliation.
pub returns-clause-before : goal.returns-clause-before
returns-clause-before g c =
    let since = subst (λ (v : EngineValue g.row.D.Denot). IsSince g.D.Device.state g.D.Device.honest c.front.inside.engine v) c.engine.invariant c.see.ensures.since in
    rw (← c.front.view_is, ← c.engine.view_is) since.back
