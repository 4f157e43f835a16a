use Rattle.std.proofs.Common.{subst}
use Rattle.log_engine.specs.Engine.{EngineValue}
use Rattle.locked_journal.specs.Alone.{IsSince}
use Rattle.locked_journal.proofs.RunningAlone.{rests, since-more}
use Rattle.locked_journal.proofs.engine_side.EngineSide.end_flush.Goals as goal

-- The engine rested.
pub go_on-requires : goal.go_on-requires
go_on-requires g c =
    let state = g.D.Device.state in
    let made = c.end_flush.ensures in
    let step = rests state c.self.inside.engine _ made.engine made.device in
    λ reconciled since. since-more state g.D.Device.honest c.self.inside.engine _ step made.honest reconciled
    (subst (λ (v : EngineValue g.row.D.Denot). IsSince state g.D.Device.honest reconciled v) c.self.invariant since)

pub returns-clause-alone : goal.returns-clause-alone
returns-clause-alone g c =
    let state = g.D.Device.state in
    let made = c.end_flush.ensures in
    rw (← c.self.view_is) (rests state c.self.inside.engine _ made.engine made.device)
