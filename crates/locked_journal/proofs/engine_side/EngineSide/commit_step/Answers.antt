use Rattle.std.proofs.Common.{subst}
use Rattle.log_engine.specs.Engine.{EngineValue}
use Rattle.locked_journal.specs.Alone.{IsSince}
use Rattle.locked_journal.proofs.RunningAlone.{commit-goes, since-more}
use Rattle.locked_journal.proofs.engine_side.EngineSide.commit_step.Goals as goal

-- The engine went on alone.
pub go_on-requires : goal.go_on-requires
go_on-requires g c =
    let state = g.D.Device.state in
    let step = commit-goes state c.self.inside.engine _ c.commit_step-step.result c.commit_step-step.ensures.ok c.commit_step-step.ensures.err c.commit_step-step.ensures.no_fault in
    λ reconciled since. since-more state g.D.Device.honest c.self.inside.engine _ step c.commit_step-step.ensures.device.honest reconciled
    (subst (λ (v : EngineValue g.row.D.Denot). IsSince state g.D.Device.honest reconciled v) c.self.invariant since)

pub returns-clause-alone : goal.returns-clause-alone
returns-clause-alone g c =
    let state = g.D.Device.state in
    rw (← c.self.view_is)
    (commit-goes state c.self.inside.engine _ c.commit_step-step.result c.commit_step-step.ensures.ok c.commit_step-step.ensures.err c.commit_step-step.ensures.no_fault)
