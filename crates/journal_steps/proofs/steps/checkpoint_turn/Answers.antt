use Rattle.std.proofs.Common.{subst}
use Rattle.log_ledger.specs.declared.progress.Progress.{Progress}
use Rattle.log_engine.specs.Engine.{RoundDid}
use Rattle.block_device.proofs.OneCall.{call-as}
use Rattle.journal_steps.proofs.Rounding.{agrees-round, agrees-round_refused, done-check, idle-check, refused-check, step-check}
use Rattle.journal_steps.proofs.Turning.{each-check}
use Rattle.journal_steps.proofs.steps.checkpoint_turn.Goals as goal

-- once the front is notified of the failure, they agree
pub returns-in-Err-clause-agrees : goal.returns-in-Err-clause-agrees
returns-in-Err-clause-agrees g c = agrees-round_refused _ _ _ _ _ _ _ c.requires.agrees c.abort.ensures c.in-Err.ensures.err

pub returns-in-Err-clause-err : goal.returns-in-Err-clause-err
returns-in-Err-clause-err g c =
    (refused-check g.D.Device.state _ _ _ _ _ _ _ c.requires.agrees c.abort.ensures c.in-Err.ensures.err)

pub returns-in-Idle-clause-agrees : goal.returns-in-Idle-clause-agrees
returns-in-Idle-clause-agrees g c = agrees-round _ _ _ _ _ _ c.requires.agrees c.in-Ok.ensures.ok

pub returns-in-Step-clause-agrees : goal.returns-in-Step-clause-agrees
returns-in-Step-clause-agrees g c = agrees-round _ _ _ _ _ _ c.requires.agrees c.in-Ok.ensures.ok

pub returns-in-Done-clause-agrees : goal.returns-in-Done-clause-agrees
returns-in-Done-clause-agrees g c = agrees-round _ _ _ _ _ _ c.requires.agrees c.in-Ok.ensures.ok

pub returns-in-Err-clause-device : goal.returns-in-Err-clause-device
returns-in-Err-clause-device g c = call-as (each-check _ _ _ c.requires.agrees) c.checkpoint_step.ensures.device

pub returns-in-Idle-clause-device : goal.returns-in-Idle-clause-device
returns-in-Idle-clause-device g c = call-as (each-check _ _ _ c.requires.agrees) c.checkpoint_step.ensures.device

pub returns-in-Step-clause-device : goal.returns-in-Step-clause-device
returns-in-Step-clause-device g c = call-as (each-check _ _ _ c.requires.agrees) c.checkpoint_step.ensures.device

pub returns-in-Done-clause-device : goal.returns-in-Done-clause-device
returns-in-Done-clause-device g c = call-as (each-check _ _ _ c.requires.agrees) c.checkpoint_step.ensures.device

pub returns-in-Idle-clause-ok : goal.returns-in-Idle-clause-ok
returns-in-Idle-clause-ok g c =
    let old = c.args.engine.now in
    let new = c.checkpoint_step.new.self in
    let told = λ (p : Progress). RoundDid p old.engine (g.D.Device.state old.device).disk new.engine (g.D.Device.state new.device).disk in
    (idle-check g.D.Device.state c.args.front.now _ _ _ _ (subst told c.in-Idle.is c.in-Ok.ensures.ok))

pub returns-in-Step-clause-ok : goal.returns-in-Step-clause-ok
returns-in-Step-clause-ok g c =
    let old = c.args.engine.now in
    let new = c.checkpoint_step.new.self in
    let told = λ (p : Progress). RoundDid p old.engine (g.D.Device.state old.device).disk new.engine (g.D.Device.state new.device).disk in
    (step-check g.D.Device.state c.args.front.now _ _ _ _ (subst told c.in-Step.is c.in-Ok.ensures.ok))

pub returns-in-Done-clause-ok : goal.returns-in-Done-clause-ok
returns-in-Done-clause-ok g c =
    let old = c.args.engine.now in
    let new = c.checkpoint_step.new.self in
    let told = λ (p : Progress). RoundDid p old.engine (g.D.Device.state old.device).disk new.engine (g.D.Device.state new.device).disk in
    (done-check g.D.Device.state c.args.front.now _ _ _ _ _ (subst told c.in-Done.is c.in-Ok.ensures.ok))

pub returns-in-Idle-clause-idle : goal.returns-in-Idle-clause-idle
returns-in-Idle-clause-idle g c = λ is. c.in-Ok.ensures.idle c.in-Idle.is
