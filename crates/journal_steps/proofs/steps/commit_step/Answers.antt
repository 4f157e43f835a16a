use Rattle.std.proofs.Common.{subst}
use Rattle.log_ledger.specs.declared.progress.Progress.{Progress}
use Rattle.log_engine.specs.Engine.{StepDid}
use Rattle.block_device.proofs.OneCall.{call-as}
use Rattle.journal_steps.proofs.Sealing.{agrees-last, agrees-refused, finishes-commit, may-raise, refused-turn}
use Rattle.journal_steps.proofs.Turning.{each-turn}
use Rattle.journal_steps.proofs.steps.commit_step.Goals as goal

-- once the front is notified of the failure, they agree
pub returns-in-Err-clause-agrees : goal.returns-in-Err-clause-agrees
returns-in-Err-clause-agrees g c = agrees-refused _ _ _ _ _ _ _ c.requires.agrees c.abort.ensures c.in-Err.ensures.err

pub returns-in-Err-clause-err : goal.returns-in-Err-clause-err
returns-in-Err-clause-err g c =
    let running = c.requires.running in
    (refused-turn g.D.Device.state _ _ _ _ _ _ _ running c.abort.ensures c.in-Err.ensures.err)

pub returns-in-Err-clause-device : goal.returns-in-Err-clause-device
returns-in-Err-clause-device g c = call-as (each-turn _ _ _ c.requires.agrees) c.commit_step.ensures.device

pub returns-in-Step-clause-device : goal.returns-in-Step-clause-device
returns-in-Step-clause-device g c = call-as (each-turn _ _ _ c.requires.agrees) c.commit_step.ensures.device

-- what is finished may be acknowledged
pub raise-requires : goal.raise-requires
raise-requires g c =
    let old = c.args.engine.now in
    let new = c.commit_step.new.self in
    let did = subst (λ (p : Progress). StepDid p old.engine (g.D.Device.state old.device).disk new.engine (g.D.Device.state new.device).disk)
    c.in-Done.is c.in-Ok.ensures.ok in
    may-raise _ _ _ _ c.requires.agrees did.2 c.finish.ensures

pub returns-in-Done-clause-agrees : goal.returns-in-Done-clause-agrees
returns-in-Done-clause-agrees g c =
    let old = c.args.engine.now in
    let new = c.commit_step.new.self in
    let did = subst (λ (p : Progress). StepDid p old.engine (g.D.Device.state old.device).disk new.engine (g.D.Device.state new.device).disk)
    c.in-Done.is c.in-Ok.ensures.ok in
    agrees-last _ _ _ _ _ _ _ _ c.requires.agrees did.0 did.1 did.2 c.finish.ensures c.raise.ensures.after

pub returns-in-Done-clause-ok : goal.returns-in-Done-clause-ok
returns-in-Done-clause-ok g c =
    let old = c.args.engine.now in
    let new = c.commit_step.new.self in
    let did = subst (λ (p : Progress). StepDid p old.engine (g.D.Device.state old.device).disk new.engine (g.D.Device.state new.device).disk)
    c.in-Done.is c.in-Ok.ensures.ok in
    (finishes-commit g.D.Device.state _ _ _ _ _ _ _ _ c.requires.agrees did.0 did.1 did.2 c.finish.ensures c.raise.ensures)

pub returns-in-Done-clause-device : goal.returns-in-Done-clause-device
returns-in-Done-clause-device g c = call-as (each-turn _ _ _ c.requires.agrees) c.commit_step.ensures.device
