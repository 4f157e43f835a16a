use Rattle.journal_steps.specs.Values.{together}
use Rattle.journal_steps.proofs.LegalSteps.{turn-legal}
use Rattle.group_commit.proofs.journal.Journal+D+R.commit_step.Goals as goal

pub returns-clause-device : goal.returns-clause-device
returns-clause-device g c = rw (← c.self.view_is) c.commit_step.ensures.device

pub invariant_of-self : goal.invariant_of-self
invariant_of-self g c =
    (c.commit_step.ensures.agrees, turn-legal g.D.Device.state g.D.Device.honest (together c.self.inside.front c.self.inside.engine) (together c.commit_step.new.front c.commit_step.new.engine) c.commit_step.ensures.device.honest c.self.invariant.1 c.commit_step.result c.commit_step.ensures.ok c.commit_step.ensures.err)
