use Rattle.journal_steps.specs.Values.{together}
use Rattle.journal_steps.proofs.LegalSteps.{check-legal}
use Rattle.group_commit.proofs.journal.Journal+D+R.checkpoint_turn.Goals as goal

pub returns-clause-device : goal.returns-clause-device
returns-clause-device g c = rw (← c.self.view_is) c.checkpoint_turn.ensures.device

pub invariant_of-self : goal.invariant_of-self
invariant_of-self g c =
    (c.checkpoint_turn.ensures.agrees, check-legal g.D.Device.state g.D.Device.honest (together c.self.inside.front c.self.inside.engine) (together c.checkpoint_turn.new.front c.checkpoint_turn.new.engine) c.checkpoint_turn.ensures.device.honest c.self.invariant.1 c.checkpoint_turn.result c.checkpoint_turn.ensures.ok c.checkpoint_turn.ensures.err)

-- if nothing is due, it makes no call
pub returns-clause-idle : goal.returns-clause-idle
returns-clause-idle g c = rw (← c.self.view_is) c.checkpoint_turn.ensures.idle
