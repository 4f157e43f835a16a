use Rattle.journal_steps.specs.Values.{together}
use Rattle.journal_steps.proofs.LegalSteps.{direct_sync-legal}
use Rattle.group_commit.proofs.direct.Journal+D+R.sync_direct.Goals as goal

pub returns : goal.returns
returns g c = rw (← c.self.view_is) c.sync_direct.ensures.syncs

pub invariant_of-self : goal.invariant_of-self
invariant_of-self g c =
    let did = c.sync_direct.ensures.syncs in
    (c.sync_direct.ensures.agrees, direct_sync-legal g.D.Device.state g.D.Device.honest (together c.self.inside.front c.self.inside.engine) (together c.sync_direct.new.front c.sync_direct.new.engine) did.device.honest c.self.invariant.1 c.sync_direct.result did.ok did.err)
