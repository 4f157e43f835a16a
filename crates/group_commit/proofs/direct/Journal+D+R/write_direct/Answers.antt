use Rattle.journal_steps.specs.Values.{together}
use Rattle.journal_steps.proofs.LegalSteps.{direct_write-legal}
use Rattle.group_commit.proofs.direct.Journal+D+R.write_direct.Goals as goal

pub returns : goal.returns
returns g c = rw (← c.self.view_is) c.write_direct.ensures.writes

pub invariant_of-self : goal.invariant_of-self
invariant_of-self g c =
    let did = c.write_direct.ensures.writes in
    (c.write_direct.ensures.agrees, direct_write-legal g.D.Device.state g.D.Device.honest (together c.self.inside.front c.self.inside.engine) (together c.write_direct.new.front c.write_direct.new.engine) did.device.honest c.self.invariant.1 c.write_direct.result c.args.block c.args.bytes.now did.ok did.err)
