use Rattle.script_client.proofs.Closing.{to-ended}
use Rattle.script_client.proofs.performing.stay.Goals as goal

-- the journal still runs
pub returns-clause-ended : goal.returns-clause-ended
returns-clause-ended g c = λ honest.
    let left = c.left_of.result in
    to-ended g.H.HomeFact.holds c.args.interpreter.client.operations (g.D.Device.state left.device) left.sealed.items left.acknowledged (c.left_of.ensures.led honest)
