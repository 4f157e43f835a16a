use Rattle.volume_service.proofs.Causes.{opens_none}
use Rattle.volume_service.proofs.session.Session.start_after.Goals as goal

-- The last try tells.
pub returns-in-Err-clause-err : goal.returns-in-Err-clause-err
returns-in-Err-clause-err g c =
    opens_none g.D.Device.state g.J.JournalName.name.capacity c.args.credits c.in-Err.ensures.err.seat
    c.before.start_after.new.seat c.in-Err.e c.in-Err.ensures.err.did
