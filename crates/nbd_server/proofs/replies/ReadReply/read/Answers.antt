use Rattle.std.proofs.Common.{refl, subst}
use Rattle.nbd_protocol.specs.declared.request.Request.{Request}
use Rattle.nbd_server.specs.Causes.{ReadFails}
use Rattle.nbd_server.proofs.replies.ReadReply.read.Goals as goal

-- the request comes back
pub returns-in-Err-clause-err : goal.returns-in-Err-clause-err
returns-in-Err-clause-err g c = (refl, subst (λ (r : Request). ReadFails g.D.Device.state r c.in-Err.e) c.request.ensures c.in-Err.ensures.err)
