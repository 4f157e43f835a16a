use Rattle.std.proofs.Common.{arith}
use Rattle.std.proofs.lemmas.Grind.{common_steps}
use Rattle.std.proofs.lemmas.Result.{err_from_is_err_and}
use Rattle.nbd_server.proofs.Refusing.{read_fails}
use Rattle.nbd_server.proofs.replies.read_bytes.Goals as goal

-- the range could not be read
pub returns-in_err-read_range-clause-err : goal.returns-in_err-read_range-clause-err
returns-in_err-read_range-clause-err g c =
    let p = err_from_is_err_and c.from_residual-in_err-read_range.result c.from_residual-in_err-read_range.ensures.1 in
    rw (p.1, p.2) (read_fails g.D.Device.state c.args.request.now _ _ (grind (arith, common_steps)) c.in_err-read_range.ensures.err)
