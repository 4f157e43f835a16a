use Rattle.std.proofs.Common.{[], refl}
use Rattle.nbd_server.proofs.Inputs.{no_payload, skipped}
use Rattle.std.specs.Io.KnownBytes.{Consumes}
use Rattle.nbd_server.proofs.asked.Payload.skip.Goals as goal

-- a write
pub returns-then-request-eq-WRITE : goal.returns-then-request-eq-WRITE
returns-then-request-eq-WRITE g c =
    skipped c.args.request.now (Consumes (g.I.Read.remaining c.args.input.now) (g.I.Read.remaining c.skip.new.input)) c.skip.result c.if-request-eq-WRITE.true c.skip.ensures

-- another request
pub returns : goal.returns
returns g c = ([], no_payload c.args.request.now (g.I.Read.remaining c.args.input.now) [] c.if-request-eq-WRITE.false refl)
