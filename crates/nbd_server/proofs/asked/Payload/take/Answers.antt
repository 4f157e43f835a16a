use Rattle.std.proofs.Common.{true≢false}
use Rattle.nbd_server.proofs.Inputs.{came, no_payload, none_came}
use Rattle.nbd_server.proofs.asked.Payload.take.Goals as goal

-- a write
pub returns-then-request-eq-WRITE-clause-took : goal.returns-then-request-eq-WRITE-clause-took
returns-then-request-eq-WRITE-clause-took g c =
    came c.args.request.now (g.I.Read.remaining c.args.input.now) (g.I.Read.remaining c.fill.new.input) c.fill.new.bytes.items c.fill.result c.if-request-eq-WRITE.true
    c.fill.ensures.took

pub returns-then-request-eq-WRITE-clause-none : goal.returns-then-request-eq-WRITE-clause-none
returns-then-request-eq-WRITE-clause-none g c =
    none_came c.args.request.now (g.I.Read.remaining c.args.input.now) (g.I.Read.remaining c.fill.new.input) c.fill.result c.if-request-eq-WRITE.true c.fill.ensures.none

-- another request
pub returns-clause-took : goal.returns-clause-took
returns-clause-took g c =
    λ _. no_payload c.args.request.now (g.I.Read.remaining c.args.input.now) c.clear.new.self.items c.if-request-eq-WRITE.false c.clear.ensures.items

pub returns-clause-none : goal.returns-clause-none
returns-clause-none g c = λ no. absurd (true≢false no)
