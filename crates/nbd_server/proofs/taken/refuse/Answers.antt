use Rattle.std.proofs.Common.{subst, ℕ, List}
use Rattle.std.specs.Io.KnownBytes.{Consumes}
use Rattle.nbd_protocol.specs.declared.request.Request.{Request}
use Rattle.nbd_server.specs.Input.{TakesPayload}
use Rattle.nbd_server.proofs.taken.refuse.Goals as goal

pub returns-clause-skipped : goal.returns-clause-skipped
returns-clause-skipped g c =
    subst (λ (r : Request). (bytes : List ℕ) × TakesPayload r (Consumes (g.I.Read.remaining c.args.input.now) (g.I.Read.remaining c.skip.new.input)) bytes) c.request.ensures
    c.in_ok-skip.ensures
