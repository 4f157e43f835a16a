use Rattle.std.specs.Io.KnownBytes.{Consumes}
use Rattle.nbd_server.specs.Input.{TakesOptions}
use Rattle.nbd_server.proofs.handshake.answer_options.Given as goal

-- whole options were taken
abbrev pub invariant-answering : goal.invariant-answering
invariant-answering g l = TakesOptions (Consumes (g.I.Read.remaining l.fn.input) (g.I.Read.remaining l.input))
