use Rattle.std.proofs.Common.{arith}
use Rattle.std.proofs.lemmas.Grind.{common_steps}
use Rattle.nbd_server.proofs.Inputs.{flags_and_options}
use Rattle.nbd_server.proofs.handshake.shake_hands.Goals as goal

pub returns : goal.returns
returns g c =
    flags_and_options (g.I.Read.remaining c.args.input.now) (g.I.Read.remaining c.begin.new.input) (g.I.Read.remaining c.answer_options.new.input) c.begin.new.into
    c.answer_options.result (grind (arith, common_steps)) (c.in_ok-whole.ensures c.if-not-whole.false) c.answer_options.ensures
