use Rattle.std.proofs.Common.{◌≡◌, ◌-◌, arith, length, subst, ℕ}
use Rattle.std.specs.Io.KnownBytes.{Consumes}
use Rattle.std.proofs.lemmas.Grind.{common_steps}
use Rattle.nbd_server.specs.Input.{TakesSome}
use Rattle.nbd_server.proofs.Inputs.{more_taken, none_taken}
use Rattle.nbd_server.proofs.handshake.skip.Goals as goal

-- none is skipped
pub loop-left-init : goal.loop-left-init
loop-left-init g c = record { within = omega arith; taken = none_taken (g.I.Read.remaining c.args.input.now) _ (omega arith) }

-- some more are
pub loop-left-preserved : goal.loop-left-preserved
loop-left-preserved g c =
    let long : length c.read_exact.new.buf ≡ c.min-some.result = grind (arith, common_steps) in
    record {
      within = omega (arith, c.min-some.ensures, c.loop-left.invariant.within);
      taken = more_taken (g.I.Read.remaining c.args.input.now) (g.I.Read.remaining c.loop-left.input) (g.I.Read.remaining c.read_exact.new.self) (c.args.bytes - c.loop-left.left)
          c.min-some.result _ c.read_exact.new.buf (omega (arith, c.min-some.ensures, c.loop-left.invariant.within)) long c.loop-left.invariant.taken c.in_ok-read_exact.ensures.bytes;
    }

-- all are
pub returns : goal.returns
returns g c =
    subst (λ (n : ℕ). TakesSome n (Consumes (g.I.Read.remaining c.args.input.now) (g.I.Read.remaining c.loop-left.input)))
    (omega (arith, c.loop-left.invariant.within, c.loop-left-test.false)) c.loop-left.invariant.taken
