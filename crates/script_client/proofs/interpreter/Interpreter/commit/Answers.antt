use Rattle.std.proofs.Common.{◌≡◌, ap, arith, inl, inr, refl}
use Rattle.std.proofs.lemmas.Bool.{false≢true}
use Rattle.script_client.specs.declared.outcome.OperationOutcome.TheVariants.{Transaction}
use Rattle.script_client.specs.Performed.{most_turns}
use Rattle.script_client.specs.Steps.Steps.{NoStep, OneMore}
use Rattle.script_client.proofs.Turning.{still-same}
use Rattle.script_client.proofs.interpreter.Interpreter.commit.Goals as goal

-- no turn was taken yet
pub loop-init : goal.loop-init
loop-init g c = record { turns = NoStep c.args.self.now.client.journal; rest = refl; slots = refl }

-- one more turn had something to do
pub loop-preserved : goal.loop-preserved
loop-preserved g c = record {
  turns =
      OneMore c.loop.counter c.args.self.now.client.journal c.loop.self.client.journal c.commit_turn.new.self.journal c.loop.invariant.turns
      (c.in-Ok.turn, (λ idle. false≢true (c.if-is_idle.ensures.1 idle)), c.in-Ok.ensures.ok);
  rest = still-same c.args.self.now.client c.loop.self.client c.commit_turn.new.self c.loop.invariant.rest c.commit_turn.ensures.rest;
  slots = c.loop.invariant.slots;
}

-- a turn had nothing to do
pub returns-then-is_idle-clause-done : goal.returns-then-is_idle-clause-done
returns-then-is_idle-clause-done g c = record {
  count = c.loop.counter;
  before = c.loop.self.client.journal;
  turns = c.loop.invariant.turns;
  last = inl (ap Transaction c.mark.ensures, inl (c.in-Ok.turn, c.if-is_idle.ensures.0 refl, c.in-Ok.ensures.ok));
}

-- a turn was refused
pub returns-in-Err-clause-done : goal.returns-in-Err-clause-done
returns-in-Err-clause-done g c = record {
  count = c.loop.counter;
  before = c.loop.self.client.journal;
  turns = c.loop.invariant.turns;
  last = inr (c.in-Err.e, refl, c.in-Err.ensures.err);
}

-- no more turns are taken
pub returns-clause-done : goal.returns-clause-done
returns-clause-done g c =
    let most : c.loop.counter ≡ most_turns = omega (arith, c.loop-test.false, c.loop.auto.counter-end) in
    record {
      count = c.loop.counter;
      before = c.loop.self.client.journal;
      turns = c.loop.invariant.turns;
      last = inl (ap Transaction c.mark-2.ensures, inr (most, refl));
    }
