use Rattle.std.proofs.Common.{◌≡◌, arith, inl, inr, refl, subst}
use Rattle.std.proofs.lemmas.Bool.{false≢true}
use Rattle.journal_steps.specs.declared.turn.CheckTurn.{CheckTurn}
use Rattle.journal_steps.specs.Journal.{CheckTurnDid}
use Rattle.script_client.specs.Performed.{most_turns}
use Rattle.script_client.specs.Steps.Steps.{NoStep, OneMore}
use Rattle.script_client.proofs.Turning.{still-same}
use Rattle.script_client.proofs.interpreter.Interpreter.check.Goals as goal

-- no turn was taken yet
pub loop-init : goal.loop-init
loop-init g c = record { turns = NoStep c.args.self.now.client.journal; rest = refl; slots = refl }

-- one more turn had something to do
pub loop-preserved : goal.loop-preserved
loop-preserved g c = record {
  turns =
      OneMore c.loop.counter c.args.self.now.client.journal c.loop.self.client.journal c.checkpoint_turn.new.self.journal c.loop.invariant.turns
      (c.in-Ok.turn, (λ idle. false≢true (c.if-is_idle_check.ensures.1 idle)), c.in-Ok.ensures.ok);
  rest = still-same c.args.self.now.client c.loop.self.client c.checkpoint_turn.new.self c.loop.invariant.rest c.checkpoint_turn.ensures.rest;
  slots = c.loop.invariant.slots;
}

-- a turn had nothing to do
pub returns-then-is_idle_check-clause-done : goal.returns-then-is_idle_check-clause-done
returns-then-is_idle_check-clause-done g c = record {
  count = c.loop.counter;
  before = c.loop.self.client.journal;
  turns = c.loop.invariant.turns;
  last =
      inl (
        refl,
        inl
            (subst (λ (t : CheckTurn). CheckTurnDid g.D.Device.state t c.loop.self.client.journal c.checkpoint_turn.new.self.journal) (c.if-is_idle_check.ensures.0 refl)
            c.in-Ok.ensures.ok),
      );
}

-- a turn was refused
pub returns-in-Err-clause-done : goal.returns-in-Err-clause-done
returns-in-Err-clause-done g c = record {
  count = c.loop.counter;
  before = c.loop.self.client.journal;
  turns = c.loop.invariant.turns;
  last = inr (c.in-Err.e, refl, c.in-Err.ensures.err);
}

-- no more turns are taken
pub returns-clause-done : goal.returns-clause-done
returns-clause-done g c =
    let most : c.loop.counter ≡ most_turns = omega (arith, c.loop-test.false, c.loop.auto.counter-end) in
    record {
      count = c.loop.counter;
      before = c.loop.self.client.journal;
      turns = c.loop.invariant.turns;
      last = inl (refl, inr (most, refl));
    }
