use Rattle.std.proofs.Common.{refl, sym, ◌∙◌}
use Rattle.std.proofs.lemmas.Result.{err_from_is_err_and}
use Rattle.group_commit.specs.AllTurns.{ReleaseRefused}
use Rattle.group_commit.proofs.Finishing.{check-went, check-wrong, went-nowhere, went-went, went-wrong}
use Rattle.group_commit.proofs.OwnCalls.{calls-after, check-calls, refused_check-calls, same-calls}
use Rattle.group_commit.proofs.TurnMoments.{rounds-on, rounds-still}
use Rattle.group_commit.proofs.all_turns.Journal+D+R.release_all.Goals as goal

pub returns-then-is_aborted-clause-err : goal.returns-then-is_aborted-clause-err
returns-then-is_aborted-clause-err g c = ReleaseRefused.ReleaseAborted (sym c.is_aborted.ensures ∙ c.if-is_aborted.true) refl

pub returns-then-is_aborted-clause-calls : goal.returns-then-is_aborted-clause-calls
returns-then-is_aborted-clause-calls g c = same-calls g.D.Device.state _ _ refl

pub returns-then-is_aborted-clause-moments : goal.returns-then-is_aborted-clause-moments
returns-then-is_aborted-clause-moments g c = λ honest. rounds-still g.D.Device.state _ (c.recall_invariant.ensures.opens honest)

pub loop-self-init : goal.loop-self-init
loop-self-init g c = record {
  went = went-nowhere g.D.Device.state _ (sym c.is_aborted.ensures ∙ c.if-is_aborted.false);
  stage = refl;
  committed = refl;
  front = refl;
  calls = same-calls g.D.Device.state _ _ refl;
  each = λ honest. rounds-still g.D.Device.state _ (c.recall_invariant.ensures.opens honest);
  honest = λ honest. honest;
}

pub returns-in_err-checkpoint_turn-clause-err : goal.returns-in_err-checkpoint_turn-clause-err
returns-in_err-checkpoint_turn-clause-err g c =
    let wrong = check-wrong g.D.Device.state _ _ _ c.loop-self.invariant.went.running c.in_err-checkpoint_turn.ensures.err c.checkpoint_turn.ensures.device.shape in
    let p = err_from_is_err_and c.from_residual.result c.from_residual.ensures.1 in
    let running = sym c.is_aborted.ensures ∙ c.if-is_aborted.false in
    rw (p.1, p.2, wrong.0) (ReleaseRefused.ReleaseFailed running (went-wrong g.D.Device.state _ _ _ c.loop-self.invariant.went wrong.1))

pub returns-in_err-checkpoint_turn-clause-stage : goal.returns-in_err-checkpoint_turn-clause-stage
returns-in_err-checkpoint_turn-clause-stage g c =
    let wrong = check-wrong g.D.Device.state _ _ _ c.loop-self.invariant.went.running c.in_err-checkpoint_turn.ensures.err c.checkpoint_turn.ensures.device.shape in
    wrong.2 ∙ c.loop-self.invariant.stage

pub returns-in_err-checkpoint_turn-clause-committed : goal.returns-in_err-checkpoint_turn-clause-committed
returns-in_err-checkpoint_turn-clause-committed g c =
    let wrong = check-wrong g.D.Device.state _ _ _ c.loop-self.invariant.went.running c.in_err-checkpoint_turn.ensures.err c.checkpoint_turn.ensures.device.shape in
    wrong.3 ∙ c.loop-self.invariant.committed

pub returns-in_err-checkpoint_turn-clause-calls : goal.returns-in_err-checkpoint_turn-clause-calls
returns-in_err-checkpoint_turn-clause-calls g c =
    let before = c.loop-self.invariant in
    calls-after g.D.Device.state _ _ _ before.calls
    (refused_check-calls g.D.Device.state _ _ _ before.went.running c.in_err-checkpoint_turn.ensures.err c.checkpoint_turn.ensures.device.calls)

pub returns-in_err-checkpoint_turn-clause-moments : goal.returns-in_err-checkpoint_turn-clause-moments
returns-in_err-checkpoint_turn-clause-moments g c = λ honest.
    let before = c.loop-self.invariant in
    let was = c.checkpoint_turn.ensures.device.honest honest in
    rounds-on g.D.Device.state _ _ _ before.went.on before.front before.committed c.recall_invariant-in-loop-self.ensures.agrees (before.each was)
    (c.checkpoint_turn.ensures.device.moments was)

pub loop-self-preserved : goal.loop-self-preserved
loop-self-preserved g c =
    let before = c.loop-self.invariant in
    let step =
    check-went g.D.Device.state _ _ _ before.went.running c.in_ok-checkpoint_turn.ensures.ok c.checkpoint_turn.ensures.device.shape c.in_ok-checkpoint_turn.ensures.no_fault in
    record {
      went = went-went g.D.Device.state _ _ _ before.went step.0;
      stage = step.1 ∙ before.stage;
      committed = step.2 ∙ before.committed;
      front = step.3 ∙ before.front;
      calls =
          calls-after g.D.Device.state _ _ _ before.calls
          (check-calls g.D.Device.state _ _ _ c.in_ok-checkpoint_turn.ensures.ok c.in_ok-checkpoint_turn.ensures.idle c.checkpoint_turn.ensures.device.calls);
      each = λ honest.
          let was = c.checkpoint_turn.ensures.device.honest honest in
          rounds-on g.D.Device.state _ _ _ before.went.on before.front before.committed c.recall_invariant-in-loop-self.ensures.agrees (before.each was)
          (c.checkpoint_turn.ensures.device.moments was);
      honest = λ honest. before.honest (c.checkpoint_turn.ensures.device.honest honest);
    }
