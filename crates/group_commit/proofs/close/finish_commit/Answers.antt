use Rattle.std.proofs.Common.{refl, sym, ◌∙◌, ◌≡◌}
use Rattle.std.proofs.lemmas.Bool.{true≢false}
use Rattle.std.proofs.lemmas.Result.{err_from_is_err_and}
use Rattle.journal_world.specs.declared.stage.Stage.TheVariants.{Idle}
use Rattle.group_commit.proofs.Finishing.{commit-went, commit-wrong, went-nowhere, went-went, went-wrong}
use Rattle.group_commit.proofs.NoRounds.{no-rounds, rounds-after, turn-rounds}
use Rattle.group_commit.proofs.OwnCalls.{calls-after, refused-calls, same-calls, turn-calls}
use Rattle.group_commit.proofs.TurnMoments.{each-commit, each-still, each-went}
use Rattle.group_commit.proofs.close.finish_commit.Goals as goal

pub loop-journal-init : goal.loop-journal-init
loop-journal-init g c = record {
  went = went-nowhere g.D.Device.state _ c.requires;
  rounds = no-rounds _;
  calls = same-calls g.D.Device.state _ _ refl;
  each = λ honest. each-still g.D.Device.state _ (c.recall_invariant.ensures.opens honest);
  honest = λ honest. honest;
}

pub returns-in_err-commit_step-clause-err : goal.returns-in_err-commit_step-clause-err
returns-in_err-commit_step-clause-err g c =
    let busy = λ (idle : c.loop-journal.journal.journal.engine.stage ≡ Idle). true≢false (sym (c.is_idle.ensures.1 idle) ∙ c.loop-journal-test.true) in
    let wrong = commit-wrong g.D.Device.state _ _ _ c.loop-journal.invariant.went.running busy c.in_err-commit_step.ensures.err c.commit_step.ensures.device.shape in
    let p = err_from_is_err_and c.from_residual.result c.from_residual.ensures.1 in
    rw (p.1, p.2) (wrong.0, went-wrong g.D.Device.state _ _ _ c.loop-journal.invariant.went wrong.1)

pub returns-in_err-commit_step-clause-calls : goal.returns-in_err-commit_step-clause-calls
returns-in_err-commit_step-clause-calls g c =
    let before = c.loop-journal.invariant in
    let busy = λ (idle : c.loop-journal.journal.journal.engine.stage ≡ Idle). true≢false (sym (c.is_idle.ensures.1 idle) ∙ c.loop-journal-test.true) in
    calls-after g.D.Device.state _ _ _ before.calls
    (refused-calls g.D.Device.state _ _ _ before.went.running busy c.in_err-commit_step.ensures.err c.commit_step.ensures.device.calls)

pub returns-in_err-commit_step-clause-moments : goal.returns-in_err-commit_step-clause-moments
returns-in_err-commit_step-clause-moments g c = λ honest.
    let before = c.loop-journal.invariant in
    let busy = λ (idle : c.loop-journal.journal.journal.engine.stage ≡ Idle). true≢false (sym (c.is_idle.ensures.1 idle) ∙ c.loop-journal-test.true) in
    let wrong = commit-wrong g.D.Device.state _ _ _ before.went.running busy c.in_err-commit_step.ensures.err c.commit_step.ensures.device.shape in
    let was = c.commit_step.ensures.device.honest honest in
    each-went g.D.Device.state _ _ _ before.went.on (before.each was) (each-commit g.D.Device.state _ _ wrong.1.on.committed (c.commit_step.ensures.device.moments was))

pub loop-journal-preserved : goal.loop-journal-preserved
loop-journal-preserved g c =
    let before = c.loop-journal.invariant in
    let busy = λ (idle : c.loop-journal.journal.journal.engine.stage ≡ Idle). true≢false (sym (c.is_idle.ensures.1 idle) ∙ c.loop-journal-test.true) in
    let step =
    commit-went g.D.Device.state _ _ _ before.went.running busy c.in_ok-commit_step.ensures.ok c.commit_step.ensures.device.shape c.in_ok-commit_step.ensures.no_fault in
    record {
      went = went-went g.D.Device.state _ _ _ before.went step;
      rounds = rounds-after _ _ _ before.rounds (turn-rounds g.D.Device.state _ _ _ busy c.in_ok-commit_step.ensures.ok);
      calls =
          calls-after g.D.Device.state _ _ _ before.calls
          (turn-calls g.D.Device.state _ _ _ busy c.in_ok-commit_step.ensures.ok c.commit_step.ensures.device.calls);
      each = λ honest.
          let was = c.commit_step.ensures.device.honest honest in
          each-went g.D.Device.state _ _ _ before.went.on (before.each was) (each-commit g.D.Device.state _ _ step.on.committed (c.commit_step.ensures.device.moments was));
      honest = λ honest. before.honest (c.commit_step.ensures.device.honest honest);
    }
