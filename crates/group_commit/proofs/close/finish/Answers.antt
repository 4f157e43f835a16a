use Rattle.std.proofs.Common.{refl, sym, subst, ◌∙◌}
use Rattle.std.proofs.lemmas.Bool.{true≢false}
use Rattle.std.proofs.lemmas.Result.{err_from_is_err_and}
use Rattle.group_commit.specs.Close.{CloseRefused, HasSealed}
use Rattle.group_commit.proofs.Committing.{rounds-go-on, rounds-refused}
use Rattle.group_commit.proofs.Finishing.{last-refused, none-sealed, sealed-refused, ways, wrong-refused}
use Rattle.group_commit.proofs.Leading.{comes-nowhere}
use Rattle.journal_steps.specs.Values.{JournalValue}
use Rattle.group_commit.specs.Calls.{CallsForTurns}
use Rattle.group_commit.specs.During.{HoldsDuringTurns}
use Rattle.group_commit.proofs.OwnCalls.{calls-after, same-calls}
use Rattle.group_commit.proofs.TurnMoments.{each-rounds, each-sealed, each-still}
use Rattle.group_commit.proofs.close.finish.Goals as goal
use Rattle.group_commit.proofs.close.finish.Goals.{then-has_joined+in_ok-seal_last, else-has_joined+in_ok-finish_commit}

pub returns-then-is_aborted-clause-err : goal.returns-then-is_aborted-clause-err
returns-then-is_aborted-clause-err g c = CloseRefused.CloseAborted (sym c.is_aborted.ensures ∙ c.if-is_aborted.true) refl refl refl

pub returns-in_err-finish_commit-clause-err : goal.returns-in_err-finish_commit-clause-err
returns-in_err-finish_commit-clause-err g c =
    let running = sym c.is_aborted.ensures ∙ c.if-is_aborted.false in
    let p = err_from_is_err_and c.from_residual-in_err-finish_commit.result c.from_residual-in_err-finish_commit.ensures.1 in
    rw (p.1, p.2) (wrong-refused g.D.Device.state _ _ _ running c.in_err-finish_commit.ensures.err)

pub returns-in_err-seal_last-clause-err : goal.returns-in_err-seal_last-clause-err
returns-in_err-seal_last-clause-err g c =
    let running = sym c.is_aborted.ensures ∙ c.if-is_aborted.false in
    let p = err_from_is_err_and c.from_residual.result c.from_residual.ensures.1 in
    rw (p.1, p.2) (last-refused g.D.Device.state _ _ _ running (c.has_joined.ensures.0 c.if-has_joined.true) c.in_err-seal_last.ensures.err)

pub returns-clause-err : goal.returns-clause-err
returns-clause-err g c =
    let old = c.args.journal.now in
    let running = sym c.is_aborted.ensures ∙ c.if-is_aborted.false in
    let has : HasSealed g.D.Device.state old c.if-has_joined.journal =
    elim c.if-has_joined.branch [
      | then-has_joined+in_ok-seal_last w ↦ subst (HasSealed g.D.Device.state old) (sym w.journal-is) w.in_ok-seal_last.ensures.ok
      | else-has_joined+in_ok-finish_commit w ↦
          subst (HasSealed g.D.Device.state old) (sym w.journal-is)
          (none-sealed g.D.Device.state _ _ w.in_ok-finish_commit.ensures.ok (λ some. true≢false (sym (c.has_joined.ensures.1 some) ∙ w.if-has_joined.false)))
    ] in
    sealed-refused g.D.Device.state c.release_all.result _ _ _ running has
    (rounds-refused g.D.Device.state c.release_all.result _ _ has.running c.release_all.ensures.err)

pub returns-then-is_aborted-clause-path : goal.returns-then-is_aborted-clause-path
returns-then-is_aborted-clause-path g c = comes-nowhere _ _

pub returns-in_err-finish_commit-clause-path : goal.returns-in_err-finish_commit-clause-path
returns-in_err-finish_commit-clause-path g c = c.in_err-finish_commit.ensures.err.1.on.path

pub returns-clause-path : goal.returns-clause-path
returns-clause-path g c =
    let old = c.args.journal.now in
    let has : HasSealed g.D.Device.state old c.if-has_joined.journal =
    elim c.if-has_joined.branch [
      | then-has_joined+in_ok-seal_last w ↦ subst (HasSealed g.D.Device.state old) (sym w.journal-is) w.in_ok-seal_last.ensures.ok
      | else-has_joined+in_ok-finish_commit w ↦
          subst (HasSealed g.D.Device.state old) (sym w.journal-is)
          (none-sealed g.D.Device.state _ _ w.in_ok-finish_commit.ensures.ok (λ some. true≢false (sym (c.has_joined.ensures.1 some) ∙ w.if-has_joined.false)))
    ] in
    ways g.D.Device.state _ _ _ has.path
    (rounds-go-on g.D.Device.state c.release_all.result _ _ has.running c.release_all.ensures.ok c.release_all.ensures.err).path

pub returns-clause-measures : goal.returns-clause-measures
returns-clause-measures g c =
    let old = c.args.journal.now in
    let has : HasSealed g.D.Device.state old c.if-has_joined.journal =
    elim c.if-has_joined.branch [
      | then-has_joined+in_ok-seal_last w ↦ subst (HasSealed g.D.Device.state old) (sym w.journal-is) w.in_ok-seal_last.ensures.ok
      | else-has_joined+in_ok-finish_commit w ↦
          subst (HasSealed g.D.Device.state old) (sym w.journal-is)
          (none-sealed g.D.Device.state _ _ w.in_ok-finish_commit.ensures.ok (λ some. true≢false (sym (c.has_joined.ensures.1 some) ∙ w.if-has_joined.false)))
    ] in
    (rounds-go-on g.D.Device.state c.release_all.result _ _ has.running c.release_all.ensures.ok c.release_all.ensures.err).measures ∙ has.measures

pub returns-clause-shape : goal.returns-clause-shape
returns-clause-shape g c =
    let old = c.args.journal.now in
    let has : HasSealed g.D.Device.state old c.if-has_joined.journal =
    elim c.if-has_joined.branch [
      | then-has_joined+in_ok-seal_last w ↦ subst (HasSealed g.D.Device.state old) (sym w.journal-is) w.in_ok-seal_last.ensures.ok
      | else-has_joined+in_ok-finish_commit w ↦
          subst (HasSealed g.D.Device.state old) (sym w.journal-is)
          (none-sealed g.D.Device.state _ _ w.in_ok-finish_commit.ensures.ok (λ some. true≢false (sym (c.has_joined.ensures.1 some) ∙ w.if-has_joined.false)))
    ] in
    (rounds-go-on g.D.Device.state c.release_all.result _ _ has.running c.release_all.ensures.ok c.release_all.ensures.err).shape ∙ has.shape

pub returns-then-is_aborted-clause-calls : goal.returns-then-is_aborted-clause-calls
returns-then-is_aborted-clause-calls g c = same-calls g.D.Device.state _ _ refl

pub returns-then-is_aborted-clause-moments : goal.returns-then-is_aborted-clause-moments
returns-then-is_aborted-clause-moments g c = λ honest. each-still g.D.Device.state _ (c.recall_invariant.ensures.opens honest)

pub returns-clause-calls : goal.returns-clause-calls
returns-clause-calls g c =
    let old = c.args.journal.now in
    let calls : CallsForTurns g.D.Device.state old c.if-has_joined.journal =
    elim c.if-has_joined.branch [
      | then-has_joined+in_ok-seal_last w ↦ subst (CallsForTurns g.D.Device.state old) (sym w.journal-is) w.seal_last.ensures.calls
      | else-has_joined+in_ok-finish_commit w ↦ subst (CallsForTurns g.D.Device.state old) (sym w.journal-is) w.finish_commit.ensures.calls
    ] in
    calls-after g.D.Device.state _ _ _ calls c.release_all.ensures.calls

pub returns-clause-moments : goal.returns-clause-moments
returns-clause-moments g c = λ honest.
    let old = c.args.journal.now in
    let has : HasSealed g.D.Device.state old c.if-has_joined.journal =
    elim c.if-has_joined.branch [
      | then-has_joined+in_ok-seal_last w ↦ subst (HasSealed g.D.Device.state old) (sym w.journal-is) w.in_ok-seal_last.ensures.ok
      | else-has_joined+in_ok-finish_commit w ↦
          subst (HasSealed g.D.Device.state old) (sym w.journal-is)
          (none-sealed g.D.Device.state _ _ w.in_ok-finish_commit.ensures.ok (λ some. true≢false (sym (c.has_joined.ensures.1 some) ∙ w.if-has_joined.false)))
    ] in
    let first : g.D.Device.honest c.if-has_joined.journal.device → HoldsDuringTurns g.D.Device.state old c.if-has_joined.journal =
    elim c.if-has_joined.branch [
      | then-has_joined+in_ok-seal_last w ↦
          subst (λ (v : JournalValue g.row.D.Denot). g.D.Device.honest v.device → HoldsDuringTurns g.D.Device.state old v) (sym w.journal-is) w.seal_last.ensures.moments
      | else-has_joined+in_ok-finish_commit w ↦
          subst (λ (v : JournalValue g.row.D.Denot). g.D.Device.honest v.device → HoldsDuringTurns g.D.Device.state old v) (sym w.journal-is) w.finish_commit.ensures.moments
    ] in
    each-sealed g.D.Device.state _ _ _ has (first (c.release_all.ensures.honest honest)) (each-rounds g.D.Device.state _ _ c.release_all.ensures.committed (c.release_all.ensures.moments honest))
