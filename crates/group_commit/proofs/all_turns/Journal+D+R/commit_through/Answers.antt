use Rattle.std.proofs.Common.{refl, arith, subst}
use Rattle.std.proofs.lemmas.Result.{err_from_is_err_and}
use Rattle.group_commit.specs.AllTurns.{CommitRefused}
use Rattle.group_commit.proofs.Committing.{asked-way}
use Rattle.group_commit.proofs.Finishing.{ways}
use Rattle.group_commit.proofs.OwnCalls.{asked-calls, calls-after, same-calls}
use Rattle.group_commit.proofs.TurnMoments.{each-asked, each-same}
use Rattle.group_commit.proofs.all_turns.Journal+D+R.commit_through.Goals as goal

pub returns-clause-turns : goal.returns-clause-turns
returns-clause-turns g c = record { asked = _; requests = c.in_ok-request_commit.ensures.ok; commits = c.in_ok-mark.ensures.ok; idle = c.in_ok-mark.ensures.idle }

pub returns-in_err-mark-clause-err : goal.returns-in_err-mark-clause-err
returns-in_err-mark-clause-err g c =
    let p = err_from_is_err_and c.from_residual-in_err-mark.result c.from_residual-in_err-mark.ensures.1 in
    rw (p.1, p.2) (CommitRefused.Unfinished _ c.in_ok-request_commit.ensures.ok c.in_err-mark.ensures.err)

pub returns-in_err-mark-clause-path : goal.returns-in_err-mark-clause-path
returns-in_err-mark-clause-path g c =
    ways g.D.Device.state _ _ _ (asked-way g.D.Device.state _ _ _ c.in_ok-request_commit.ensures.ok) c.commit_all.ensures.path

pub returns-clause-path : goal.returns-clause-path
returns-clause-path g c =
    ways g.D.Device.state _ _ _ (asked-way g.D.Device.state _ _ _ c.in_ok-request_commit.ensures.ok) c.commit_all.ensures.path

pub returns-then-mark-tid-clause-err : goal.returns-then-mark-tid-clause-err
returns-then-mark-tid-clause-err g c =
    let below = c.if-mark-tid.true in
    let found = c.mark.view_is in
    let asked = c.tid.view_is in
    let told = c.in_ok-mark.ensures.mark in
    CommitRefused.StillOpen (record { asked = _; requests = c.in_ok-request_commit.ensures.ok; commits = c.in_ok-mark.ensures.ok; idle = c.in_ok-mark.ensures.idle }) (omega arith) refl

pub returns-then-mark-tid-clause-path : goal.returns-then-mark-tid-clause-path
returns-then-mark-tid-clause-path g c =
    ways g.D.Device.state _ _ _ (asked-way g.D.Device.state _ _ _ c.in_ok-request_commit.ensures.ok) c.commit_all.ensures.path

pub returns-in_err-request_commit-clause-calls : goal.returns-in_err-request_commit-clause-calls
returns-in_err-request_commit-clause-calls g c = same-calls g.D.Device.state _ _ c.in_err-request_commit.ensures.err.2

pub returns-in_err-request_commit-clause-moments : goal.returns-in_err-request_commit-clause-moments
returns-in_err-request_commit-clause-moments g c = λ honest.
    each-same g.D.Device.state _ _ c.in_err-request_commit.ensures.err.2 (c.recall_invariant.ensures.opens (subst g.D.Device.honest c.request_commit.ensures.device honest))

pub returns-in_err-mark-clause-calls : goal.returns-in_err-mark-clause-calls
returns-in_err-mark-clause-calls g c =
    calls-after g.D.Device.state _ _ _ (asked-calls g.D.Device.state _ _ _ c.in_ok-request_commit.ensures.ok c.request_commit.ensures.device) c.commit_all.ensures.calls

pub returns-then-mark-tid-clause-calls : goal.returns-then-mark-tid-clause-calls
returns-then-mark-tid-clause-calls g c =
    calls-after g.D.Device.state _ _ _ (asked-calls g.D.Device.state _ _ _ c.in_ok-request_commit.ensures.ok c.request_commit.ensures.device) c.commit_all.ensures.calls

pub returns-clause-calls : goal.returns-clause-calls
returns-clause-calls g c =
    calls-after g.D.Device.state _ _ _ (asked-calls g.D.Device.state _ _ _ c.in_ok-request_commit.ensures.ok c.request_commit.ensures.device) c.commit_all.ensures.calls

pub returns-in_err-mark-clause-moments : goal.returns-in_err-mark-clause-moments
returns-in_err-mark-clause-moments g c = λ honest.
    let was = subst g.D.Device.honest c.request_commit.ensures.device (c.commit_all.ensures.honest honest) in
    each-asked g.D.Device.state _ _ _ _ c.in_ok-request_commit.ensures.ok c.request_commit.ensures.device (c.recall_invariant.ensures.opens was) (c.commit_all.ensures.moments honest)

pub returns-then-mark-tid-clause-moments : goal.returns-then-mark-tid-clause-moments
returns-then-mark-tid-clause-moments g c = λ honest.
    let was = subst g.D.Device.honest c.request_commit.ensures.device (c.commit_all.ensures.honest honest) in
    each-asked g.D.Device.state _ _ _ _ c.in_ok-request_commit.ensures.ok c.request_commit.ensures.device (c.recall_invariant.ensures.opens was) (c.commit_all.ensures.moments honest)

pub returns-clause-moments : goal.returns-clause-moments
returns-clause-moments g c = λ honest.
    let was = subst g.D.Device.honest c.request_commit.ensures.device (c.commit_all.ensures.honest honest) in
    each-asked g.D.Device.state _ _ _ _ c.in_ok-request_commit.ensures.ok c.request_commit.ensures.device (c.recall_invariant.ensures.opens was) (c.commit_all.ensures.moments honest)
