use Rattle.std.proofs.Common.{refl, sym, arith, ◌∙◌}
use Rattle.std.proofs.lemmas.Bool.{true≢false}
use Rattle.std.proofs.lemmas.Result.{err_from_is_err_and}
use Rattle.group_commit.specs.AllTurns.{AllTurnsRefused, CommitsAll}
use Rattle.group_commit.proofs.Committing.{ready-refused, ready-sealed, rounds-wrong}
use Rattle.group_commit.proofs.Finishing.{ways}
use Rattle.group_commit.proofs.OwnCalls.{calls-after, same-calls}
use Rattle.group_commit.proofs.TurnMoments.{each-rounds, each-sealed, each-still}
use Rattle.group_commit.proofs.all_turns.Journal+D+R.commit_all.Goals as goal

pub returns-then-is_aborted-clause-err : goal.returns-then-is_aborted-clause-err
returns-then-is_aborted-clause-err g c = AllTurnsRefused.TurnsAborted (sym c.is_aborted.ensures ∙ c.if-is_aborted.true) refl

pub returns-then-is_aborted-clause-calls : goal.returns-then-is_aborted-clause-calls
returns-then-is_aborted-clause-calls g c = same-calls g.D.Device.state _ _ refl

pub returns-then-is_aborted-clause-moments : goal.returns-then-is_aborted-clause-moments
returns-then-is_aborted-clause-moments g c = λ honest. each-still g.D.Device.state _ (c.recall_invariant.ensures.opens honest)

-- a refused seal or commit refuses the turns
pub returns-in_err-seal_last-clause-err : goal.returns-in_err-seal_last-clause-err
returns-in_err-seal_last-clause-err g c =
    let running = sym c.is_aborted.ensures ∙ c.if-is_aborted.false in
    let ready = c.is_ready.ensures.0 c.if-is_ready.true in
    let p = err_from_is_err_and c.from_residual.result c.from_residual.ensures.1 in
    rw (p.1, p.2) (ready-refused g.D.Device.state _ _ _ running ready (c.recall_invariant.ensures.agrees.locked ready.0) c.in_err-seal_last.ensures.err)

-- so does a device failure in turns ahead of need, though all is committed
pub returns-in_err-keep_room-clause-err : goal.returns-in_err-keep_room-clause-err
returns-in_err-keep_room-clause-err g c =
    let running = sym c.is_aborted.ensures ∙ c.if-is_aborted.false in
    let has = c.in_ok-seal_last.ensures.ok in
    let wrong = rounds-wrong g.D.Device.state _ _ _ has.running c.in_err-keep_room.ensures.err in
    let p = err_from_is_err_and c.from_residual-in_err-keep_room.result c.from_residual-in_err-keep_room.ensures.1 in
    rw (p.1, p.2, wrong.0) (AllTurnsRefused.FailedSealed running (c.is_ready.ensures.0 c.if-is_ready.true) _ has wrong.1)

pub returns-in_err-keep_room-clause-path : goal.returns-in_err-keep_room-clause-path
returns-in_err-keep_room-clause-path g c =
    let wrong = rounds-wrong g.D.Device.state _ _ _ c.in_ok-seal_last.ensures.ok.running c.in_err-keep_room.ensures.err in
    ways g.D.Device.state _ _ _ c.seal_last.ensures.path wrong.1.on.path

pub returns-in_err-keep_room-clause-shape : goal.returns-in_err-keep_room-clause-shape
returns-in_err-keep_room-clause-shape g c =
    let wrong = rounds-wrong g.D.Device.state _ _ _ c.in_ok-seal_last.ensures.ok.running c.in_err-keep_room.ensures.err in
    wrong.1.on.shape ∙ c.seal_last.ensures.shape

pub returns-in_err-keep_room-clause-calls : goal.returns-in_err-keep_room-clause-calls
returns-in_err-keep_room-clause-calls g c = calls-after g.D.Device.state _ _ _ c.seal_last.ensures.calls c.keep_room.ensures.calls

pub returns-in_err-keep_room-clause-moments : goal.returns-in_err-keep_room-clause-moments
returns-in_err-keep_room-clause-moments g c = λ honest.
    each-sealed g.D.Device.state _ _ _ c.in_ok-seal_last.ensures.ok (c.seal_last.ensures.moments (c.keep_room.ensures.honest honest))
    (each-rounds g.D.Device.state _ _ c.keep_room.ensures.committed (c.keep_room.ensures.moments honest))

-- a ready running transaction is sealed, and turns ahead of need come after its commit
pub returns-then-is_ready-clause-ok : goal.returns-then-is_ready-clause-ok
returns-then-is_ready-clause-ok g c =
    let before = c.position-before.ensures in
    let after = c.position.ensures in
    let blocks = c.saturating_sub-blocks.ensures in
    ready-sealed g.D.Device.state _ _ _ _ (c.is_ready.ensures.0 c.if-is_ready.true) c.in_ok-seal_last.ensures.ok
    c.in_ok-seal_last.ensures.rounds c.in_ok-seal_last.ensures.idle (omega arith) c.in_ok-keep_room.ensures.ok c.in_ok-keep_room.ensures.rounds

pub returns-then-is_ready-clause-path : goal.returns-then-is_ready-clause-path
returns-then-is_ready-clause-path g c = ways g.D.Device.state _ _ _ c.seal_last.ensures.path c.in_ok-keep_room.ensures.ok.on.path

pub returns-then-is_ready-clause-calls : goal.returns-then-is_ready-clause-calls
returns-then-is_ready-clause-calls g c = calls-after g.D.Device.state _ _ _ c.seal_last.ensures.calls c.keep_room.ensures.calls

pub returns-then-is_ready-clause-moments : goal.returns-then-is_ready-clause-moments
returns-then-is_ready-clause-moments g c = λ honest.
    each-sealed g.D.Device.state _ _ _ c.in_ok-seal_last.ensures.ok (c.seal_last.ensures.moments (c.keep_room.ensures.honest honest))
    (each-rounds g.D.Device.state _ _ c.keep_room.ensures.committed (c.keep_room.ensures.moments honest))

-- a device failure in the commit under way refuses the turns
pub returns-in_err-finish_commit-clause-err : goal.returns-in_err-finish_commit-clause-err
returns-in_err-finish_commit-clause-err g c =
    let running = sym c.is_aborted.ensures ∙ c.if-is_aborted.false in
    let wrong = c.in_err-finish_commit.ensures.err in
    let p = err_from_is_err_and c.from_residual-in_err-finish_commit.result c.from_residual-in_err-finish_commit.ensures.1 in
    rw (p.1, p.2, wrong.0) (AllTurnsRefused.FailedUnsealed running wrong.1)

pub returns-in_err-finish_commit-clause-path : goal.returns-in_err-finish_commit-clause-path
returns-in_err-finish_commit-clause-path g c = c.in_err-finish_commit.ensures.err.1.on.path

-- if the running transaction was not ready, finishing the commit under way commits all that can be
pub returns-clause-ok : goal.returns-clause-ok
returns-clause-ok g c =
    CommitsAll.WithoutRunning (λ ready. true≢false (sym (c.is_ready.ensures.1 ready) ∙ c.if-is_ready.false)) c.in_ok-finish_commit.ensures.ok
    c.in_ok-finish_commit.ensures.rounds

pub returns-clause-path : goal.returns-clause-path
returns-clause-path g c = c.in_ok-finish_commit.ensures.ok.on.path
