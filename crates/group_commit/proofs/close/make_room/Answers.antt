use Rattle.std.proofs.lemmas.Result.{err_from_is_err_and}
use Rattle.group_commit.proofs.Committing.{rounds-refused}
use Rattle.group_commit.proofs.Finishing.{room-made, went-on, wrong-on}
use Rattle.std.proofs.Common.{sym, ◌∙◌}
use Rattle.std.proofs.lemmas.Bool.{true≢false}
use Rattle.group_commit.proofs.NoRounds.{room-there, room-wanted}
use Rattle.group_commit.proofs.OwnCalls.{calls-after}
use Rattle.group_commit.proofs.TurnMoments.{each-rounds, each-went}
use Rattle.group_commit.proofs.close.make_room.Goals as goal

pub returns-in_err-finish_commit-clause-err : goal.returns-in_err-finish_commit-clause-err
returns-in_err-finish_commit-clause-err g c =
    let p = err_from_is_err_and c.from_residual.result c.from_residual.ensures.1 in
    rw (p.1, p.2) c.in_err-finish_commit.ensures.err

-- a whole ring has room for what needs a quarter of it
pub returns-clause-room : goal.returns-clause-room
returns-clause-room g c =
    room-made g.D.Device.state c.release_all.result _ _ c.recall_invariant.ensures.quarter c.release_all.ensures.ok c.release_all.ensures.free

pub returns-clause-ok : goal.returns-clause-ok
returns-clause-ok g c = went-on g.D.Device.state c.release_all.result _ _ _ c.in_ok-finish_commit.ensures.ok c.release_all.ensures.ok

pub returns-clause-err : goal.returns-clause-err
returns-clause-err g c = wrong-on g.D.Device.state c.release_all.result _ _ _ c.in_ok-finish_commit.ensures.ok
    (rounds-refused g.D.Device.state c.release_all.result _ _ c.in_ok-finish_commit.ensures.ok.running c.release_all.ensures.err)

-- if there is room, there is no round
pub returns-then-has_room-clause-rounds : goal.returns-then-has_room-clause-rounds
returns-then-has_room-clause-rounds g c =
    room-there g.D.Device.state _ _ c.in_ok-finish_commit.ensures.ok c.in_ok-finish_commit.ensures.idle c.in_ok-finish_commit.ensures.rounds

-- else the rounds are for lack of room
pub returns-clause-rounds : goal.returns-clause-rounds
returns-clause-rounds g c =
    room-wanted g.D.Device.state c.release_all.result _ _ _ c.in_ok-finish_commit.ensures.ok c.in_ok-finish_commit.ensures.idle
    c.in_ok-finish_commit.ensures.rounds (λ has. true≢false (sym (c.has_room.ensures.1 has) ∙ c.if-has_room.false)) c.release_all.ensures.ok

pub returns-clause-calls : goal.returns-clause-calls
returns-clause-calls g c = calls-after g.D.Device.state _ _ _ c.finish_commit.ensures.calls c.release_all.ensures.calls

pub returns-clause-moments : goal.returns-clause-moments
returns-clause-moments g c = λ honest.
    each-went g.D.Device.state _ _ _ c.in_ok-finish_commit.ensures.ok.on (c.finish_commit.ensures.moments (c.release_all.ensures.honest honest))
    (each-rounds g.D.Device.state _ _ c.release_all.ensures.committed (c.release_all.ensures.moments honest))
