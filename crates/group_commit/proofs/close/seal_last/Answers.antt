use Rattle.std.proofs.Common.{sym, ap, subst, ◌<◌, ◌∙◌, length}
use Rattle.std.proofs.lemmas.Result.{err_from_is_err_and}
use Rattle.journal_model.specs.Transaction.{Transaction}
use Rattle.journal_world.specs.Engine.{Engine}
use Rattle.journal_world.specs.Journal.{batch_of}
use Rattle.journal_steps.specs.Values.{JournalValue}
use Rattle.group_commit.specs.Close.{GoesOn, LastRefused, WentWrong}
use Rattle.group_commit.proofs.Finishing.{last-failed, last-uncommitted, same-running, seal-done, seal-refused, sealed-on, way-locked, way-on, went-from}
use Rattle.group_commit.specs.Rounds.{MakesRoomAlone}
use Rattle.group_commit.proofs.Leading.{comes-same}
use Rattle.group_commit.proofs.NoRounds.{seal-rounds, sealed-rounds}
use Rattle.group_commit.specs.Calls.{CallsForTurns}
use Rattle.group_commit.specs.During.{HoldsDuringTurns}
use Rattle.group_commit.proofs.OwnCalls.{calls-after, no-calls, same-calls, seal-calls}
use Rattle.group_commit.proofs.TurnMoments.{each-device, each-same, each-sealed}
use Rattle.group_commit.proofs.close.seal_last.Goals as goal

pub returns-in_err-batch-clause-err : goal.returns-in_err-batch-clause-err
returns-in_err-batch-clause-err g c =
    let p = err_from_is_err_and c.from_residual.result c.from_residual.ensures.1 in
    rw (p.1, p.2, c.in_err-batch.ensures.err) (LastRefused.NotMadeReady c.ready_batch.ensures.same)

pub returns-in_err-make_room-clause-err : goal.returns-in_err-make_room-clause-err
returns-in_err-make_room-clause-err g c =
    let p = err_from_is_err_and c.from_residual-in_err-make_room.result c.from_residual-in_err-make_room.ensures.1 in
    let wrong = subst (λ (v : JournalValue g.row.D.Denot). WentWrong g.D.Device.state v c.make_room.new.journal) c.ready_batch.ensures.same c.in_err-make_room.ensures.err.1 in
    rw (p.1, p.2) (last-failed g.D.Device.state _ _ _ (c.in_err-make_room.ensures.err.0, wrong))

-- the entries are still the running transaction's
pub seal_running-requires-clause-batch : goal.seal_running-requires-clause-batch
seal_running-requires-clause-batch g c =
    let went = went-from g.D.Device.state c.args.journal.now _ _ c.ready_batch.ensures.same c.in_ok-make_room.ensures.ok in
    c.in_ok-batch.ensures.ok ∙ ap batch_of (sym (same-running g.D.Device.state _ _ went.on))

pub returns-in_err-seal_running-clause-err : goal.returns-in_err-seal_running-clause-err
returns-in_err-seal_running-clause-err g c =
    let went = went-from g.D.Device.state c.args.journal.now _ _ c.ready_batch.ensures.same c.in_ok-make_room.ensures.ok in
    let refused = c.in_err-seal_running.ensures.err in
    let p = err_from_is_err_and c.from_residual-in_err-seal_running.result c.from_residual-in_err-seal_running.ensures.1 in
    rw (p.1, p.2) (seal-refused g.D.Device.state _ _ _ _ went c.in_ok-make_room.ensures.room c.seal_running.ensures.all refused.0 refused.1)

pub returns-clause-err : goal.returns-clause-err
returns-clause-err g c =
    let went = went-from g.D.Device.state c.args.journal.now _ _ c.ready_batch.ensures.same c.in_ok-make_room.ensures.ok in
    let joined = subst (λ (t : Transaction). 0 < length t.handles) (sym (same-running g.D.Device.state _ _ went.on)) c.requires.joined in
    let has = seal-done g.D.Device.state _ _ _ went c.seal_running.ensures.told joined c.in_ok-seal_running.ensures.ok c.seal_running.ensures.device in
    last-uncommitted g.D.Device.state c.finish_commit.result _ _ _ has c.finish_commit.ensures.err

pub returns-in_err-batch-clause-path : goal.returns-in_err-batch-clause-path
returns-in_err-batch-clause-path g c =
    comes-same _ _ _ _ (ap (λ (v : JournalValue g.row.D.Denot). v.journal) c.ready_batch.ensures.same)
    (ap (λ (v : JournalValue g.row.D.Denot). (g.D.Device.state v.device).disk) c.ready_batch.ensures.same)

pub returns-in_err-make_room-clause-path : goal.returns-in_err-make_room-clause-path
returns-in_err-make_room-clause-path g c =
    let on = subst (λ (v : JournalValue g.row.D.Denot). GoesOn g.D.Device.state v c.make_room.new.journal) c.ready_batch.ensures.same c.in_err-make_room.ensures.err.1.on in
    on.path

pub returns-in_err-seal_running-clause-path : goal.returns-in_err-seal_running-clause-path
returns-in_err-seal_running-clause-path g c =
    let went = went-from g.D.Device.state c.args.journal.now _ _ c.ready_batch.ensures.same c.in_ok-make_room.ensures.ok in
    let joined = subst (λ (t : Transaction). 0 < length t.handles) (sym (same-running g.D.Device.state _ _ went.on)) c.requires.joined in
    way-locked g.D.Device.state _ _ _ went c.seal_running.ensures.told joined c.in_err-seal_running.ensures.err.1

pub returns-clause-path : goal.returns-clause-path
returns-clause-path g c =
    let went = went-from g.D.Device.state c.args.journal.now _ _ c.ready_batch.ensures.same c.in_ok-make_room.ensures.ok in
    let joined = subst (λ (t : Transaction). 0 < length t.handles) (sym (same-running g.D.Device.state _ _ went.on)) c.requires.joined in
    let has = seal-done g.D.Device.state _ _ _ went c.seal_running.ensures.told joined c.in_ok-seal_running.ensures.ok c.seal_running.ensures.device in
    way-on g.D.Device.state c.finish_commit.result _ _ _ has.path c.finish_commit.ensures.ok c.finish_commit.ensures.err

pub returns-clause-ok : goal.returns-clause-ok
returns-clause-ok g c =
    let went = went-from g.D.Device.state c.args.journal.now _ _ c.ready_batch.ensures.same c.in_ok-make_room.ensures.ok in
    let joined = subst (λ (t : Transaction). 0 < length t.handles) (sym (same-running g.D.Device.state _ _ went.on)) c.requires.joined in
    let has = seal-done g.D.Device.state _ _ _ went c.seal_running.ensures.told joined c.in_ok-seal_running.ensures.ok c.seal_running.ensures.device in
    sealed-on g.D.Device.state c.finish_commit.result _ _ _ has c.finish_commit.ensures.ok

-- the rounds are those that made room
pub returns-clause-rounds : goal.returns-clause-rounds
returns-clause-rounds g c =
    let room = subst (λ (v : JournalValue g.row.D.Denot). MakesRoomAlone g.D.Device.state v c.make_room.new.journal) c.ready_batch.ensures.same c.in_ok-make_room.ensures.rounds in
    sealed-rounds g.D.Device.state c.finish_commit.result _ c.make_room.new.journal c.seal_running.new.self _ room (seal-rounds g.D.Device.state c.make_room.new.journal c.seal_running.new.self c.in_ok-seal_running.ensures.ok) c.finish_commit.ensures.rounds

pub returns-in_err-batch-clause-calls : goal.returns-in_err-batch-clause-calls
returns-in_err-batch-clause-calls g c = same-calls g.D.Device.state _ _ c.ready_batch.ensures.same

pub returns-in_err-make_room-clause-calls : goal.returns-in_err-make_room-clause-calls
returns-in_err-make_room-clause-calls g c =
    subst (λ (v : JournalValue g.row.D.Denot). CallsForTurns g.D.Device.state v c.make_room.new.journal) c.ready_batch.ensures.same c.make_room.ensures.calls

pub returns-in_err-seal_running-clause-calls : goal.returns-in_err-seal_running-clause-calls
returns-in_err-seal_running-clause-calls g c =
    calls-after g.D.Device.state _ _ _
    (subst (λ (v : JournalValue g.row.D.Denot). CallsForTurns g.D.Device.state v c.make_room.new.journal) c.ready_batch.ensures.same c.make_room.ensures.calls)
    (no-calls g.D.Device.state _ _ (ap (λ (v : JournalValue g.row.D.Denot). v.journal.engine) c.in_err-seal_running.ensures.err.1) c.seal_running.ensures.device)

pub returns-clause-calls : goal.returns-clause-calls
returns-clause-calls g c =
    calls-after g.D.Device.state _ _ _
    (calls-after g.D.Device.state _ _ _
    (subst (λ (v : JournalValue g.row.D.Denot). CallsForTurns g.D.Device.state v c.make_room.new.journal) c.ready_batch.ensures.same c.make_room.ensures.calls)
    (seal-calls g.D.Device.state _ _ c.in_ok-seal_running.ensures.ok c.seal_running.ensures.device))
    c.finish_commit.ensures.calls

pub returns-in_err-batch-clause-moments : goal.returns-in_err-batch-clause-moments
returns-in_err-batch-clause-moments g c = λ honest.
    let same = c.ready_batch.ensures.same in
    each-same g.D.Device.state _ _ same (c.recall_invariant.ensures.opens (subst g.D.Device.honest (ap (λ (v : JournalValue g.row.D.Denot). v.device) same) honest))

pub returns-in_err-make_room-clause-moments : goal.returns-in_err-make_room-clause-moments
returns-in_err-make_room-clause-moments g c = λ honest.
    subst (λ (v : JournalValue g.row.D.Denot). HoldsDuringTurns g.D.Device.state v c.make_room.new.journal) c.ready_batch.ensures.same (c.make_room.ensures.moments honest)

pub returns-in_err-seal_running-clause-moments : goal.returns-in_err-seal_running-clause-moments
returns-in_err-seal_running-clause-moments g c = λ honest.
    each-device g.D.Device.state _ _ _ c.seal_running.ensures.device
    (ap (λ (v : JournalValue g.row.D.Denot). v.journal.engine.committed) c.in_err-seal_running.ensures.err.1)
    (subst (λ (v : JournalValue g.row.D.Denot). HoldsDuringTurns g.D.Device.state v c.make_room.new.journal) c.ready_batch.ensures.same
    (c.make_room.ensures.moments (subst g.D.Device.honest c.seal_running.ensures.device honest)))

pub returns-clause-moments : goal.returns-clause-moments
returns-clause-moments g c = λ honest.
    let went = went-from g.D.Device.state c.args.journal.now _ _ c.ready_batch.ensures.same c.in_ok-make_room.ensures.ok in
    let joined = subst (λ (t : Transaction). 0 < length t.handles) (sym (same-running g.D.Device.state _ _ went.on)) c.requires.joined in
    let has = seal-done g.D.Device.state _ _ _ went c.seal_running.ensures.told joined c.in_ok-seal_running.ensures.ok c.seal_running.ensures.device in
    each-sealed g.D.Device.state _ _ _ has
    (each-device g.D.Device.state _ _ _ c.seal_running.ensures.device (ap (λ (e : Engine). e.committed) c.in_ok-seal_running.ensures.ok.engine.after)
    (subst (λ (v : JournalValue g.row.D.Denot). HoldsDuringTurns g.D.Device.state v c.make_room.new.journal) c.ready_batch.ensures.same
    (c.make_room.ensures.moments (subst g.D.Device.honest c.seal_running.ensures.device (c.finish_commit.ensures.honest honest)))))
    (c.finish_commit.ensures.moments honest)
