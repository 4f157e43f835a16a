use Rattle.std.proofs.Common.{refl, sym, ap, ◌∙◌, not}
use Rattle.std.proofs.lemmas.Bool.{true≢false}
use Rattle.std.proofs.lemmas.Result.{err_from_is_err_and}
use Rattle.log_engine.specs.Engine.{EngineValue}
use Rattle.journal_steps.specs.Journal.{HasRoomFor, TurnRefused}
use Rattle.journal_steps.proofs.steps.seal.Goals as goal

pub returns-then-is_none-clause-err : goal.returns-then-is_none-clause-err
returns-then-is_none-clause-err g c =
    let short : HasRoomFor (record { front = c.args.front.now; engine = c.args.engine.now.engine }) → ⊥ =
    λ room. true≢false (sym (c.room_for.ensures.room.1 room) ∙ c.is_none.ensures ∙ ap not c.if-is_none.true) in
    TurnRefused.RingIsShort c.requires.due short refl

pub returns-in_err-batch-clause-err : goal.returns-in_err-batch-clause-err
returns-in_err-batch-clause-err g c =
    let p = err_from_is_err_and c.from_residual.result c.from_residual.ensures.1 in
    let room = c.room_for.ensures.room.0 (c.is_none.ensures ∙ ap not c.if-is_none.false) in
    let same = ap (λ (v : EngineValue g.row.D.Denot). record { device = v.device; journal = record { front = c.args.front.now; engine = v.engine } }) c.ready_batch.ensures.same in
    rw (p.1, p.2, c.in_err-batch.ensures.err) (TurnRefused.MemoryIsShort c.requires.due room same)

pub returns-in_err-batch-clause-agrees : goal.returns-in_err-batch-clause-agrees
returns-in_err-batch-clause-agrees g c = rw c.ready_batch.ensures.same c.requires.agrees

pub seal_batch-requires-clause-agrees : goal.seal_batch-requires-clause-agrees
seal_batch-requires-clause-agrees g c = rw c.ready_batch.ensures.same c.requires.agrees

pub seal_batch-requires-clause-due : goal.seal_batch-requires-clause-due
seal_batch-requires-clause-due g c = rw c.ready_batch.ensures.same c.requires.due

pub returns-clause-ok : goal.returns-clause-ok
returns-clause-ok g c = rw (← c.ready_batch.ensures.same) c.seal_batch.ensures.ok

pub returns-clause-err : goal.returns-clause-err
returns-clause-err g c = rw (← c.ready_batch.ensures.same) c.seal_batch.ensures.err
