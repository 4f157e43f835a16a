use Rattle.std.proofs.Common.{refl, sym, ap, subst, ◌∙◌, ◌≡◌, ℕ, Option, Some, IsTrue, is_some, length}
use Rattle.std.proofs.lemmas.Bool.{true≢false}
use Rattle.journal_model.specs.declared.entry.Batch.{Batch}
use Rattle.journal_model.specs.Transaction.{copied, revoked}
use Rattle.log_model.specs.Room.{need}
use Rattle.journal_world.specs.Engine.{Accepts, HasRoom}
use Rattle.journal_world.specs.Front.{Front, MaySeal}
use Rattle.log_ledger.specs.Steps.{MayHandOver}
use Rattle.log_engine.specs.Engine.{EngineValue}
use Rattle.journal_steps.specs.Journal.{Agrees, HasRoomFor, TurnRefused}
use Rattle.journal_steps.proofs.Quarter.{quarter}
use Rattle.journal_steps.proofs.Sealing.{agrees-sealed, all-told, may-hand_over, refused-seal, room-good}
use Rattle.journal_steps.proofs.steps.seal_batch.Goals as goal

-- an answer with a number is some answer
there : (r : Option ℕ) (n : ℕ) → r ≡ Some n → IsTrue (is_some r)
there r n is = ap is_some is

pub returns-in_default-clause-err : goal.returns-in_default-clause-err
returns-in_default-clause-err g c =
    let short : HasRoomFor (record { front = c.args.front.now; engine = c.args.engine.now.engine }) → ⊥ =
    λ room. true≢false (sym (c.room_for.ensures.room.1 room) ∙ ap is_some c.in_default.is) in
    TurnRefused.RingIsShort c.requires.due short refl

pub accept-requires-clause-may : goal.accept-requires-clause-may
accept-requires-clause-may g c =
    let e = c.args.engine.now.engine in
    let plain = c.recall_invariant.ensures.plain in
    subst (MayHandOver e) (sym c.requires.batch) (may-hand_over c.args.front.now e c.requires.agrees plain c.requires.due)

pub accept-requires-clause-room : goal.accept-requires-clause-room
accept-requires-clause-room g c =
    let e = c.args.engine.now.engine in
    let plain = c.recall_invariant.ensures.plain in
    let room = c.room_for.ensures.room.0 (there c.room_for.result _ c.in-Some.is) in
    subst (HasRoom e) (sym c.requires.batch) (room-good e c.args.front.now.running plain room)

pub accept-requires-clause-blocks : goal.accept-requires-clause-blocks
accept-requires-clause-blocks g c =
    let e = c.args.engine.now.engine in
    subst (λ (b : Batch). c.in-Some.blocks ≡ need e.layout (length (copied b.entries)) (length (revoked b.entries))) (sym c.requires.batch)
    c.in-Some.ensures.blocks

pub returns-in-Err-clause-err : goal.returns-in-Err-clause-err
returns-in-Err-clause-err g c =
    let due = c.requires.due in
    let f = c.args.front.now in
    let e = c.args.engine.now.engine in
    let room = c.room_for.ensures.room.0 (there c.room_for.result _ c.in-Some.is) in
    let refused = c.in-Err.ensures.err in
    let same = ap (λ (v : EngineValue g.row.D.Denot). record { device = v.device; journal = record { front = f; engine = v.engine } }) refused.2 in
    (refused-seal g.D.Device.state f c.args.engine.now.device e _ c.in-Err.refused.1 due room refused.1 same)

-- it is sealed, and fits a quarter of the ring
pub returns-clause-ok : goal.returns-clause-ok
returns-clause-ok g c =
    let f = c.args.front.now in
    let e = c.args.engine.now.engine in
    let plain = c.recall_invariant.ensures.plain in
    let due = c.requires.due in
    let taken = subst (λ (b : Batch). Accepts e b c.accept.new.self.engine) c.requires.batch c.in_default-accept.ensures.ok in
    let may : MaySeal f = record { locked = due.locked; stopped = due.stopped; finished = all-told f e c.requires.agrees plain due.idle } in
    (record { may = may; front = c.seal.ensures; engine = taken; disk_is = ap (λ d. (g.D.Device.state d).disk) c.accept.ensures.device }, c.tid-tid.ensures, quarter f e c.requires.agrees plain)

pub returns-clause-agrees : goal.returns-clause-agrees
returns-clause-agrees g c =
    let taken = subst (λ (b : Batch). Accepts c.args.engine.now.engine b c.accept.new.self.engine) c.requires.batch c.in_default-accept.ensures.ok in
    subst (λ (f : Front). Agrees (record { front = f; engine = c.accept.new.self.engine })) (sym c.seal.ensures)
    (agrees-sealed c.args.front.now c.args.engine.now.engine c.accept.new.self.engine c.requires.agrees c.requires.due.stopped taken.after)
