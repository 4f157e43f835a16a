use Rattle.std.proofs.Common.{arith, refl, sym, ap, subst, ◌∙◌, ◌≡◌, ◌+◌, ◌≤◌, List, ℕ, length, slice_get}
use Rattle.std.proofs.lemmas.Option.{same_Some, slice_get_within}
use Rattle.journal_model.specs.declared.entry.Batch.{Batch}
use Rattle.journal_model.specs.declared.entry.Entry.{Entry}
use Rattle.journal_world.proofs.Accepted.{accepts-sound}
use Rattle.journal_world.specs.Engine.{Engine, HasRoom}
use Rattle.journal_world.specs.Sound.{Sound}
use Rattle.block_tables.specs.Effects.{effect_on, last_among, once_committed}
use Rattle.log_ledger.specs.Steps.{MayHandOver}
use Rattle.log_ledger.specs.Ledger.{engine_of}
use Rattle.log_ledger.specs.Text.{IsPlanOf}
use Rattle.log_ledger.proofs.Advancing.{same-runs, takes-on}
use Rattle.log_ledger.proofs.Ledgers.{batch-there}
use Rattle.log_ledger.proofs.Running.{needed_by, takes}
use Rattle.log_ledger.proofs.Outcomes.{at-ok}
use Rattle.log_engine.specs.Close.{KeepsClean}
use Rattle.log_engine.specs.Engine.{AcceptRefused, EngineValue}
use Rattle.log_engine.proofs.Effects.{roomy-noted, same-noted, taken-noted}
use Rattle.log_engine.proofs.KeptClean.{taken-clean}
use Rattle.log_engine.proofs.Plans.{idle-planned, taken-planned}
use Rattle.log_engine.proofs.engine.Engine.accept.Goals as goal

pub returns-then-self-clause-err : goal.returns-then-self-clause-err
returns-then-self-clause-err g c = rw (← c.self.view_is) (refl, AcceptRefused.AfterFailure c.if-self.true, refl)

-- if memory for the plan runs out, the engine is as before
pub invariant_of-self : goal.invariant_of-self
invariant_of-self g c =
    let shape = (g.D.Device.state c.self.inside.device).shape in
    let l = c.self.inside.ledger in
    let may : MayHandOver (engine_of shape l) c.args.batch =
    subst (λ (v : EngineValue g.row.D.Denot). MayHandOver v.engine c.args.batch) (sym c.self.view_is) c.requires.may in (
      c.self.invariant.0,
      c.self.invariant.1,
      c.self.invariant.2,
      c.self.invariant.3,
      idle-planned (engine_of shape l) c.make.new.self c.self.invariant.0.plain may.idle,
      c.self.invariant.5,
    )

pub returns-then-is_err-clause-err : goal.returns-then-is_err-clause-err
returns-then-is_err-clause-err g c = rw (← c.self.view_is) (refl, AcceptRefused.MemoryIsShort c.if-self.false, refl)

pub returns-then-is_err-2-clause-err : goal.returns-then-is_err-2-clause-err
returns-then-is_err-2-clause-err g c = rw (← c.self.view_is) (refl, AcceptRefused.MemoryIsShort c.if-self.false, refl)

pub take-requires-clause-room : goal.take-requires-clause-room
take-requires-clause-room g c =
    let shape = (g.D.Device.state c.self.inside.device).shape in
    let l = c.self.inside.ledger in
    let may : MayHandOver (engine_of shape l) c.args.batch =
    subst (λ (v : EngineValue g.row.D.Denot). MayHandOver v.engine c.args.batch) (sym c.self.view_is) c.requires.may in
    let room : HasRoom (engine_of shape l) c.args.batch =
    subst (λ (v : EngineValue g.row.D.Denot). HasRoom v.engine c.args.batch) (sym c.self.view_is) c.requires.room in
    (shape, c.self.invariant.0, may, room)

pub take-requires-clause-blocks : goal.take-requires-clause-blocks
take-requires-clause-blocks g c =
    subst (λ (v : EngineValue g.row.D.Denot). c.args.blocks ≡ needed_by v.engine.layout c.args.batch) (sym c.self.view_is) c.requires.blocks

-- if memory for the batch runs out, the engine is as before
pub invariant_of-self-in-Err : goal.invariant_of-self-in-Err
invariant_of-self-in-Err g c =
    let state = g.D.Device.state c.self.inside.device in
    let l = c.self.inside.ledger in
    let e = engine_of state.shape l in
    let may : MayHandOver e c.args.batch = subst (λ (v : EngineValue g.row.D.Denot). MayHandOver v.engine c.args.batch) (sym c.self.view_is) c.requires.may in
    let same = c.in-Err.ensures.same in
    let runs = same-runs state.shape l c.take.new.self (same.0 state.shape) same.1 c.take.ensures.pending c.take.ensures.kept c.self.invariant.0 in (
      runs,
      c.self.invariant.1,
      λ honest. subst (λ (e : Engine). Sound e state.disk) (sym (same.0 state.shape)) (c.self.invariant.2 honest),
      λ honest. subst (λ (e : Engine). KeepsClean e state.disk) (sym (same.0 state.shape)) (c.self.invariant.3 honest),
      idle-planned (engine_of state.shape c.take.new.self) c.make.new.self runs.plain (ap (λ (x : Engine). x.stage) (same.0 state.shape) ∙ may.idle),
      same-noted e (engine_of state.shape c.take.new.self) c.reserve.new.self (ap (λ (x : Engine). x.accepted) (same.0 state.shape))
          (roomy-noted e c.self.inside.effects c.reserve.new.self c.reserve.ensures.same c.self.invariant.5),
    )

pub returns-in-Err-clause-err : goal.returns-in-Err-clause-err
returns-in-Err-clause-err g c =
    let shape = (g.D.Device.state c.self.inside.device).shape in
    let l = c.self.inside.ledger in
    let same = c.in-Err.ensures.same in
    rw (← c.self.view_is) (
      c.in-Err.ensures.err,
      AcceptRefused.MemoryIsShort c.if-self.false,
      ap (λ (e : Engine). record { device = c.self.inside.device; engine = e }) (same.0 shape),
    )

-- the batch is the one to be committed
pub batch_due-requires-clause-due : goal.batch_due-requires-clause-due
batch_due-requires-clause-due g c =
    let shape = (g.D.Device.state c.self.inside.device).shape in
    let l = c.self.inside.ledger in
    let may : MayHandOver (engine_of shape l) c.args.batch =
    subst (λ (v : EngineValue g.row.D.Denot). MayHandOver v.engine c.args.batch) (sym c.self.view_is) c.requires.may in
    let is = c.in_default.ensures.ok shape in
    let accepted = ap (λ (x : Engine). x.accepted) is in
    let committed = ap (λ (x : Engine). x.committed) is in
    slice_get_within c.take.new.self.accepted.items c.take.new.self.committed c.args.batch
    (ap (slice_get c.take.new.self.accepted.items) committed
    ∙ batch-there shape l c.args.batch c.take.new.self.accepted.items c.self.invariant.0 may accepted)

-- it is not released
pub batch_due-requires-clause-unreleased : goal.batch_due-requires-clause-unreleased
batch_due-requires-clause-unreleased g c =
    let shape = (g.D.Device.state c.self.inside.device).shape in
    let l = c.self.inside.ledger in
    let low : l.released ≤ l.bound = c.self.invariant.0.plain.order.0 in
    let high : l.bound ≤ l.committed = c.self.invariant.0.plain.order.1 in
    let between : l.released ≤ l.committed = omega arith in
    subst (λ (e : Engine). e.released ≤ e.committed) (sym (c.in_default.ensures.ok shape)) between

-- the table has room for its blocks
pub note-requires : goal.note-requires
note-requires g c =
    let shape = (g.D.Device.state c.self.inside.device).shape in
    let l = c.self.inside.ledger in
    let may : MayHandOver (engine_of shape l) c.args.batch =
    subst (λ (v : EngineValue g.row.D.Denot). MayHandOver v.engine c.args.batch) (sym c.self.view_is) c.requires.may in
    let is = c.in_default.ensures.ok shape in
    let accepted = ap (λ (x : Engine). x.accepted) is in
    let committed = ap (λ (x : Engine). x.committed) is in
    let there : c.args.batch ≡ c.batch_due.result.now =
    same_Some c.args.batch c.batch_due.result.now
    (sym (batch-there shape l c.args.batch c.take.new.self.accepted.items c.self.invariant.0 may accepted)
    ∙ ap (slice_get c.take.new.self.accepted.items) (sym committed) ∙ c.batch_due.ensures) in
    let made = sym c.is_err-2.ensures.value ∙ c.if-is_err-2.false in
    let room : c.len.result ≤ c.reserve.new.self.room = at-ok c.reserve.result made c.reserve.ensures.ok in
    subst (λ (x : Batch). length x.entries ≤ c.reserve.new.self.room) there
    (subst (λ (n : ℕ). n ≤ c.reserve.new.self.room) c.len.ensures room)

-- the engine can run with the batch, has its plan, and its effects are noted
pub invariant_of-self-2 : goal.invariant_of-self-2
invariant_of-self-2 g c =
    let state = g.D.Device.state c.self.inside.device in
    let l = c.self.inside.ledger in
    let e = engine_of state.shape l in
    let may : MayHandOver e c.args.batch = subst (λ (v : EngineValue g.row.D.Denot). MayHandOver v.engine c.args.batch) (sym c.self.view_is) c.requires.may in
    let room : HasRoom e c.args.batch = subst (λ (v : EngineValue g.row.D.Denot). HasRoom v.engine c.args.batch) (sym c.self.view_is) c.requires.room in
    let needed : c.args.blocks ≡ needed_by l.layout c.args.batch =
    subst (λ (v : EngineValue g.row.D.Denot). c.args.blocks ≡ needed_by v.engine.layout c.args.batch) (sym c.self.view_is) c.requires.blocks in
    let head = c.in_default.ensures.head ∙ ap (λ (n : ℕ). l.ring.head + n) needed in
    let is = c.in_default.ensures.ok state.shape in
    let made = sym c.is_err.ensures.value ∙ c.if-is_err.false in
    let plan : IsPlanOf c.args.batch.entries c.make.new.self =
    subst (λ (es : List (ℕ × Entry)). IsPlanOf es c.make.new.self) c.as_slice.ensures (at-ok c.make.result made c.make.ensures) in
    let accepted = ap (λ (x : Engine). x.accepted) is in
    let committed = ap (λ (x : Engine). x.committed) is in
    let there : c.args.batch ≡ c.batch_due.result.now =
    same_Some c.args.batch c.batch_due.result.now
    (sym (batch-there state.shape l c.args.batch c.take.new.self.accepted.items c.self.invariant.0 may accepted)
    ∙ ap (slice_get c.take.new.self.accepted.items) (sym committed) ∙ c.batch_due.ensures) in (
      takes-on state.shape l c.take.new.self c.args.batch c.if-self.false may room is head c.take.ensures.pending c.take.ensures.kept c.self.invariant.0,
      c.self.invariant.1,
      λ honest. accepts-sound e c.args.batch _ state.disk (c.self.invariant.2 honest) (takes e _ c.args.batch c.if-self.false may room is),
      λ honest. taken-clean e _ c.args.batch state.disk (takes e _ c.args.batch c.if-self.false may room is),
      taken-planned e _ c.args.batch c.make.new.self c.self.invariant.0.plain may is plan,
      taken-noted e _ c.args.batch c.reserve.new.self c.note.new.self is
          (subst (λ (x : Batch). (b : ℕ) → effect_on c.note.new.self b ≡ last_among x.tid x.entries b (once_committed (effect_on c.reserve.new.self b))) (sym there) c.note.ensures)
          (roomy-noted e c.self.inside.effects c.reserve.new.self c.reserve.ensures.same c.self.invariant.5),
    )

pub returns-clause-ok : goal.returns-clause-ok
returns-clause-ok g c =
    let shape = (g.D.Device.state c.self.inside.device).shape in
    let l = c.self.inside.ledger in
    let e = engine_of shape l in
    let may : MayHandOver e c.args.batch = subst (λ (v : EngineValue g.row.D.Denot). MayHandOver v.engine c.args.batch) (sym c.self.view_is) c.requires.may in
    let room : HasRoom e c.args.batch = subst (λ (v : EngineValue g.row.D.Denot). HasRoom v.engine c.args.batch) (sym c.self.view_is) c.requires.room in
    rw (← c.self.view_is) (takes e _ c.args.batch c.if-self.false may room (c.in_default.ensures.ok shape))
