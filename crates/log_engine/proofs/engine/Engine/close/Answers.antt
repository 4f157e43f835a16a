use Rattle.std.proofs.Common.{refl, sym, ap, subst, ◌∙◌, ◌≡◌, List, ℕ}
use Rattle.journal_model.specs.declared.number.Area.TheVariants.{Log}
use Rattle.journal_model.specs.Disk.{flushed, written}
use Rattle.block_device.specs.State.{EachMoment}
use Rattle.journal_world.specs.Call.{IsAfterFault}
use Rattle.journal_world.specs.Call.Call.{Write}
use Rattle.log_epochs.specs.EngineSteps.{MayClose, closed_superblock}
use Rattle.log_ledger.specs.Ledger.{engine_of}
use Rattle.log_ledger.proofs.Rounds.{round-log}
use Rattle.log_engine.specs.Close.{CloseDid, CloseRefused, IsAllReleased, IsWritingFirst}
use Rattle.log_engine.specs.Close.MakesCloseCalls.{BothCloseCalls, NoCloseCall}
use Rattle.log_engine.specs.Engine.{EngineValue}
use Rattle.log_engine.proofs.Closing.{close-fails, closes-by, each-closing, each-unclosed, is-closed, may-close, was-closed}
use Rattle.log_engine.proofs.engine.Engine.close.Goals as goal

pub returns-then-ledger-clause-err : goal.returns-then-ledger-clause-err
returns-then-ledger-clause-err g c = rw (← c.self.view_is) (CloseRefused.CloseAborted c.if-ledger.true refl)

-- what holds now holds at the one moment
pub returns-then-ledger-clause-moments : goal.returns-then-ledger-clause-moments
returns-then-ledger-clause-moments g c =
    let all = subst (λ (v : EngineValue g.row.D.Denot). IsAllReleased v.engine) (sym c.self.view_is) c.requires in
    rw (← c.self.view_is) (λ honest. each-unclosed _ _ (c.self.invariant.2 honest) all.idle)

pub returns-then-not-ledger-clause-closed : goal.returns-then-not-ledger-clause-closed
returns-then-not-ledger-clause-closed g c =
    let all = subst (λ (v : EngineValue g.row.D.Denot). IsAllReleased v.engine) (sym c.self.view_is) c.requires in
    rw (← c.self.view_is) (λ honest. was-closed _ _ (c.self.invariant.2 honest) (c.self.invariant.3 honest) c.if-not-ledger.true all.idle)

pub returns-then-not-ledger-clause-moments : goal.returns-then-not-ledger-clause-moments
returns-then-not-ledger-clause-moments g c =
    let all = subst (λ (v : EngineValue g.row.D.Denot). IsAllReleased v.engine) (sym c.self.view_is) c.requires in
    rw (← c.self.view_is) (λ honest. each-unclosed _ _ (c.self.invariant.2 honest) all.idle)

pub write_first-requires-clause-there : goal.write_first-requires-clause-there
write_first-requires-clause-there g c = round-log _ c.self.invariant.0.plain

pub returns-in-Ok-clause-ok : goal.returns-in-Ok-clause-ok
returns-in-Ok-clause-ok g c =
    let before = g.D.Device.state c.self.inside.device in
    let after = g.D.Device.state c.write_first.new.device in
    let e = engine_of before.shape c.self.inside.ledger in
    let all = subst (λ (v : EngineValue g.row.D.Denot). IsAllReleased v.engine) (sym c.self.view_is) c.requires in
    let may : MayClose e = may-close e c.if-ledger.false c.if-not-ledger.false all in
    let is : c.bytes.result.now ≡ closed_superblock e = c.bytes.ensures ∙ c.write_closed.ensures.closed before.shape in
    let done : after.disk ≡ flushed (written before.disk Log 0 (closed_superblock e)) Log =
    c.in-Ok.ensures.ok ∙ ap (λ (block : List ℕ). flushed (written before.disk Log 0 block) Log) is in
    rw (← c.self.view_is) (CloseDid.Closes (closes-by e before.disk after.disk may done))

pub returns-in-Ok-clause-closed : goal.returns-in-Ok-clause-closed
returns-in-Ok-clause-closed g c =
    let before = g.D.Device.state c.self.inside.device in
    let after = g.D.Device.state c.write_first.new.device in
    let e = engine_of before.shape c.self.inside.ledger in
    let all = subst (λ (v : EngineValue g.row.D.Denot). IsAllReleased v.engine) (sym c.self.view_is) c.requires in
    let may : MayClose e = may-close e c.if-ledger.false c.if-not-ledger.false all in
    let is : c.bytes.result.now ≡ closed_superblock e = c.bytes.ensures ∙ c.write_closed.ensures.closed before.shape in
    let done : after.disk ≡ flushed (written before.disk Log 0 (closed_superblock e)) Log =
    c.in-Ok.ensures.ok ∙ ap (λ (block : List ℕ). flushed (written before.disk Log 0 block) Log) is in
    rw (← c.self.view_is) (λ honest. is-closed e before.disk after.disk (c.self.invariant.2 honest) may done)

pub returns-in-Ok-clause-moments : goal.returns-in-Ok-clause-moments
returns-in-Ok-clause-moments g c =
    let before = g.D.Device.state c.self.inside.device in
    let after = g.D.Device.state c.write_first.new.device in
    let e = engine_of before.shape c.self.inside.ledger in
    let all = subst (λ (v : EngineValue g.row.D.Denot). IsAllReleased v.engine) (sym c.self.view_is) c.requires in
    let may : MayClose e = may-close e c.if-ledger.false c.if-not-ledger.false all in
    let is : c.bytes.result.now ≡ closed_superblock e = c.bytes.ensures ∙ c.write_closed.ensures.closed before.shape in
    let each = subst (λ (block : List ℕ). EachMoment (IsWritingFirst block before.disk) before after) is c.write_first.ensures.moments in
    rw (← c.self.view_is) (λ honest. each-closing e before after (c.self.invariant.2 honest) may each)

pub returns-clause-err : goal.returns-clause-err
returns-clause-err g c =
    let before = g.D.Device.state c.self.inside.device in
    let after = g.D.Device.state c.write_first.new.device in
    let e = engine_of before.shape c.self.inside.ledger in
    let all = subst (λ (v : EngineValue g.row.D.Denot). IsAllReleased v.engine) (sym c.self.view_is) c.requires in
    let may : MayClose e = may-close e c.if-ledger.false c.if-not-ledger.false all in
    let is : c.bytes.result.now ≡ closed_superblock e = c.bytes.ensures ∙ c.write_closed.ensures.closed before.shape in
    let fault = subst (λ (block : List ℕ). IsAfterFault (Write Log 0 block) before.disk after.disk) is c.in-Err.ensures.err in
    rw (← c.self.view_is) (CloseRefused.CloseFailed (close-fails e before.disk after.disk may fault) c.in-Err.ensures.faults)

pub returns-clause-moments : goal.returns-clause-moments
returns-clause-moments g c =
    let before = g.D.Device.state c.self.inside.device in
    let after = g.D.Device.state c.write_first.new.device in
    let e = engine_of before.shape c.self.inside.ledger in
    let all = subst (λ (v : EngineValue g.row.D.Denot). IsAllReleased v.engine) (sym c.self.view_is) c.requires in
    let may : MayClose e = may-close e c.if-ledger.false c.if-not-ledger.false all in
    let is : c.bytes.result.now ≡ closed_superblock e = c.bytes.ensures ∙ c.write_closed.ensures.closed before.shape in
    let each = subst (λ (block : List ℕ). EachMoment (IsWritingFirst block before.disk) before after) is c.write_first.ensures.moments in
    rw (← c.self.view_is) (λ honest. each-closing e before after (c.self.invariant.2 honest) may each)

-- no call is made where the device failed before, or where the log is clean
pub returns-then-ledger-clause-calls : goal.returns-then-ledger-clause-calls
returns-then-ledger-clause-calls g c = rw (← c.self.view_is) (NoCloseCall refl)

pub returns-then-not-ledger-clause-calls : goal.returns-then-not-ledger-clause-calls
returns-then-not-ledger-clause-calls g c = rw (← c.self.view_is) (NoCloseCall refl)

-- and else the write and the flush
pub returns-in-Ok-clause-calls : goal.returns-in-Ok-clause-calls
returns-in-Ok-clause-calls g c = rw (← c.self.view_is) (BothCloseCalls c.if-ledger.false c.if-not-ledger.false c.write_first.ensures.calls)

pub returns-clause-calls : goal.returns-clause-calls
returns-clause-calls g c = rw (← c.self.view_is) (BothCloseCalls c.if-ledger.false c.if-not-ledger.false c.write_first.ensures.calls)
