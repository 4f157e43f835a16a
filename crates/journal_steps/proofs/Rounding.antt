-- Checkpoint turns and reads beside the front: it agrees with the engine after them, and what refuses them.
use Rattle.std.proofs.Common.{refl, sym, ap, ap₂, subst, ◌∙◌}
use Rattle.std.specs.Prelude.{◌≡◌, ℕ, List, Bool, true, false, None, length}
use Rattle.std.proofs.lemmas.Bool.{true≢false}
use Rattle.journal_model.specs.declared.refusal.JournalError.{JournalError}
use Rattle.journal_model.specs.Block.{IsAllowedBlock}
use Rattle.journal_model.specs.Disk.{Disk, Shape}
use Rattle.journal_model.specs.Transaction.{History, last_effect}
use Rattle.block_device.specs.State.{DeviceState, Stays}
use Rattle.journal_world.specs.Engine.{Engine}
use Rattle.journal_world.specs.Front.{Front, aborting}
use Rattle.journal_world.proofs.Onward.{round-unfailed}
use Rattle.log_ledger.specs.declared.progress.Progress.{Progress}
use Rattle.log_ledger.specs.declared.progress.Progress.TheVariants.{Idle as NoProgress, Step, Done}
use Rattle.log_engine.specs.Engine.{EngineValue, ReadRefused, RoundDid, RoundRefused}
use Rattle.log_engine.specs.Engine.ReadRefused.{ReadAborted, ReadFailed, ReadOutside}
use Rattle.log_engine.specs.Engine.RoundRefused.{RoundAborted, RoundFailed}
use Rattle.journal_steps.specs.declared.turn.CheckTurn.TheVariants.{Idle as IdleTurn, Step as StepTurn, Released}
use Rattle.journal_steps.specs.Journal.{Agrees, CheckTurnDid, CheckTurnRefused, OpensNow, OpensOver, ReadRefused as JournalReadRefused}
use Rattle.journal_steps.specs.Journal.CheckTurnRefused.{CheckAborted, CheckFailed}
use Rattle.journal_steps.specs.Journal.ReadRefused.{ReadFailed as FailedRead}
use Rattle.journal_world.specs.Front.{IsOpen, reading_block, unfinished}
use Rattle.journal_world.specs.Journal.{Happens}
use Rattle.journal_world.specs.Journal.Event.{ReadBlock}
use Rattle.journal_front.specs.Front.{MayStep}
use Rattle.journal_front.specs.Values.{HandleValue}
use Rattle.journal_steps.proofs.Reading.{IsSeen, kept-pending}
use Rattle.journal_steps.proofs.Sealing.{agrees-moved, agrees-told, allowed-here}
use Rattle.journal_steps.proofs.Turning.{round-fault-keeps, round-keeps}

-- front and engine agree after any checkpoint step
pub agrees-round : (f : Front) (old new : Engine) (disk after : Disk) (p : Progress) → Agrees (record { front = f; engine = old }) →
    RoundDid p old disk new after → Agrees (record { front = f; engine = new })
agrees-round f old new disk after NoProgress agrees did = subst (λ (x : Engine). Agrees (record { front = f; engine = x })) (sym did.3) agrees
agrees-round f old new disk after Step agrees did =
    let keeps = round-keeps old new disk after did.0 in agrees-moved f old new agrees keeps.0 keeps.1 (round-unfailed old new disk after did.0)
agrees-round f old new disk after (Done tid) agrees did =
    let keeps = round-keeps old new disk after did.0 in agrees-moved f old new agrees keeps.0 keeps.1 (round-unfailed old new disk after did.0)

-- a front and an aborted engine agree once the front is notified
agrees-aborted : (f : Front) (e : Engine) → Agrees (record { front = f; engine = e }) → e.aborted ≡ true → Agrees (record { front = aborting f; engine = e })
agrees-aborted f e agrees is = agrees-told f e e agrees (record { shape = refl; layout = refl; accepted = refl; first = refl; ring = refl }) true refl is

-- they agree after a refused checkpoint step
pub agrees-round_refused : (f front : Front) (old new : Engine) (before after : DeviceState) (e : JournalError) → Agrees (record { front = f; engine = old }) →
    front ≡ aborting f → RoundRefused old before new after e → Agrees (record { front = front; engine = new })
agrees-round_refused f front old new before after e agrees told (RoundAborted is same stays counted) =
    subst (λ (x : Front). Agrees (record { front = x; engine = new })) (sym told)
    (subst (λ (x : Engine). Agrees (record { front = aborting f; engine = x })) (sym same) (agrees-aborted f old agrees is))
agrees-round_refused f front old new before after e agrees told (RoundFailed fault counted) =
    let keeps = round-fault-keeps old new before.disk after.disk fault in
    subst (λ (x : Front). Agrees (record { front = x; engine = new })) (sym told)
    (agrees-told f old new agrees keeps.0 true keeps.1 (ap (λ (x : Engine). x.aborted) fault.engine))

-- a front notified again of a failure stays as it was
pub told-again : (f : Front) (e : Engine) → Agrees (record { front = f; engine = e }) → e.aborted ≡ true → aborting f ≡ f
told-again f e agrees is = ap (λ (b : Bool). record f { aborted = b }) (sym (agrees.aborted ∙ is))

-- a refused checkpoint step refuses the turn
pub refused-check : {D : Type 0} (state : D → DeviceState) (f front : Front) (d other : D) (old new : Engine) (e : JournalError) →
    Agrees (record { front = f; engine = old }) → front ≡ aborting f → RoundRefused old (state d) new (state other) e →
    CheckTurnRefused state (record { device = d; journal = record { front = f; engine = old } }) (record { device = other; journal = record { front = front; engine = new } }) e
refused-check state f front d other old new e agrees told (RoundAborted is same stays counted) =
    CheckAborted is (ap₂ (λ (x : Front) (y : Engine). record { front = x; engine = y }) (told ∙ told-again f old agrees is) same) stays counted
refused-check state f front d other old new e agrees told (RoundFailed fault counted) =
    CheckFailed (record {
      mid = record { front = f; engine = new };
      fails = record { front = refl; engine = fault };
      notifies = record { failed = ap (λ (x : Engine). x.aborted) fault.engine; front = told; engine = refl; disk_is = refl };
    }) counted

-- a checkpoint step that did nothing is an idle turn
pub idle-check : {D : Type 0} (state : D → DeviceState) (f : Front) (d other : D) (old new : Engine) →
    RoundDid NoProgress old (state d).disk new (state other).disk →
    CheckTurnDid state IdleTurn (record { device = d; journal = record { front = f; engine = old } }) (record { device = other; journal = record { front = f; engine = new } })
idle-check state f d other old new did =
    (record { running = did.2; idle = did.0; released = did.1 }, ap (λ (x : Engine). record { front = f; engine = x }) did.3, did.4)

-- one that is not the last is one step of the turn
pub step-check : {D : Type 0} (state : D → DeviceState) (f : Front) (d other : D) (old new : Engine) →
    RoundDid Step old (state d).disk new (state other).disk →
    CheckTurnDid state StepTurn (record { device = d; journal = record { front = f; engine = old } }) (record { device = other; journal = record { front = f; engine = new } })
step-check state f d other old new did = (record { front = refl; engine = did.0 }, did.1)

-- the last one releases what it answers
pub done-check : {D : Type 0} (state : D → DeviceState) (f : Front) (d other : D) (old new : Engine) (tid : ℕ) →
    RoundDid (Done tid) old (state d).disk new (state other).disk →
    CheckTurnDid state (Released tid) (record { device = d; journal = record { front = f; engine = old } })
    (record { device = other; journal = record { front = f; engine = new } })
done-check state f d other old new tid did = (record { front = refl; engine = did.0 }, did.1, did.2)

-- front and engine agree after a refused read, once the front is notified
pub agrees-read_refused : {D : Type 0} (state : D → DeviceState) (f front : Front) (old new : EngineValue D) (b : ℕ) (e : JournalError) →
    Agrees (record { front = f; engine = old.engine }) → old.engine.aborted ≡ false → IsAllowedBlock old.engine.layout old.engine.shape.home_blocks b →
    front ≡ aborting f → ReadRefused state old b new e → Agrees (record { front = front; engine = new.engine })
agrees-read_refused state f front old new b e agrees running may told (ReadAborted is same) = absurd (true≢false (sym is ∙ running))
agrees-read_refused state f front old new b e agrees running may told (ReadOutside on none same) = absurd (none may)
agrees-read_refused state f front old new b e agrees running may told (ReadFailed on touched none same counted) =
    let now : Agrees (record { front = aborting f; engine = record old.engine { aborted = true } }) =
    agrees-told f old.engine (record old.engine { aborted = true }) agrees (record { shape = refl; layout = refl; accepted = refl; first = refl; ring = refl }) true refl refl in
    subst (λ (x : Front). Agrees (record { front = x; engine = new.engine })) (sym told)
    (subst (λ (x : Engine). Agrees (record { front = aborting f; engine = x })) (sym same) now)

-- if the front has no entry of an allowed block, the engine's refusal of a read is the journal's
pub refused-read : {D : Type 0} (state : D → DeviceState) (f front : Front) (old new : EngineValue D) (h : HandleValue) (b : ℕ) (e : JournalError) →
    Agrees (record { front = f; engine = old.engine }) → MayStep f h b → last_effect b (unfinished f) ≡ None →
    Stays (state old.device) (state new.device) → front ≡ aborting f → ReadRefused state old b new e →
    JournalReadRefused state (record { device = old.device; journal = record { front = f; engine = old.engine } }) h b
    (record { device = new.device; journal = record { front = front; engine = new.engine } }) e
refused-read state f front old new h b e agrees may none stays told (ReadAborted is same) =
    absurd (true≢false (sym is ∙ sym agrees.aborted ∙ may.running))
refused-read state f front old new h b e agrees may none stays told (ReadOutside on outside same) =
    absurd (outside (allowed-here agrees.layout agrees.home_blocks may.allowed))
refused-read state f front old new h b e agrees may none stays told (ReadFailed on touched unkept same counted) =
    FailedRead may none (kept-pending (record { front = f; engine = old.engine }) b ⊥ none unkept)
    (record { running = sym agrees.aborted ∙ may.running; front = told; engine = same; disk_is = stays.disk }) counted refl

-- the handle sees the right bytes
pub reads-block : (f front : Front) (old new : Engine) (disk after : Disk) (h : HandleValue) (b : ℕ) (v : List ℕ) → MayStep f h b → IsOpen f h.number →
    IsSeen (record { front = f; engine = old }) disk b v → front ≡ reading_block f h.number b v → new ≡ old → after ≡ disk →
    Happens (record { front = f; engine = old }) disk (ReadBlock h.number b v) (record { front = front; engine = new }) after
reads-block f front old new disk after h b v may is sees noted same stays =
    record { running = may.running; handle = is; allowed = may.allowed; sees = sees; front = noted; engine = same; disk_is = stays }

-- each crash image opens as before, if disk, sealed transactions and committed count stay
pub opens-same : (f front : Front) (old new : Engine) (disk after : Disk) → front.sealed ≡ f.sealed → new.shape ≡ old.shape → new.committed ≡ old.committed →
    after ≡ disk → OpensNow (record { front = f; engine = old }) disk → OpensNow (record { front = front; engine = new }) after
opens-same f front old new disk after sealed shape committed same opens =
    subst (λ (d : Disk). OpensOver new.shape front.sealed new.committed (length front.sealed) d) (sym same)
    (subst (λ (ts : History). OpensOver new.shape ts new.committed (length ts) disk) (sym sealed)
    (subst (λ (n : ℕ). OpensOver new.shape f.sealed n (length f.sealed) disk) (sym committed)
    (subst (λ (s : Shape). OpensOver s f.sealed old.committed (length f.sealed) disk) (sym shape) opens)))
