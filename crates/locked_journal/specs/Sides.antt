-- The two sides of a journal, their reconciliation, and the steps that follow it.
use Rattle.std.specs.Prelude.{◌≡◌, ◌≢◌, ℕ, false, Bool, true, Some, None, List, length}
use Rattle.atomic_table.specs.Seated.{TableId}
use Rattle.journal_model.specs.Disk.{Disk}
use Rattle.journal_model.specs.declared.entry.Entry.TheVariants.{Copy}
use Rattle.journal_model.specs.Transaction.{last_effect}
use Rattle.block_device.specs.State.{DeviceState}
use Rattle.journal_world.specs.Engine.{Engine}
use Rattle.journal_world.specs.Front.{Front, unfinished}
use Rattle.journal_world.specs.Front.FrontEvent.{Raise}
use Rattle.journal_world.specs.Journal.{Happens, Journal}
use Rattle.journal_world.specs.Journal.Event.{AbortMark, Finish, FrontStep, ReadBlock}
use Rattle.journal_world.specs.Sound.{IsPlain, OpensBetween}
use Rattle.log_engine.specs.Engine.{EngineValue}
use Rattle.journal_front.specs.Front.{MayStep, MayTouch}
use Rattle.journal_front.specs.Values.{HandleValue}
use Rattle.journal_steps.specs.Journal.{Agrees, Does, RegistersRead, NewestDid}
use Rattle.journal_steps.specs.Values.{JournalValue}
use Rattle.locked_journal.specs.Alone.{KeptAlone, RanAlone}

-- The engine of a journal, with its device.
abbrev pub engine_of : {D : Type 0} → JournalValue D → EngineValue D
engine_of v = record { device = v.device; engine = v.journal.engine }

-- The sides of an unnamed journal: the word at which they will be reconciled, and the journal.
pub record SidesValue (D : Type 0) : Type 0 where
  pub reconciler : TableId
  pub journal : JournalValue D

-- What every engine keeps, also as it was last reconciled.
pub record IsSeen {D : Type 0} (state : D → DeviceState) (honest : D → Type 0) (e : EngineValue D) : Type 0 where
  pub plain : IsPlain e.engine
  pub opens : honest e.device → OpensBetween e.engine.shape e.engine.accepted e.engine.committed (length e.engine.accepted) (state e.device).disk
  pub shape : e.engine.shape ≡ (state e.device).shape

-- The front agreed with an engine that went on alone to this one.
pub record IsBehind (f : Front) (e : Engine) : Type 0 where
  pub reconciled : Engine
  pub agrees : Agrees (record { front = f; engine = reconciled })
  pub plain : IsPlain reconciled
  pub kept : KeptAlone reconciled e

-- If the engine has failed and the front does not know it, the machine's own step says so.
pub data Notifies (old : Journal) (disk : Disk) (new : Journal) : Type 0 where
  NotNotified : new ≡ old → Notifies old disk new
  Notified : Happens old disk AbortMark new disk → Notifies old disk new

-- If the engine has committed a transaction that the front has not finished, the front finishes and acknowledges it.
pub data Finishes (old : Journal) (disk : Disk) (new : Journal) : Type 0 where
  NoneFinished : new ≡ old → Finishes old disk new
  OneFinished : (done : Journal) → Happens old disk Finish done disk → Happens done disk (FrontStep (Raise done.front.finished)) new disk → Finishes old disk new

-- The front catches up: it learns of a failure, and finishes at most one transaction. Then both agree.
pub record CatchesUp (old : Journal) (disk : Disk) (new : Journal) : Type 0 where
  pub notified : Journal
  pub notifies : Notifies old disk notified
  pub finishes : Finishes notified disk new
  pub agrees : Agrees new

-- The front, which knew the engine as last reconciled, sees it as it is now, and catches up.
pub record Reconciles {D : Type 0} (state : D → DeviceState) (front : JournalValue D) (engine : EngineValue D) (mid : JournalValue D) : Type 0 where
  pub since : RanAlone state (engine_of front) engine
  pub engine_is : engine_of mid ≡ engine
  pub caught : CatchesUp (record { front = front.journal.front; engine = engine.engine }) (state engine.device).disk mid.journal
  pub plain : IsPlain mid.journal.engine
  pub shape : mid.journal.engine.shape ≡ (state mid.device).shape
  pub measures : (state mid.device).shape ≡ (state front.device).shape

-- P held of the reconciled journal.
pub record ReconcilesAnd {D : Type 0} (state : D → DeviceState) (front : JournalValue D) (engine : EngineValue D) (P : JournalValue D → Type 0) : Type 0 where
  pub mid : JournalValue D
  pub reconciles : Reconciles state front engine mid
  pub did : P mid

-- What a read at the front did: it saw the copy that the front holds; or the front holds none of a whole block, and nothing was done.
abbrev pub HeldReadDid : {D : Type 0} → (D → DeviceState) → Bool → HandleValue → ℕ → List ℕ → JournalValue D → JournalValue D → Type 0
HeldReadDid state true h b v old new = Does state old (ReadBlock h.number b v) new × RegistersRead state old h b v new
    × (last_effect b (unfinished old.journal.front) ≡ Some (Copy v))
HeldReadDid state false h b v old new = MayStep old.journal.front h b
    × ((w : List ℕ) → last_effect b (unfinished old.journal.front) ≡ Some (Copy w) → length w ≢ (state old.device).shape.block_size) × (new ≡ old)

-- What a read at the front without a handle did: it returned the copy that the front holds; or the front has no entry of the block, and the
-- buffer is unchanged. The journal does not change.
abbrev pub HeldNewestDid : {D : Type 0} → (D → DeviceState) → (D → Type 0) → Bool → ℕ → (buffer v : List ℕ) → JournalValue D → Type 0
HeldNewestDid state honest true b buffer v j = NewestDid state honest j b v j × (last_effect b (unfinished j.journal.front) ≡ Some (Copy v))
HeldNewestDid state honest false b buffer v j = (j.journal.front.aborted ≡ false) × MayTouch j.journal.front b
    × (last_effect b (unfinished j.journal.front) ≡ None) × (v ≡ buffer)
