-- What a request and all turns after it come to.
use Rattle.std.proofs.Common.{refl, sym, ◌∙◌, ap, subst, arith, ⊎_elim}
use Rattle.std.specs.Prelude.{◌≡◌, ◌≢◌, ℕ, zero, suc, ◌-◌, ◌<◌, Bool, true, false, length, eqb, Result, Ok, Err, IfErr, OnOk}
use Rattle.std.proofs.lemmas.Bool.{true≢false}
use Rattle.std.proofs.lemmas.Bool.Decides.{eqb_tells}
use Rattle.journal_model.specs.declared.refusal.JournalError.{JournalError}
use Rattle.journal_model.specs.declared.refusal.JournalError.TheVariants.{Device}
use Rattle.block_device.specs.State.{DeviceState}
use Rattle.journal_world.specs.declared.stage.Stage.TheVariants.{Idle}
use Rattle.journal_world.specs.Front.{Front}
use Rattle.journal_world.specs.Front.FrontEvent.{Lock}
use Rattle.journal_world.specs.Journal.Event.{FrontStep}
use Rattle.journal_steps.specs.Journal.{Requests}
use Rattle.journal_steps.specs.Values.{JournalValue}
use Rattle.log_epochs.specs.EngineWorld.Phase.{Running}
use Rattle.group_commit.specs.AllTurns.{AllTurnsRefused, CommitsAll, IsReadyToSeal, ReleaseRefused}
use Rattle.group_commit.specs.AllTurns.AllTurnsRefused.{FailedSealed, FailedUnsealed, SealUnready, StaysReady}
use Rattle.group_commit.specs.AllTurns.CommitsAll.{WithRunning}
use Rattle.group_commit.specs.AllTurns.ReleaseRefused.{ReleaseAborted, ReleaseFailed}
use Rattle.group_commit.specs.Close.{ComesTo, GoesOn, HasSealed, LastRefused, Went, WentWrong, locked_journal}
use Rattle.group_commit.specs.Close.LastRefused.{FailedBefore, FailedAfter, LeftUnsealed, NotMadeReady}
use Rattle.group_commit.specs.Rounds.{KeepsRoom, MakesRoomAlone}
use Rattle.group_commit.proofs.Finishing.{sealed-went}
use Rattle.group_commit.proofs.Leading.{comes-same, comes-step}

module _ {D : Type 0} (state : D → DeviceState) where
  -- moves of the machine lead from one journal to the other, each on its disk
  abbrev ComesBy : JournalValue D → JournalValue D → Type 0
  ComesBy old new = ComesTo old.journal (state old.device).disk new.journal (state new.device).disk Running

  -- no moves are needed if nothing changes
  stays-by : (old new : JournalValue D) → new ≡ old → ComesBy old new
  stays-by old new same =
      comes-same old.journal new.journal (state old.device).disk (state new.device).disk (ap (λ (v : JournalValue D). v.journal) same)
      (ap (λ (v : JournalValue D). (state v.device).disk) same)

  -- the lock that a request makes is a move
  asked-of : (tid : ℕ) (old new : JournalValue D) → Requests state tid old new → (n : ℕ) → length old.journal.front.running.handles ≡ n → ComesBy old new
  asked-of tid old new asks zero none = stays-by old new (asks.empty none)
  asked-of tid old new asks (suc n) some =
      ⊎_elim
      (λ (is : (eqb tid old.journal.front.running.tid ≡ true) × (tid ≡ old.journal.front.running.tid)).
      comes-step old.journal new.journal (state old.device).disk (state new.device).disk (FrontStep Lock) (λ directs. refl) (asks.same is.1 (omega arith)))
      (λ (other : (eqb tid old.journal.front.running.tid ≡ false) × (tid ≢ old.journal.front.running.tid)). stays-by old new (asks.other other.1))
      (eqb_tells tid old.journal.front.running.tid)

  pub asked-way : (tid : ℕ) (old new : JournalValue D) → Requests state tid old new → ComesBy old new
  asked-way tid old new asks = asked-of tid old new asks (length old.journal.front.running.handles) refl

  -- sealing and committing a ready running transaction commits all that can be, with turns ahead of need
  pub ready-sealed : (old mid new : JournalValue D) (turns : ℕ) → IsReadyToSeal old.journal.front → HasSealed state old mid →
      MakesRoomAlone state old mid → mid.journal.engine.stage ≡ Idle → turns ≡ mid.journal.engine.start - old.journal.engine.start →
      Went state mid new → KeepsRoom state turns mid new → CommitsAll state old new
  ready-sealed old mid new turns ready has room idle same went ahead =
      WithRunning ready (sealed-went state old mid new has went)
      (record { done = mid; alone = room; idle = idle; ahead = subst (λ (n : ℕ). KeepsRoom state n mid new) same ahead })

  -- locking a locked journal changes nothing
  locked-same : (v : JournalValue D) → v.journal.front.locked ≡ true → locked_journal v ≡ v
  locked-same v locked =
      ap (λ (b : Bool). record v { journal = record v.journal { front = record v.journal.front { locked = b } } }) (sym locked)

  -- a ready transaction that could not be sealed and committed refuses the turns
  pub ready-refused : (old new : JournalValue D) (e : JournalError) → old.journal.engine.aborted ≡ false → IsReadyToSeal old.journal.front →
      0 < length old.journal.front.running.handles → LastRefused state old new e → AllTurnsRefused state old new e
  ready-refused old new e running ready joined (FailedBefore wrong) = FailedUnsealed running wrong
  ready-refused old new e running ready joined (FailedAfter mid has wrong) = FailedSealed running ready mid has wrong
  ready-refused old new e running ready joined (NotMadeReady same) = SealUnready running ready joined same
  ready-refused old new e running ready joined (LeftUnsealed mid went all is) =
      let same : new ≡ mid = is ∙ locked-same mid (ap (λ (f : Front). f.locked) went.on.front ∙ ready.0) in
      StaysReady running ready joined (subst (Went state old) (sym same) went)
      (subst (λ (v : JournalValue D). v.journal.engine.committed ≡ length v.journal.front.sealed) (sym same) all)

  -- refused rounds have failed, if the device had not failed before
  pub rounds-wrong : (old new : JournalValue D) (e : JournalError) → old.journal.engine.aborted ≡ false → ReleaseRefused state old new e →
      (e ≡ Device) × WentWrong state old new
  rounds-wrong old new e running (ReleaseAborted was same) = absurd (true≢false (sym was ∙ running))
  rounds-wrong old new e running (ReleaseFailed was wrong) = (refl, wrong)

  pub rounds-refused : {T : Type 0} (r : Result T JournalError) (old new : JournalValue D) → old.journal.engine.aborted ≡ false →
      IfErr r (ReleaseRefused state old new) → IfErr r (λ e. (e ≡ Device) × WentWrong state old new)
  rounds-refused (Ok x) old new running refused = tt
  rounds-refused (Err e) old new running refused = rounds-wrong old new e running refused

  -- whatever they answer, moves of the machine lead on
  pub rounds-go-on : {T : Type 0} (r : Result T JournalError) (old new : JournalValue D) → old.journal.engine.aborted ≡ false →
      OnOk r (Went state old new) → IfErr r (ReleaseRefused state old new) → GoesOn state old new
  rounds-go-on (Ok x) old new running went refused = went.on
  rounds-go-on (Err e) old new running went refused = (rounds-wrong old new e running refused).1.on
