-- Why a leader's turns end early, from the refusals of the calls that it makes.
use Rattle.std.proofs.Common.{◌∙◌, ap, arith, refl, subst, sym}
use Rattle.std.specs.Prelude.{◌≡◌, ◌≢◌, true}
use Rattle.block_device.specs.State.{DeviceState}
use Rattle.journal_model.specs.declared.refusal.JournalError.{JournalError}
use Rattle.journal_model.specs.declared.refusal.JournalError.TheVariants.{Aborted, Device, Memory, NeedSpace}
use Rattle.journal_model.specs.Refusal.{number_of}
use Rattle.log_engine.specs.Engine.{EngineValue, RoundRefused, StepRefused}
use Rattle.log_engine.specs.Engine.RoundRefused.{RoundAborted, RoundFailed}
use Rattle.log_engine.specs.Engine.StepRefused.{DeviceFailed as StepFailed, WasAborted as StepAborted}
use Rattle.journal_steps.specs.Journal.{TurnRefused}
use Rattle.journal_steps.specs.Journal.TurnRefused.{DeviceFailed, MemoryIsShort, RingIsShort, WasAborted}
use Rattle.journal_steps.specs.Values.{JournalValue}
use Rattle.shared_journal.specs.Moments.{AtOneMoment}
use Rattle.shared_journal.specs.Turns.{FailureKnownThen, IsFailure, LeadRefused, RefusalKnown, RoundRefusedThen, SealLackedMemoryThen, TurnRefusedThen}
use Rattle.shared_journal.specs.Turns.IsFailure.{FailedBefore, FailsNow}
use Rattle.shared_journal.specs.Turns.LeadRefused.{AfterFailure, WithoutMemory}
use Rattle.shared_journal.specs.Turns.RefusalKnown.{OfFailure, OfMemory, OfRoom}
use Rattle.shared_journal.specs.Turns.TurnRefusedThen.{InSeal, InStep}

-- A refusal by a failed device is no other.
pub failure-not-memory : (e : JournalError) → IsFailure e → e ≡ Memory → ⊥
failure-not-memory _ FailedBefore is = let numbers : 3 ≡ 1 = ap number_of is in omega (arith, numbers)
failure-not-memory _ FailsNow is = let numbers : 2 ≡ 1 = ap number_of is in omega (arith, numbers)

failure-not-space : (e : JournalError) → IsFailure e → e ≡ NeedSpace → ⊥
failure-not-space _ FailedBefore is = let numbers : 3 ≡ 11 = ap number_of is in omega (arith, numbers)
failure-not-space _ FailsNow is = let numbers : 2 ≡ 11 = ap number_of is in omega (arith, numbers)

-- So the front knew it.
knew : (D : Type 0) (e : JournalError) → IsFailure e → RefusalKnown D e → FailureKnownThen D
knew D e is (OfFailure then) = then
knew D e is (OfRoom other) = absurd (failure-not-space e is other)
knew D e is (OfMemory other) = absurd (failure-not-memory e is other)

module _ {D : Type 0} (state : D → DeviceState) where
  step-failure : (old new : EngineValue D) (e : JournalError) → StepRefused old.engine (state old.device) new.engine (state new.device) e → IsFailure e
  step-failure old new _ (StepAborted failed same stays faults) = FailedBefore
  step-failure old new _ (StepFailed fails faults) = FailsNow

  round-failure : (old new : EngineValue D) (e : JournalError) → RoundRefused old.engine (state old.device) new.engine (state new.device) e → IsFailure e
  round-failure old new _ (RoundAborted failed same stays faults) = FailedBefore
  round-failure old new _ (RoundFailed fails faults) = FailsNow

  seal-ends : (old new : JournalValue D) (e : JournalError) → TurnRefused state old new e → RefusalKnown D e → e ≢ NeedSpace → LeadRefused D e
  seal-ends old new e (WasAborted failed same) known other = AfterFailure FailedBefore (knew D Aborted FailedBefore known)
  seal-ends old new e (RingIsShort due short same) known other = absurd (other refl)
  seal-ends old new e (MemoryIsShort due room same) known other = WithoutMemory (record { old = old; new = new; did = (due, room, same) }) refl
  seal-ends old new e (DeviceFailed fails more) known other = AfterFailure FailsNow (knew D Device FailsNow known)

  -- A refused commit turn, but for want of room.
  pub turn_ends : (e : JournalError) → TurnRefusedThen state e → RefusalKnown D e → e ≢ NeedSpace → LeadRefused D e
  turn_ends e (InStep at) known other =
      let is = step-failure at.old at.new e at.did in
      AfterFailure is (knew D e is known)
  turn_ends e (InSeal at) known other = seal-ends at.old at.new e at.did known other

  -- A refused checkpoint turn.
  pub round_ends : (e : JournalError) → RoundRefusedThen state e → FailureKnownThen D → LeadRefused D e
  round_ends e at known = AfterFailure (round-failure at.old at.new e at.did) known

-- A refused lock.
pub lock_ends : {D : Type 0} (e : JournalError) → e ≡ Aborted → AtOneMoment (λ (old new : JournalValue D). (old.journal.front.aborted ≡ true) × (new ≡ old)) → LeadRefused D e
lock_ends {D} e is at =
    AfterFailure (subst IsFailure (sym is) FailedBefore) (record {
      old = at.old;
      new = at.new;
      did = ap (λ (v : JournalValue D). v.journal.front.aborted) at.did.1 ∙ at.did.0;
    })

-- `Memory` is a seal's, and any other refusal a failure's.
pub lacked : {D : Type 0} (e : JournalError) → LeadRefused D e → e ≡ Memory → SealLackedMemoryThen D
lacked e (AfterFailure is known) memory = absurd (failure-not-memory e is memory)
lacked e (WithoutMemory then is) memory = then

pub failed : {D : Type 0} (e : JournalError) → LeadRefused D e → e ≢ Memory → IsFailure e × FailureKnownThen D
failed e (AfterFailure is known) other = (is, known)
failed e (WithoutMemory then is) other = absurd (other is)
