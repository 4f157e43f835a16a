-- The outcomes of a list of operations, performed in order.
use Rattle.std.specs.Prelude.{◌≡◌, ◌⊎◌, ⊤, ℕ, ◌++◌, false, List, [], ◌∷◌, Option, Result, Err, IfErr, IsOk, MatchResult, length, take}
use Rattle.std.specs.Io.KnownBytes.{Appends}
use Rattle.std.specs.List.{AllByRecursion}
use Rattle.journal_model.specs.declared.refusal.JournalError.{JournalError}
use Rattle.journal_model.specs.declared.refusal.JournalError.TheVariants.{Device, Memory}
use Rattle.journal_model.specs.Transaction.{History}
use Rattle.block_device.specs.State.{DeviceState}
use Rattle.group_commit.specs.Close.{IsSealedInClose, closing}
use Rattle.journal_steps.specs.Values.{JournalValue}
use Rattle.recovery.specs.Values.{OpenedValue}
use Rattle.journal_script.specs.declared.script.Operation.{Operation}
use Rattle.script_client.specs.declared.fault.Fault.{Fault}
use Rattle.script_client.specs.declared.fault.Fault.TheVariants.{Output, Refused as RefusedAll}
use Rattle.script_client.specs.declared.outcome.OperationOutcome.{OperationOutcome}
use Rattle.script_client.specs.declared.outcome.OperationOutcome.TheVariants.{Refused}
use Rattle.script_client.specs.declared.performing.AfterFailure.{AfterFailure}
use Rattle.script_client.specs.declared.performing.AfterFailure.TheVariants.{End}
use Rattle.script_client.specs.declared.performing.AfterRefusal.{AfterRefusal}
use Rattle.script_client.specs.declared.performing.Ending.{Ending}
use Rattle.script_client.specs.declared.performing.Ending.TheVariants.{Close, Stay}
use Rattle.script_client.specs.Ended.{IsUnclosed}
use Rattle.script_client.specs.Lines.{line_of}
use Rattle.script_client.specs.Performed.{HasDone, HasDoneAs, IsBegun, Table}
use Rattle.script_client.specs.Shown.{IsLeftOf}
use Rattle.script_client.specs.Told.{ClientValue}

-- `perform` stops after this outcome
abbrev pub IsLast : AfterFailure → OperationOutcome → Type 0
IsLast after outcome = (after ≡ End) × (outcome ≡ Refused Device)

-- `apply` stops after a refusal for this cause, and after this outcome
abbrev pub EndsApply : AfterRefusal → JournalError → Type 0
EndsApply after e = (after.goes_on ≡ false) ⊎ (e ≡ Device)

abbrev pub IsLastApplied : AfterRefusal → OperationOutcome → Type 0
IsLastApplied after outcome = (e : JournalError) × (outcome ≡ Refused e) × EndsApply after e

-- the operations were performed in order, each so, with these outcomes and lines; only the last outcome may satisfy `Last`
pub data Performs {D : Type 0} (Does : Operation → OperationOutcome → Table D → Table D → Type 0) (Last : OperationOutcome → Type 0) : List Operation → List OperationOutcome → List ℕ → Table D → Table D → Type 0 where
  NoneYet : (t : Table D) → Performs Does Last [] [] [] t t
  OneMore : (operations : List Operation) (outcomes : List OperationOutcome) (lines : List ℕ) (one : Operation) (outcome : OperationOutcome) (t u v : Table D) →
      Performs Does Last operations outcomes lines t u → AllByRecursion (λ o. Last o → ⊥) outcomes → Does one outcome u v →
      Performs Does Last (operations ++ one ∷ []) (outcomes ++ outcome ∷ []) (lines ++ line_of one outcome) t v

-- the last outcome satisfies `Last`
abbrev pub EndsHere : (Last : OperationOutcome → Type 0) → List OperationOutcome → Type 0
EndsHere Last outcomes = (before : List OperationOutcome) × (last : OperationOutcome) × (outcomes ≡ before ++ last ∷ []) × Last last

-- all operations were performed, or those up to the first outcome that satisfies `Last`; these are their lines
pub record PerformsAll {D : Type 0} (Does : Operation → OperationOutcome → Table D → Table D → Type 0) (Last : OperationOutcome → Type 0) (operations : List Operation) (old new : Table D) (lines : List ℕ) : Type 0 where
  pub count : ℕ
  pub outcomes : List OperationOutcome
  pub performs : Performs Does Last (take count operations) outcomes lines old new
  pub all : (count ≡ length operations) ⊎ EndsHere Last outcomes

-- the same from this start, with what is left: the device, the sealed transactions, and the greatest acknowledged one
pub record PerformsTo {D : Type 0} (state : D → DeviceState) (honest : D → Type 0) (start : Table D) (operations : List Operation) (after : AfterFailure)
    (device : D) (sealed : History) (shown : Option ℕ) (lines : List ℕ) : Type 0 where
  pub last : Table D
  pub all : PerformsAll (HasDone state honest) (IsLast after) operations start last lines
  pub left : IsLeftOf last.client device sealed shown

-- the same from a new journal on an opened log
pub record HasPerformed {D : Type 0} (state : D → DeviceState) (honest : D → Type 0) (opened : OpenedValue D) (operations : List Operation) (after : AfterFailure)
    (device : D) (sealed : History) (shown : Option ℕ) (lines : List ℕ) : Type 0 where
  pub start : Table D
  pub begun : IsBegun state opened operations start
  pub performs : PerformsTo state honest start operations after device sealed shown lines

-- the lines that were written satisfy `AreOf`
pub record Writes (before written : Option (List ℕ)) (AreOf : List ℕ → Type 0) : Type 0 where
  pub lines : List ℕ
  pub said : Appends before written lines
  pub are : AreOf lines

-- all operations were performed, no outcome satisfies `Last`, and the lines were written
pub record AppliesAll {D : Type 0} (Does : Operation → OperationOutcome → Table D → Table D → Type 0) (Last : OperationOutcome → Type 0) (operations : List Operation) (old new : Table D)
    (before written : Option (List ℕ)) : Type 0 where
  pub outcomes : List OperationOutcome
  pub performs : Writes before written (λ lines. Performs Does Last operations outcomes lines old new)
  pub go : AllByRecursion (λ o. Last o → ⊥) outcomes

-- the operations were performed up to one that was refused, whose outcome satisfies `Last`; the lines were written
pub record AppliesUpTo {D : Type 0} (Does : Operation → OperationOutcome → Table D → Table D → Type 0) (Last : OperationOutcome → Type 0) (operations : List Operation) (old new : Table D)
    (before written : Option (List ℕ)) (e : JournalError) : Type 0 where
  pub count : ℕ
  pub outcomes : List OperationOutcome
  pub performs : Writes before written (λ lines. Performs Does Last (take count operations) (outcomes ++ Refused e ∷ []) lines old new)
  pub last : Last (Refused e)

-- the operations were performed up to one whose line could not be written
pub record AppliesSome {D : Type 0} (Does : Operation → OperationOutcome → Table D → Table D → Type 0) (Last : OperationOutcome → Type 0) (operations : List Operation) (old new : Table D) : Type 0 where
  pub count : ℕ
  pub outcomes : List OperationOutcome
  pub lines : List ℕ
  pub performs : Performs Does Last (take count operations) outcomes lines old new

-- why `apply` ended before the last operation
abbrev pub EndsFor : {D : Type 0} → (Does : Operation → OperationOutcome → Table D → Table D → Type 0) → (Last : OperationOutcome → Type 0) → List Operation → Table D → Table D → (before written : Option (List ℕ)) → Fault → Type 0
EndsFor Does Last operations old new before written (RefusedAll e) = AppliesUpTo Does Last operations old new before written e
EndsFor Does Last operations old new before written (Output e) = AppliesSome Does Last operations old new

abbrev pub Applies : {D : Type 0} → (Does : Operation → OperationOutcome → Table D → Table D → Type 0) → (Last : OperationOutcome → Type 0) → List Operation → Table D → Table D → (before written : Option (List ℕ)) → Result (Unit {0}) Fault → Type 0
Applies Does Last operations old new before written applied =
    MatchResult applied (λ _. AppliesAll Does Last operations old new before written) (EndsFor Does Last operations old new before written)

-- the cause of a close that was not done
abbrev pub IsUnclosedFor : {D : Type 0} → (D → DeviceState) → JournalValue D → (device : D) → History → Fault → Type 0
IsUnclosedFor state old device sealed fault = (e : JournalError) × (fault ≡ RefusedAll e) × IsUnclosed state old device sealed e

-- what is left after a close, done or refused. A close seals the running transaction if a handle had joined it; a refused one may end
-- before that
pub record IsClosedAs {D : Type 0} (state : D → DeviceState) (last : ClientValue D) (device : D) (sealed : History) (shown : Option ℕ) (end : Result (Unit {0}) Fault) : Type 0 where
  pub sealed_is : MatchResult end (λ _. sealed ≡ closing last.journal.journal.front) (λ _. IsSealedInClose last.journal.journal.front sealed)
  pub shown_is : shown ≡ last.shown
  pub why : IfErr end (IsUnclosedFor state last.journal device sealed)

-- what is left if all operations were performed
abbrev pub EndsAs : {D : Type 0} → (D → DeviceState) → Ending → ClientValue D → (device : D) → History → (shown : Option ℕ) → Result (Unit {0}) Fault → Type 0
EndsAs state Stay last device sealed shown end = IsOk end × IsLeftOf last device sealed shown
EndsAs state Close last device sealed shown end = IsClosedAs state last device sealed shown end

-- what is left of applied operations; if they ended early, `end` says why, and nothing else was done
abbrev pub IsAppliedAs : {D : Type 0} → (D → DeviceState) → (applied : Result (Unit {0}) Fault) → Ending → ClientValue D → (device : D) → History → (shown : Option ℕ) → Result (Unit {0}) Fault → Type 0
IsAppliedAs state applied ending last device sealed shown end =
    MatchResult applied (λ _. EndsAs state ending last device sealed shown end) (λ fault. (end ≡ Err fault) × IsLeftOf last device sealed shown)

-- the operations were applied to a new journal on an opened log
pub record HasApplied {D : Type 0} (state : D → DeviceState) (honest : D → Type 0) (opened : OpenedValue D) (operations : List Operation) (after : AfterRefusal) (ending : Ending)
    (device : D) (sealed : History) (shown : Option ℕ) (end : Result (Unit {0}) Fault) (before written : Option (List ℕ)) : Type 0 where
  pub start : Table D
  pub begun : IsBegun state opened operations start
  pub last : Table D
  pub applied : Result (Unit {0}) Fault
  pub applies : Applies (HasDoneAs after.makes_room state honest) (IsLastApplied after) operations start last before written applied
  pub ends : IsAppliedAs state applied ending last.client device sealed shown end

-- why operations were not performed: no memory for the journal, or a line could not be written
abbrev pub IsUnperformed : Fault → Type 0
IsUnperformed (RefusedAll e) = e ≡ Memory
IsUnperformed (Output e) = ⊤
