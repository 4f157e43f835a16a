-- What a refused apply leaves.
use Rattle.std.specs.Prelude.{◌≡◌, ℕ, List, Option, Result, IsErr}
use Rattle.journal_model.specs.Transaction.{History}
use Rattle.block_device.specs.State.{DeviceState, EachMoment}
use Rattle.journal_world.specs.Opening.{IsOpening}
use Rattle.log_epochs.specs.OpeningRun.{IsMoment}
use Rattle.recovery.specs.Values.{OpenedValue}
use Rattle.journal_script.specs.declared.script.Operation.{Operation}
use Rattle.script_client.specs.declared.fault.Fault.{Fault}
use Rattle.script_client.specs.declared.performing.AfterRefusal.{AfterRefusal}
use Rattle.script_client.specs.declared.performing.Ending.{Ending}
use Rattle.script_client.specs.Ended.{IsEnded}
use Rattle.script_client.specs.Told.{IsAnyHome}
use Rattle.jbench_commands.specs.declared.apply.Unapplied.{Unapplied}
use Rattle.jbench_commands.specs.declared.apply.Unapplied.TheVariants.{Unbegun, Undone, Unopened}
use Rattle.jbench_commands.specs.Applying.{AreForDevice, IsOperated}

-- Operations were applied on an opened log until one or the close was refused. Committed transactions are in the log or at home, and
-- nothing of others is.
pub record IsUndone {D : Type 0} (state : D → DeviceState) (honest : D → Type 0) (opened : OpenedValue D) (operations : List Operation) (after : AfterRefusal) (ending : Ending)
    (left : D) (sealed : History) (shown : Option ℕ) : Type 0 where
  pub begun : Option (List ℕ)
  pub written : Option (List ℕ)
  pub end : Result (Unit {0}) Fault
  pub refused : IsErr end
  pub operated : IsOperated state honest opened operations after ending left sealed shown end begun written
  pub ended : honest left → IsEnded IsAnyHome operations (state left) sealed shown
  pub honest_before : honest left → honest opened.device

-- what an opened log leaves: its device unchanged, or what such operations left
abbrev pub IsUnappliedAfter : {D : Type 0} → (state : D → DeviceState) → (honest : D → Type 0) → OpenedValue D → List Operation → AfterRefusal → Ending → Unapplied D → Type 0
IsUnappliedAfter state honest opened operations after ending (Unopened device) = ⊥
IsUnappliedAfter state honest opened operations after ending (Unbegun device) = device ≡ opened.device
IsUnappliedAfter state honest opened operations after ending (Undone left) =
    IsUndone state honest opened operations after ending left.device left.sealed.items left.acknowledged

-- this device was opened, and then such operations of a script for it were applied
pub record IsUndoneOf {D : Type 0} (state : D → DeviceState) (honest : D → Type 0) (device : D) (text : List ℕ) (after : AfterRefusal) (ending : Ending)
    (left : D) (sealed : History) (shown : Option ℕ) : Type 0 where
  pub opened : OpenedValue D
  pub opens : honest opened.device → IsOpening (state device).shape (state device).disk (state opened.device).disk opened.superblock opened.next
  pub operations : List Operation
  pub for_device : AreForDevice text (state device) (honest opened.device) operations
  pub undone : IsUndone state honest opened operations after ending left sealed shown

-- a device was opened, and this is left
pub record IsOpenedOnly {D : Type 0} (state : D → DeviceState) (honest : D → Type 0) (device left : D) : Type 0 where
  pub superblock : List ℕ
  pub next : ℕ
  pub opens : honest left → IsOpening (state device).shape (state device).disk (state left).disk superblock next

-- What a device leaves: no more than a refused opening, at each moment; or it was only opened; or such operations were applied.
abbrev pub IsUnapplied : {D : Type 0} → (state : D → DeviceState) → (honest : D → Type 0) → D → (text : List ℕ) → AfterRefusal → Ending → Unapplied D → Type 0
IsUnapplied state honest device text after ending (Unopened left) = honest left → EachMoment (IsMoment (state device).shape (state device).disk) (state device) (state left)
IsUnapplied state honest device text after ending (Unbegun left) = IsOpenedOnly state honest device left
IsUnapplied state honest device text after ending (Undone left) =
    IsUndoneOf state honest device text after ending left.device left.sealed.items left.acknowledged
