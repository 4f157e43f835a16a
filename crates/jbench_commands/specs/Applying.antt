-- What an apply takes from its device, and what it prints about the closed log.
use Rattle.std.specs.Prelude.{◌≡◌, ◌⊎◌, ℕ, ◌+◌, ◌==◌, nat_lt, if◌then◌else◌, Bool, true, false, List, [], ◌∷◌, ◌++◌, Option, None, Result, IsErr, IsOk, OnOk, codes}
use Rattle.std.specs.Fmt.{decimal}
use Rattle.std.specs.Io.KnownBytes.{Appends, Keeps}
use Rattle.journal_model.specs.Disk.{reading}
use Rattle.journal_model.specs.Transaction.{History}
use Rattle.log_model.specs.Dump.{newline}
use Rattle.log_model.specs.Opening.{HasLimit, greatest_number, super_of}
use Rattle.log_model.specs.Superblock.{wide_features}
use Rattle.block_device.specs.State.{DeviceState, Stays}
use Rattle.journal_world.specs.Opening.{IsOpening}
use Rattle.recovery.specs.Values.{OpenedValue}
use Rattle.journal_script.specs.Text.{IsTextOf}
use Rattle.journal_script.specs.declared.measures.Measures.{Measures}
use Rattle.journal_script.specs.declared.script.Operation.{Operation}
use Rattle.jbench_logs.specs.Said.{opened_line}
use Rattle.script_client.specs.declared.fault.Fault.{Fault}
use Rattle.script_client.specs.declared.performing.AfterRefusal.{AfterRefusal}
use Rattle.script_client.specs.declared.performing.Ending.{Ending}
use Rattle.script_client.specs.declared.performing.Ending.TheVariants.{Close, Stay}
use Rattle.script_client.specs.Outcomes.{HasApplied}

-- the measures of a device and of the log in its superblock
pub record AreOf (state : DeviceState) (m : Measures) : Type 0 where
  pub block_size : m.block_size ≡ state.shape.block_size
  pub log_blocks : m.log_blocks ≡ (super_of (reading state.disk)).s_maxlen
  pub home_blocks : m.home_blocks ≡ state.shape.home_blocks
  pub uuid : m.uuid ≡ (super_of (reading state.disk)).s_uuid
  pub wide : m.wide ≡ ((super_of (reading state.disk)).s_feature_incompat == wide_features)

-- a close's line: the number after this limit, or that none is left
abbrev pub closed_line : ℕ → List ℕ
closed_line limit = codes "closed next=" ++ (if nat_lt limit greatest_number then decimal (limit + 1) else codes "none") ++ newline ∷ []

-- the last line has the superblock's number
pub record SaysNext (state : DeviceState) (old new : Option (List ℕ)) : Type 0 where
  pub said : Appends old new (closed_line (super_of (reading state.disk)).s_sequence)

-- The last line has the number that the next opening gives the next transaction: the one after the log's limit, if one is left.
pub record EndsWithNext (state : DeviceState) (written : Option (List ℕ)) : Type 0 where
  pub limit : ℕ
  pub has_limit : HasLimit state.shape (reading state.disk) limit
  pub before : Option (List ℕ)
  pub said : Appends before written (closed_line limit)

-- the content of a writer of lines; nothing is known of it if an object replaces each line
abbrev pub lines_told : (json : Bool) → Option (List ℕ) → Option (List ℕ)
lines_told true contents = None
lines_told false contents = contents

-- how a journal is left, and what a refused operation does, by the words
abbrev pub ending_told : (stay : Bool) → Ending
ending_told true = Stay
ending_told false = Close

abbrev pub after_told : (keep_going make_room : Bool) → AfterRefusal
after_told keep_going make_room = record { makes_room = make_room; goes_on = keep_going }

-- The line after the operations: none if the journal stays or they ended early; else the next number, from the device that the close left.
pub data SaysAfter {D : Type 0} (state : D → DeviceState) (honest : D → Type 0) (ending : Ending) (device left : D) (applied end : Result (Unit {0}) Fault)
    (said written : Option (List ℕ)) : Type 0 where
  SaysNothing : (ending ≡ Stay) ⊎ IsErr applied → left ≡ device → end ≡ applied → written ≡ said → SaysAfter state honest ending device left applied end said written
  SaysNumber : ending ≡ Close → IsOk applied → OnOk end (honest left → SaysNext (state device) said written) → SaysAfter state honest ending device left applied end said written

-- operations were applied to a journal on an opened log, with their lines; since then the device was only read
pub record IsOperated {D : Type 0} (state : D → DeviceState) (honest : D → Type 0) (opened : OpenedValue D) (operations : List Operation) (after : AfterRefusal) (ending : Ending)
    (left : D) (sealed : History) (shown : Option ℕ) (end : Result (Unit {0}) Fault) (before written : Option (List ℕ)) : Type 0 where
  pub device : D
  pub applied : Result (Unit {0}) Fault
  pub said : Option (List ℕ)
  pub does : HasApplied state honest opened operations after ending device sealed shown applied before said
  pub stays : Stays (state device) (state left)
  pub says : SaysAfter state honest ending device left applied end said written

-- The opening's line was written, all was done after it, and correct reads now mean correct reads at the opening. If the journal was
-- closed, the last line has the number that the next opening gives the next transaction.
pub record IsDoneAfter {D : Type 0} (state : D → DeviceState) (honest : D → Type 0) (opened : OpenedValue D) (operations : List Operation) (after : AfterRefusal) (ending : Ending)
    (left : D) (sealed : History) (shown : Option ℕ) (before : Option (List ℕ)) : Type 0 where
  pub begun : Option (List ℕ)
  pub opening : Appends before begun (opened_line opened.clean opened.ends_at opened.transactions opened.next)
  pub end : Result (Unit {0}) Fault
  pub all : IsOk end
  pub written : Option (List ℕ)
  pub operated : IsOperated state honest opened operations after ending left sealed shown end begun written
  pub ends : ending ≡ Close → honest left → EndsWithNext (state left) written
  pub honest_before : honest left → honest opened.device

-- operations of a script's text, which agrees with a device in this state, if reads were correct
pub record AreForDevice (text : List ℕ) (state : DeviceState) (trust : Type 0) (operations : List Operation) : Type 0 where
  pub measures : Measures
  pub of_text : IsTextOf text operations measures
  pub are : trust → AreOf state measures

-- all was done with operations of a script for this device, after an opening of it; the lines follow what the writer had
pub record IsDoneTo {D : Type 0} (state : D → DeviceState) (honest : D → Type 0) (device : D) (text : List ℕ) (after : AfterRefusal) (ending : Ending) (left : D) (sealed : History) (shown : Option ℕ)
    (contents : Option (List ℕ)) : Type 0 where
  pub opened : OpenedValue D
  pub opens : honest opened.device → IsOpening (state device).shape (state device).disk (state opened.device).disk opened.superblock opened.next
  pub operations : List Operation
  pub for_device : AreForDevice text (state device) (honest opened.device) operations
  pub before : Option (List ℕ)
  pub kept : Keeps contents before
  pub done : IsDoneAfter state honest opened operations after ending left sealed shown before
