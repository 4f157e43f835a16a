-- An unnamed journal: its state, the name that it will get, and the log that it is created on.
use Rattle.std.specs.Prelude.{◌≡◌, ◌<◌, Bool}
use Rattle.atomic_table.specs.Seated.{TableId}
use Rattle.journal_model.specs.declared.number.Area.TheVariants.{Home, Log}
use Rattle.journal_model.specs.declared.refusal.JournalError.{JournalError}
use Rattle.journal_model.specs.declared.refusal.JournalError.TheVariants.{Memory}
use Rattle.block_device.specs.State.{DeviceState}
use Rattle.journal_world.specs.Journal.{IsFresh}
use Rattle.journal_world.specs.Opening.{IsOpening}
use Rattle.log_epochs.specs.JournalWorld.{Begins}
use Rattle.recovery.specs.Opening.{IsDone, OpeningRefused}
use Rattle.recovery.specs.Values.{OpenedValue}
use Rattle.handle.specs.Name.{JournalId}
use Rattle.handle.specs.Values.{BoardValue}
use Rattle.locked_journal.specs.Begun.{cells_of}
use Rattle.locked_journal.specs.Locked.{IsHeld}
use Rattle.locked_journal.specs.Sides.{SidesValue}
use Rattle.journal_steps.specs.Values.{JournalValue}
use Rattle.group_commit.specs.Begun.{world_of_new}

-- The journal, and the name that it will get.
pub record UnnamedValue (D : Type 0) : Type 0 where
  pub name : JournalId
  pub journal : JournalValue D

abbrev pub unnamed_value : {D : Type 0} → (D → DeviceState) → BoardValue → TableId → (direct : Bool) → SidesValue D → UnnamedValue D
unnamed_value state unnamed parts direct s = record {
  name = record {
    board = unnamed.board;
    parts = parts;
    reconciler = s.reconciler;
    capacity = unnamed.capacity;
    shape = (state s.journal.device).shape;
    begun = s.journal.journal;
    log = cells_of (state s.journal.device).disk Log (state s.journal.device).shape.log_blocks;
    home = cells_of (state s.journal.device).disk Home (state s.journal.device).shape.home_blocks;
    direct = direct;
  };
  journal = s.journal;
}

-- The name has the beginning of this journal: what it is, and what is on its device.
pub record IsBegun {D : Type 0} (state : D → DeviceState) (unnamed : UnnamedValue D) : Type 0 where
  pub journal : unnamed.name.begun ≡ unnamed.journal.journal
  pub log : unnamed.name.log ≡ cells_of (state unnamed.journal.device).disk Log (state unnamed.journal.device).shape.log_blocks
  pub home : unnamed.name.home ≡ cells_of (state unnamed.journal.device).disk Home (state unnamed.journal.device).shape.home_blocks

-- If device reads so far were correct, a run begins with it.
abbrev pub MayBegin : {D : Type 0} → (D → DeviceState) → (D → Type 0) → JournalValue D → Type 0
MayBegin state honest j = honest j.device → Begins (world_of_new state j.device j)

-- No credit is held, and the mark is the first one; the journal has credits, and a block has bytes.
pub record IsUnnamed {D : Type 0} (state : D → DeviceState) (unnamed : BoardValue) (j : JournalValue D) : Type 0 where
  pub held : IsHeld state unnamed.capacity (state j.device).shape 0 unnamed.committed j
  pub some_credits : 0 < unnamed.capacity
  pub some_bytes : 0 < (state j.device).shape.block_size

-- The log of a device was opened, and this new journal was created on it.
pub record IsCreatedOn {D : Type 0} (state : D → DeviceState) (honest : D → Type 0) (device : D) (journal : JournalValue D) : Type 0 where
  pub opened : OpenedValue D
  pub device_is : journal.device ≡ opened.device
  pub opening : honest opened.device → IsOpening (state device).shape (state device).disk (state opened.device).disk opened.superblock opened.next
  pub fresh : IsFresh (state opened.device).shape opened.superblock opened.next journal.journal
  pub begins : honest opened.device → Begins (world_of_new state opened.device journal)

-- Why no journal is created on the log of a device: the log is not opened; or it is, and memory ran out.
pub data NotCreatedOn {D : Type 0} (state : D → DeviceState) (honest : D → Type 0) (device : D) (e : JournalError) : Type 0 where
  Unopened : (left : D) → OpeningRefused (honest left) (state device) (state left) e → NotCreatedOn state honest device e
  WithoutMemory : (left : D) → (honest left → IsDone (state device) (state left)) → e ≡ Memory → NotCreatedOn state honest device e
