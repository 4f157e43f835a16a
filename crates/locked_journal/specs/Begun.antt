-- Where a journal's states come from: the journal as its name has it, from before it was shared, and the machine's moves since.
-- Source: the GoJournal paper (a history of atomic operations over a disk that may crash at any step).
use Rattle.std.specs.Prelude.{◌≡◌, ℕ, false, List, [], map, Some, None}
use Rattle.std.specs.List.{range_with_len}
use Rattle.journal_model.specs.declared.number.Area.{Area}
use Rattle.journal_model.specs.declared.number.Area.TheVariants.{Home, Log}
use Rattle.journal_model.specs.Disk.{Cell, Disk}
use Rattle.journal_model.specs.Transaction.{History}
use Rattle.block_device.specs.State.{DeviceState}
use Rattle.journal_world.specs.Engine.{Engine}
use Rattle.journal_world.specs.Journal.{Journal}
use Rattle.handle.specs.Name.{JournalId}
use Rattle.log_epochs.specs.Epoch.{Epoch}
use Rattle.log_epochs.specs.EngineWorld.{Phase}
use Rattle.log_epochs.specs.EngineWorld.Phase.{Running}
use Rattle.log_epochs.specs.JournalWorld.{Begins, JournalWorld, Leads, Move}
use Rattle.journal_steps.specs.Values.{JournalValue}

-- The first n blocks of an area.
abbrev pub cells_of : Disk → Area → ℕ → List Cell
cells_of disk area n = map (λ k. disk area k) (range_with_len 0 n)

-- An epoch that began on this disk. These were written directly since.
abbrev pub epoch_since : (opening : Disk) → (directs : List (ℕ × List ℕ)) → Engine → Epoch
epoch_since opening directs e = record { opening = opening; engine = e; directs = directs; pin = None }

-- The world of a named journal on this disk, in this phase. It does not say what is acknowledged: at each moment that may be any
-- transaction up to the mark.
abbrev pub world_since : JournalId → (opening : Disk) → (directs : List (ℕ × List ℕ)) → Journal → Disk → Phase → JournalWorld
world_since name opening directs j disk phase = record {
  below = record { shape = name.shape; disk = disk; phase = phase; epoch = Some (epoch_since opening directs j.engine); ended = [] };
  told = record { front = j.front; answered = [] };
  past = [];
}

-- The world in which it began, on this disk.
abbrev pub world_begun : JournalId → (opening : Disk) → JournalWorld
world_begun name opening = world_since name opening [] name.begun opening Running

-- Moves of the machine lead from its beginning, a new journal on the blocks that the name has, to this journal on this disk. Without the right
-- to it nothing was written directly.
pub record IsReached (name : JournalId) (j : Journal) (disk : Disk) (phase : Phase) : Type 0 where
  pub opening : Disk
  pub log : cells_of opening Log name.shape.log_blocks ≡ name.log
  pub home : cells_of opening Home name.shape.home_blocks ≡ name.home
  pub begins : Begins (world_begun name opening)
  pub moves : List Move
  pub directs : List (ℕ × List ℕ)
  pub leads : Leads (world_begun name opening) moves (world_since name opening directs j disk phase)
  pub none : name.direct ≡ false → directs ≡ []

-- If device reads so far were correct, this running journal is so reached.
pub record ComesFrom {D : Type 0} (state : D → DeviceState) (honest : D → Type 0) (name : JournalId) (v : JournalValue D) : Type 0 where
  pub reached : honest v.device → IsReached name v.journal (state v.device).disk Running

-- Moves of the machine lead from the journal's beginning to this disk and to these sealed transactions. The journal runs, is closed, or ended
-- in a failure or a refusal.
pub record IsEndOf (name : JournalId) (disk : Disk) (sealed : History) : Type 0 where
  pub journal : Journal
  pub phase : Phase
  pub reached : IsReached name journal disk phase
  pub sealed_is : sealed ≡ journal.front.sealed
