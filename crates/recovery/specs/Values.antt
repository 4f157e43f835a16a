-- An opened log as contracts see it.
use Rattle.std.specs.Prelude.{ℕ, ◌<◌, ◌≤◌, Bool, List}
use Rattle.log_model.specs.Opening.{greatest_number, layout_of, ring_of}
use Rattle.journal_model.specs.Disk.{Shape}
use Rattle.log_model.specs.Superblock.{super_in}
use Rattle.journal_world.specs.Opening.{NamesNothing}

-- a device with an opened log: block 0, the next transaction's number, and the report
pub record OpenedValue (D : Type 0) : Type 0 where
  pub device : D
  pub superblock : List ℕ
  pub next : ℕ
  pub clean : Bool
  pub ends_at : ℕ
  pub transactions : ℕ

-- the superblock says that the log is clean, and names the next transaction's number
pub record IsNextNamed (shape : Shape) (superblock : List ℕ) (next : ℕ) : Type 0 where
  pub named : NamesNothing shape (layout_of (super_in superblock)) (ring_of (super_in superblock)) next superblock
  pub some : 0 < next
  pub number : next ≤ greatest_number
