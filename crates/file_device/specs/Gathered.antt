-- Blocks that a device took and has not written to their file yet. This project's own.
use Rattle.std.specs.Prelude.{◌≡◌, ◌⊎◌, ℕ, ◌+◌, ◌*◌, ◌<◌, ◌≤◌, false, true, List, ◌++◌, length}
use Rattle.journal_model.specs.declared.number.Area.{Area}
use Rattle.journal_model.specs.Disk.{same_area}
use Rattle.file_device.specs.declared.gathered.Gathered.{Gathered}
use Rattle.file_device.specs.Blocks.{writes_of}
use Rattle.file_device.specs.Calls.{FileCall}

-- the writes of the gathered blocks, newest first
abbrev pub due_of : ℕ → Gathered → List FileCall
due_of size g = writes_of g.area (g.first * size) size g.bytes.items g.count

-- gathered block `k` is block `n` of the area
pub record IsAmong (g : Gathered) (area : Area) (n k : ℕ) : Type 0 where
  pub whose : same_area area g.area ≡ true
  pub below : k < g.count
  pub place : g.first + k ≡ n

-- block `n` of the area is not gathered
abbrev pub IsApart : Gathered → Area → ℕ → Type 0
IsApart g area n = (same_area area g.area ≡ false) ⊎ ((n < g.first) ⊎ (g.first + g.count ≤ n))

-- no block of this area is gathered
abbrev pub IsFreeOf : Gathered → Area → Type 0
IsFreeOf g area = (g.count ≡ 0) ⊎ (same_area area g.area ≡ false)

-- block `n` was added after the last one
pub record IsPushed (old new : Gathered) (area : Area) (n : ℕ) (bytes : List ℕ) : Type 0 where
  pub whose : same_area area old.area ≡ true
  pub behind : n ≡ old.first + old.count
  pub items : new.bytes.items ≡ old.bytes.items ++ bytes
  pub room : (old.count + 1) * length bytes ≤ 65536
  pub rest : new ≡ record old { bytes = new.bytes; count = old.count + 1 }

-- the same blocks are gathered
pub record HoldsSame (old new : Gathered) : Type 0 where
  pub items : new.bytes.items ≡ old.bytes.items
  pub rest : new ≡ record old { bytes = new.bytes }

-- the bytes are exactly the gathered blocks', 64 KiB at most, and their places fit in 64 bits
pub record KeepsGathered (size : ℕ) (g : Gathered) : Type 0 where
  pub whole : length g.bytes.items ≡ g.count * size
  pub few : g.count * size ≤ 65536
  pub small : 0 < g.count → g.first * size + g.count * size < 18446744073709551616
