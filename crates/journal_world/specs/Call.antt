-- Which calls change the disk, and what each leaves if it succeeds or fails.
-- Source: a disk with a volatile write cache, as flush requests suppose (the kernel's
-- writeback_cache_control.rst).
use Rattle.std.specs.Prelude.{◌≡◌, ℕ, List}
use Rattle.journal_model.specs.declared.number.Area.{Area}
use Rattle.journal_model.specs.Disk.{Disk, written, handed_over, flushed}

pub data Call : Type 0 where
  Write : (area : Area) → (block : ℕ) → (bytes : List ℕ) → Call
  Flush : (area : Area) → Call

abbrev pub after_success : Call → Disk → Disk
after_success (Write a n v) disk = written disk a n v
after_success (Flush a) disk = flushed disk a

-- after a failed call: nothing changed; or a write is whole, or handed over but not read
pub data IsAfterFault : Call → Disk → Disk → Type 0 where
  Undone : (call : Call) (old new : Disk) → new ≡ old → IsAfterFault call old new
  Whole : (a : Area) (n : ℕ) (v : List ℕ) (old new : Disk) → new ≡ written old a n v → IsAfterFault (Write a n v) old new
  HandedOver : (a : Area) (n : ℕ) (v : List ℕ) (old new : Disk) → new ≡ handed_over old a n v → IsAfterFault (Write a n v) old new
