-- Which call wrote each block of a device in memory last, as its index notes.
use Rattle.std.specs.Prelude.{◌≡◌, ℕ, ◌==◌, ◌&&◌, if◌then◌else◌, Option, None, unwrap_or}
use Rattle.std.specs.Ordering.{nat_cmp}
use Rattle.std.specs.BTreeMap.{get}
use Rattle.journal_model.specs.declared.number.Area.{Area}
use Rattle.journal_model.specs.declared.number.Area.TheVariants.{Log, Home}
use Rattle.journal_model.specs.Disk.{same_area}
use Rattle.block_device.specs.declared.memory_index.MemIndex.{MemIndex}

-- no note, or the call that wrote the block last, if any
abbrev pub noted_in : MemIndex → Area → ℕ → Option (Option ℕ)
noted_in x Log n = get nat_cmp x.log n
noted_in x Home n = get nat_cmp x.home n

abbrev pub newest_in : MemIndex → Area → ℕ → Option ℕ
newest_in x a n = unwrap_or (noted_in x a n) None

-- no other block's note changes
abbrev pub NotesOnly : MemIndex → MemIndex → Area → ℕ → (Option (Option ℕ) → Option (Option ℕ)) → Type 0
NotesOnly old new area block change =
    (a : Area) (n : ℕ) → noted_in new a n ≡ (if same_area a area && (n == block) then change (noted_in old a n) else noted_in old a n)

abbrev pub NotesSame : MemIndex → MemIndex → Type 0
NotesSame old new = (a : Area) (n : ℕ) → noted_in new a n ≡ noted_in old a n
