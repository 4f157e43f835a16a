-- What a disk that may crash reads, and what a crash may leave of each block. A block write is whole or absent.
-- Source: the model of a disk with a volatile write cache, as flush and force-unit-access requests suppose (the
-- kernel's writeback_cache_control.rst).
use Rattle.std.specs.Prelude.{◌≡◌, ◌⊎◌, ℕ, List, [], ◌∷◌, ◌==◌, ◌&&◌, Bool, true, false, if◌then◌else◌}
use Rattle.journal_model.specs.declared.number.Area.{Area}
use Rattle.journal_model.specs.declared.number.Area.TheVariants.{Log, Home}

pub record Cell : Type 0 where
  pub reads : List ℕ  -- what a read gives
  pub others : List (List ℕ)  -- what else a crash may leave there

abbrev pub IsOneOf : {X : Type 0} → List X → X → Type 0
IsOneOf [] v = ⊥
IsOneOf (x ∷ xs) v = (v ≡ x) ⊎ IsOneOf xs v

-- what it reads, or what was handed to it since the area's last flush
abbrev pub held : Cell → List (List ℕ)
held c = c.reads ∷ c.others

abbrev pub Disk : Type 0
Disk = Area → ℕ → Cell

abbrev pub Image : Type 0
Image = Area → ℕ → List ℕ

-- each block, independently, is one of the values held
pub record Leaves (disk : Disk) (image : Image) : Type 0 where
  pub each : (a : Area) (n : ℕ) → IsOneOf (held (disk a n)) (image a n)

abbrev pub same_area : Area → Area → Bool
same_area Log Log = true
same_area Log Home = false
same_area Home Log = false
same_area Home Home = true

abbrev pub with_cell : Disk → Area → ℕ → Cell → Disk
with_cell disk a n cell = λ area m. if same_area area a && (m == n) then cell else disk area m

-- after a write, or a failed one that reads as v: earlier values may still be left
abbrev pub written : Disk → Area → ℕ → List ℕ → Disk
written disk a n v = with_cell disk a n (record { reads = v; others = held (disk a n) })

-- after a failed write that was handed over but reads as before: v may be left
abbrev pub handed_over : Disk → Area → ℕ → List ℕ → Disk
handed_over disk a n v = with_cell disk a n (record { reads = (disk a n).reads; others = v ∷ (disk a n).others })

abbrev pub flushed : Disk → Area → Disk
flushed disk a = λ area m. if same_area area a then record { reads = (disk area m).reads; others = [] } else disk area m

abbrev pub reading : Disk → Image
reading disk a n = (disk a n).reads

-- the disk after a crash, all of it durable
abbrev pub disk_of : Image → Disk
disk_of image = λ a n. record { reads = image a n; others = [] }

pub record Shape : Type 0 where
  pub block_size : ℕ
  pub log_blocks : ℕ
  pub home_blocks : ℕ
