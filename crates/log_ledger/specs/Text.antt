-- What the writer of log blocks is given.
use Rattle.std.specs.Prelude.{◌≡◌, ℕ, ◌≤◌, Bool, false, List, [], length, map, unwrap_or, slice_get}
use Rattle.journal_model.specs.declared.entry.Entry.{Entry}
use Rattle.journal_model.specs.declared.entry.Entry.TheVariants.{Copy, Revoke}
use Rattle.log_model.specs.Escape.{escaped}
use Rattle.journal_model.specs.Layout.{IsLayout, Layout, begins_with_magic, header_bytes, tags_of}
use Rattle.journal_model.specs.Transaction.{copied, revoked}
use Rattle.log_format.specs.Size.{IsBlockSize}
use Rattle.log_ledger.specs.declared.plan.LogPlan.{LogPlan}

abbrev pub entry_at : List (ℕ × Entry) → ℕ → ℕ × Entry
entry_at entries place = unwrap_or (slice_get entries place) (0, Revoke)

abbrev pub bytes_in : Entry → List ℕ
bytes_in (Copy v) = v
bytes_in Revoke = []

abbrev pub copy_at : List (ℕ × Entry) → ℕ → ℕ × List ℕ
copy_at entries place = ((entry_at entries place).0, bytes_in (entry_at entries place).1)

abbrev pub copies_at : List (ℕ × Entry) → List ℕ → List (ℕ × List ℕ)
copies_at entries places = map (copy_at entries) places

-- the places of the copies among these entries, and the blocks revoked
pub record IsPlanOf (entries : List (ℕ × Entry)) (plan : LogPlan) : Type 0 where
  pub copies : copies_at entries plan.copies.items ≡ copied entries
  pub revokes : plan.revokes.items ≡ revoked entries

abbrev pub IsWholeCopy : ℕ → Entry → Type 0
IsWholeCopy size (Copy v) = length v ≡ size
IsWholeCopy size Revoke = ⊥

abbrev pub is_escaped : Entry → Bool
is_escaped (Copy v) = begins_with_magic v
is_escaped Revoke = false

-- long enough for a header
abbrev pub IsLong : Entry → Type 0
IsLong (Copy v) = header_bytes ≤ length v
IsLong Revoke = ⊥

-- what stands in the log for a copy
abbrev pub IsStored : Entry → List ℕ → Type 0
IsStored (Copy v) block = block ≡ escaped v
IsStored Revoke block = ⊥

-- a block and tags of these lengths are enough for logs with blocks of this size
abbrev pub HasRoomFor : ℕ → ℕ → Type 0
HasRoomFor block tags = IsBlockSize block × ((l : Layout) → IsLayout l → block ≡ l.block_size → tags_of l ≤ tags)
