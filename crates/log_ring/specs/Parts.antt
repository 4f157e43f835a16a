-- What each log block of a transaction is: the own text, with numbers instead of bytes.
-- Source: journal.rst, "Layout".
use Rattle.std.specs.Prelude.{⊤, ℕ, ◌+◌, ◌<◌, ◌≤◌, true, List, [], ◌∷◌, ◌++◌, length, map, take, drop, unwrap_or, slice_get, slice_index}
use Rattle.std.specs.List.{flat_map, range_with_len}
use Rattle.journal_model.specs.declared.entry.Entry.{Entry}
use Rattle.log_model.specs.Descriptor.{descriptor_block}
use Rattle.log_model.specs.Escape.{escaped}
use Rattle.journal_model.specs.Layout.{Layout as Measures, numbers_of, tags_of}
use Rattle.journal_model.specs.Transaction.{copied, revoked}
use Rattle.log_model.specs.OwnText.{commit_block, groups, tags_from}
use Rattle.log_model.specs.RevokeBlock.{revoke_block}
use Rattle.log_ring.specs.declared.layout.Part.{Part}
use Rattle.log_ring.specs.declared.layout.Part.TheVariants.{Revokes, Descriptor, Copy, Commit}

-- the log's layout, and the counts of copies and revokes
pub record LayoutValue : Type 0 where
  pub layout : Measures
  pub copies : ℕ
  pub revokes : ℕ

-- the revoke block of consecutive revokes
abbrev pub revoke_part : List ℕ → Part
revoke_part numbers = Revokes (slice_index numbers 0) (length numbers)

-- the descriptor of consecutive copies
abbrev pub descriptor_part : List ℕ → Part
descriptor_part numbers = Descriptor (slice_index numbers 0) (length numbers)

-- the descriptor, then its copies
abbrev pub described : List ℕ → List Part
described numbers = descriptor_part numbers ∷ map Copy numbers

abbrev pub revoke_parts : Measures → ℕ → List Part
revoke_parts l revokes = map revoke_part (groups (numbers_of l) (range_with_len 0 revokes))

abbrev pub copy_parts : Measures → ℕ → List Part
copy_parts l copies = flat_map described (groups (tags_of l) (range_with_len 0 copies))

-- all log blocks, in log order
abbrev pub parts : Measures → ℕ → ℕ → List Part
parts l copies revokes = revoke_parts l revokes ++ copy_parts l copies ++ Commit ∷ []

-- its numbers or tags fit a block, and are there
abbrev pub FitsPart : Measures → ℕ → ℕ → Part → Type 0
FitsPart l copies revokes (Revokes first numbers) = (0 < numbers) × (numbers ≤ numbers_of l) × (first + numbers ≤ revokes)
FitsPart l copies revokes (Descriptor first tags) = (0 < tags) × (tags ≤ tags_of l) × (first + tags ≤ copies)
FitsPart l copies revokes (Copy k) = k < copies
FitsPart l copies revokes Commit = ⊤

-- the bytes of the part in a transaction with these entries
abbrev pub part_block : Measures → List ℕ → ℕ → List (ℕ × Entry) → Part → List ℕ
part_block l uuid sequence entries (Revokes first numbers) = revoke_block l sequence (take numbers (drop first (revoked entries)))
part_block l uuid sequence entries (Descriptor first tags) = descriptor_block l uuid sequence (tags_from true (take tags (drop first (copied entries))))
part_block l uuid sequence entries (Copy k) = escaped (unwrap_or (slice_get (copied entries) k) (0, [])).1
part_block l uuid sequence entries Commit = commit_block l sequence
