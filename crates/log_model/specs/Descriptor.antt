-- Which bytes are a descriptor block with its tags, and how the writer spells one.
-- Source: journal.rst, "Descriptor Block" (tags without checksums).
use Rattle.std.specs.Prelude.{◌≡◌, ℕ, ◌+◌, ◌-◌, ◌*◌, ◌/◌, ◌^◌, ◌<◌, ◌≤◌, true, false, if◌then◌else◌, List, [], ◌∷◌, ◌++◌, length, drop, All}
use Rattle.std.specs.List.{flat_map}
use Rattle.log_model.specs.declared.log.Tag.{Tag}
use Rattle.journal_model.specs.Layout.{Layout, big_endian, number_at, HasHeader, header, header_bytes, descriptor_type, tag_bytes, uuid_bytes, padded}

-- 1 escaped, 2 same UUID, 8 last tag; 4, deleted, is never written
abbrev pub flag_word : Tag → ℕ
flag_word t = (if t.escaped then 1 else 0) + (if t.same_uuid then 2 else 0) + (if t.last then 8 else 0)

abbrev pub uuid_behind : Tag → ℕ
uuid_behind t = if t.same_uuid then 0 else uuid_bytes

-- The low four bytes of the block number, an unread checksum field, the flags, and the number's high bytes if
-- the layout has them.
pub record BeginsWithTag (l : Layout) (bytes : List ℕ) (t : Tag) : Type 0 where
  pub room : tag_bytes l ≤ length bytes
  pub block : t.block ≡ number_at 0 4 bytes + 2 ^ 32 * number_at 8 (l.number_bytes - 4) bytes
  pub flags : number_at 6 2 bytes ≡ flag_word t

-- Only the last tag has the last flag. Each UUID after a tag must fit, except after the last.
abbrev pub BeginsWithTags : Layout → List ℕ → List Tag → Type 0
BeginsWithTags l bytes [] = ⊥
BeginsWithTags l bytes (t ∷ []) = BeginsWithTag l bytes t × (t.last ≡ true)
BeginsWithTags l bytes (t ∷ u ∷ tags) =
    BeginsWithTag l bytes t × (t.last ≡ false) × (tag_bytes l + uuid_behind t ≤ length bytes)
    × BeginsWithTags l (drop (tag_bytes l + uuid_behind t) bytes) (u ∷ tags)

-- a well-formed descriptor of this sequence, with home blocks below the count
pub record IsDescriptor (l : Layout) (count sequence : ℕ) (block : List ℕ) (tags : List Tag) : Type 0 where
  pub has_header : HasHeader descriptor_type sequence block
  pub spelled : BeginsWithTags l (drop header_bytes block) tags
  pub below : All (λ t. t.block < count) tags

-- the UUID follows unless the same-UUID flag is set
abbrev pub tag_spelling : Layout → List ℕ → Tag → List ℕ
tag_spelling l uuid t =
    big_endian 4 t.block ++ (0 ∷ 0 ∷ []) ++ big_endian 2 (flag_word t)
    ++ big_endian (l.number_bytes - 4) (t.block / 2 ^ 32)
    ++ (if t.same_uuid then [] else uuid)

unfoldable pub descriptor_block : Layout → List ℕ → ℕ → List Tag → List ℕ
descriptor_block l uuid sequence tags =
    padded l.block_size (header descriptor_type sequence ++ flat_map (tag_spelling l uuid) tags)
