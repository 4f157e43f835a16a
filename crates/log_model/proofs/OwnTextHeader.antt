-- The sizes of a layout, and the header and padding of written blocks.
use Rattle.std.proofs.Common.{refl, arith, inl, inr, le-div_iff_mul-le, length-append}
use Rattle.std.specs.Prelude.{◌≡◌, ◌⊎◌, ℕ, ◌+◌, ◌-◌, ◌*◌, ◌/◌, ◌^◌, ◌<◌, ◌≤◌, List, ◌++◌, length}
use Rattle.std.proofs.lemmas.List.{length-replicate}
use Rattle.journal_model.specs.Layout.{Layout, IsLayout, HasHeader, big_endian, every_number, header, magic_bytes, numbers_of, padded, tag_bytes, tags_of}
use Rattle.log_model.proofs.OwnTextNumbers.{number_behind_bytes}

-- the bounds of a layout's sizes
pub record HasMeasures (l : Layout) : Type 0 where
  pub small : 4 ≤ l.number_bytes
  pub large : l.number_bytes ≤ 8
  pub room : 1024 ≤ l.block_size
  pub most : l.block_size ≤ 4096

-- each layout is within them
pub measures : (l : Layout) → IsLayout l → HasMeasures l
measures l layout = record { small = omega arith; large = omega arith; room = omega arith; most = omega arith }

-- a descriptor has room for one tag
pub tags_of-positive : (l : Layout) → HasMeasures l → 0 < tags_of l
tags_of-positive l m = (le-div_iff_mul-le {x = 1} (omega arith)).1 (omega arith)

-- a revoke block has room for one number
pub numbers_of-positive : (l : Layout) → HasMeasures l → 0 < numbers_of l
numbers_of-positive l m = (le-div_iff_mul-le {x = 1} (omega arith)).1 (omega arith)

-- the tags of a descriptor, two UUIDs and a header fit
pub tags_fit : (l : Layout) (k : ℕ) → HasMeasures l → k ≤ tags_of l → k * tag_bytes l + 44 ≤ l.block_size
tags_fit l k m fits =
    let most : k * tag_bytes l ≤ l.block_size - 12 - 16 - 16 = (le-div_iff_mul-le {k = tag_bytes l} (omega arith)).0 fits in omega arith

-- the numbers of a revoke block and its header fit
pub numbers_fit : (l : Layout) (k : ℕ) → HasMeasures l → k ≤ numbers_of l → k * l.number_bytes + 16 ≤ l.block_size
numbers_fit l k m fits =
    let most : k * l.number_bytes ≤ l.block_size - 16 = (le-div_iff_mul-le {k = l.number_bytes} (omega arith)).0 fits in omega arith

-- a number below 2 ^ 32 or 2 ^ 64 fits 4 or 8 bytes
fits_bytes : (k n : ℕ) → (k ≡ 4) ⊎ (k ≡ 8) → n < 2 ^ (8 * k) → n < 256 ^ k
fits_bytes k n (inl four) below = rw four (rw four at below)
fits_bytes k n (inr eight) below = rw eight (rw eight at below)

-- the part above 2 ^ 32 fits the bytes after the first four
fits_high_bytes : (k n : ℕ) → (k ≡ 4) ⊎ (k ≡ 8) → n < 2 ^ (8 * k) → n / 2 ^ 32 < 256 ^ (k - 4)
fits_high_bytes k n (inl four) below = rw four (let least : n < 2 ^ 32 = rw four at below in omega arith)
fits_high_bytes k n (inr eight) below = rw eight (let least : n < 2 ^ 64 = rw eight at below in omega arith)

-- a number that the layout can spell fits its bytes
pub spellable : (l : Layout) (n : ℕ) → IsLayout l → n < every_number l → n < 256 ^ l.number_bytes
spellable l n layout below = fits_bytes l.number_bytes n layout.1 below

-- its part above 2 ^ 32 fits the bytes after the first four
pub high_spellable : (l : Layout) (n : ℕ) → IsLayout l → n < every_number l → n / 2 ^ 32 < 256 ^ (l.number_bytes - 4)
high_spellable l n layout below = fits_high_bytes l.number_bytes n layout.1 below

-- a written header is read back
pub header_read : (type sequence : ℕ) (rest : List ℕ) →
    type < 2 ^ 32 → sequence < 2 ^ 32 →
    HasHeader type sequence (header type sequence ++ rest)
header_read type sequence rest small below =
    record {
      magic = refl;
      type_is = number_behind_bytes magic_bytes (big_endian 4 sequence ++ rest) 4 4 type refl small;
      sequence_is = number_behind_bytes (magic_bytes ++ big_endian 4 type) rest 8 4 sequence refl below;
    }

-- padding fills up a block
pub length-padded : (size : ℕ) (bytes : List ℕ) → length bytes ≤ size → length (padded size bytes) ≡ size
unfolding padded
length-padded size bytes fits = simp (length-append, length-replicate) (omega arith)
