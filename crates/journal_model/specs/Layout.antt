-- Numbers as bytes, the sizes of a log's blocks, and the header of the log's own blocks.
-- Source: journal.rst, "Layout" and "Block Header".
use Rattle.std.specs.Prelude.{◌≡◌, ◌⊎◌, ℕ, zero, suc, ◌+◌, ◌-◌, ◌*◌, ◌/◌, ◌^◌, nat_eq, Bool, true, List, [], ◌∷◌, ◌++◌, length, replicate, slice_index}
use Rattle.std.specs.List.{starts_with}
use Rattle.std.specs.Int.{bytes_high_first}
use Rattle.journal_model.specs.declared.log_layout.LogLayout.{LogLayout}

-- the lowest `count` bytes of n, highest first
abbrev pub big_endian : ℕ → ℕ → List ℕ
big_endian count n = bytes_high_first count n

-- the number in `count` bytes from place `at`, highest first
abbrev pub number_at : ℕ → ℕ → List ℕ → ℕ
number_at at zero bytes = 0
number_at at (suc count) bytes = slice_index bytes at * 256 ^ count + number_at (suc at) count bytes

abbrev pub Layout : Type 0
Layout = LogLayout

abbrev pub narrow : ℕ → Layout
narrow size = record { block_size = size; number_bytes = 4 }

abbrev pub wide : ℕ → Layout
wide size = record { block_size = size; number_bytes = 8 }

-- one more than the greatest number that the layout can spell
abbrev pub every_number : Layout → ℕ
every_number l = 2 ^ (8 * l.number_bytes)

abbrev pub header_bytes : ℕ
header_bytes = 12

abbrev pub revoke_header_bytes : ℕ
revoke_header_bytes = 16

abbrev pub uuid_bytes : ℕ
uuid_bytes = 16

-- bytes of a tag: the number, an unused checksum field of 2 bytes, and 2 bytes of flags
abbrev pub tag_bytes : Layout → ℕ
tag_bytes l = l.number_bytes + 4

-- the most tags that the writer puts into a descriptor: the first has a UUID, and another begins only if it
-- would fit with a UUID too
abbrev pub tags_of : Layout → ℕ
tags_of l = (l.block_size - header_bytes - uuid_bytes - uuid_bytes) / tag_bytes l

abbrev pub numbers_of : Layout → ℕ
numbers_of l = (l.block_size - revoke_header_bytes) / l.number_bytes

-- the first four bytes of a superblock and of each descriptor, commit and revoke block
abbrev pub magic_bytes : List ℕ
magic_bytes = 0xc0 ∷ 0x3b ∷ 0x39 ∷ 0x98 ∷ []

abbrev pub begins_with_magic : List ℕ → Bool
begins_with_magic block = starts_with nat_eq block magic_bytes

abbrev pub descriptor_type : ℕ
descriptor_type = 1

abbrev pub commit_type : ℕ
commit_type = 2

abbrev pub super_type : ℕ
super_type = 4

abbrev pub revoke_type : ℕ
revoke_type = 5

-- type and transaction number of a header
abbrev pub type_in : List ℕ → ℕ
type_in block = number_at 4 4 block

abbrev pub sequence_in : List ℕ → ℕ
sequence_in block = number_at 8 4 block

pub record HasHeader (type sequence : ℕ) (block : List ℕ) : Type 0 where
  pub magic : begins_with_magic block ≡ true
  pub type_is : type_in block ≡ type
  pub sequence_is : sequence_in block ≡ sequence

abbrev pub header : ℕ → ℕ → List ℕ
header type sequence = magic_bytes ++ big_endian 4 type ++ big_endian 4 sequence

unfoldable pub padded : ℕ → List ℕ → List ℕ
padded size bytes = bytes ++ replicate (size - length bytes) 0

-- the layouts of logs: blocks of 1, 2 or 4 KiB, and block numbers of 4 or 8 bytes
abbrev pub IsLayout : Layout → Type 0
IsLayout l =
    ((l.block_size ≡ 1024) ⊎ ((l.block_size ≡ 2048) ⊎ (l.block_size ≡ 4096)))
    × ((l.number_bytes ≡ 4) ⊎ (l.number_bytes ≡ 8))
