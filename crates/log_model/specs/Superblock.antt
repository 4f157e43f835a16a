-- The superblock: its fields, the tests of an opening, and how it is written.
-- Source: journal.rst, "Super Block"; the limits of this profile are its own.
use Rattle.std.specs.Prelude.{ℕ, ◌-◌, ◌==◌, ◌&&◌, ◌||◌, nat_lt, nat_le, Bool, if◌then◌else◌, List, [], ◌∷◌, ◌++◌, take, drop, Option, Some, None}
use Rattle.journal_model.specs.declared.refusal.JournalError.{JournalError}
use Rattle.journal_model.specs.declared.refusal.JournalError.TheVariants.{BadMagic, BadType, BadBlockSize, BadLength, BadFirst, BadFeature, BadStart, ErrnoSet}
use Rattle.journal_model.specs.Disk.{Shape}
use Rattle.journal_model.specs.Layout.{big_endian, number_at, begins_with_magic, type_in, header, super_type, padded}

-- the fields of a superblock, by their names in jbd2
pub record Super : Type 0 where
  pub s_blocksize : ℕ  -- bytes in a block
  pub s_maxlen : ℕ  -- blocks in the log, with the superblock
  pub s_first : ℕ  -- the first block of the ring
  pub s_sequence : ℕ  -- the log's first transaction; in a clean log, the number before the next one
  pub s_start : ℕ  -- the block where it begins; 0 in a clean log
  pub s_errno : ℕ
  pub s_feature_compat : ℕ
  pub s_feature_incompat : ℕ
  pub s_feature_ro_compat : ℕ
  pub s_uuid : List ℕ  -- 16 bytes
  pub s_nr_users : ℕ

abbrev pub super_in : List ℕ → Super
super_in block =
    record {
      s_blocksize = number_at 0x0c 4 block;
      s_maxlen = number_at 0x10 4 block;
      s_first = number_at 0x14 4 block;
      s_sequence = number_at 0x18 4 block;
      s_start = number_at 0x1c 4 block;
      s_errno = number_at 0x20 4 block;
      s_feature_compat = number_at 0x24 4 block;
      s_feature_incompat = number_at 0x28 4 block;
      s_feature_ro_compat = number_at 0x2c 4 block;
      s_uuid = take 16 (drop 0x30 block);
      s_nr_users = number_at 0x40 4 block;
    }

abbrev pub is_block_size : ℕ → Bool
is_block_size n = (n == 1024) || (n == 2048) || (n == 4096)

abbrev pub least_ring : ℕ
least_ring = 16

abbrev pub least_length : ℕ
least_length = 17

abbrev pub greatest_length : ℕ
greatest_length = 1048576

-- revoke blocks, alone or with 64-bit block numbers
abbrev pub revoke_feature : ℕ
revoke_feature = 1

abbrev pub wide_features : ℕ
wide_features = 3

abbrev pub features_of : Bool → ℕ
features_of is_wide = if is_wide then wide_features else revoke_feature

-- in order, each with its refusal
abbrev pub super_tests : Shape → List ℕ → List (Bool × JournalError)
super_tests shape block =
    let s = super_in block in
    (begins_with_magic block, BadMagic)
    ∷ (type_in block == super_type, BadType)
    ∷ (is_block_size s.s_blocksize && (s.s_blocksize == shape.block_size), BadBlockSize)
    ∷ (nat_le least_length s.s_maxlen && nat_le s.s_maxlen greatest_length && nat_le s.s_maxlen shape.log_blocks, BadLength)
    ∷ (nat_lt 0 s.s_first && nat_le least_ring (s.s_maxlen - s.s_first), BadFirst)
    ∷ ((s.s_feature_compat == 0) && (s.s_feature_ro_compat == 0) && ((s.s_feature_incompat == revoke_feature) || (s.s_feature_incompat == wide_features)) && (s.s_nr_users == 1), BadFeature)
    ∷ ((s.s_start == 0) || (nat_le s.s_first s.s_start && nat_lt s.s_start s.s_maxlen), BadStart)
    ∷ (s.s_errno == 0, ErrnoSet)
    ∷ []

abbrev pub first_failed : List (Bool × JournalError) → Option JournalError
first_failed [] = None
first_failed (test ∷ tests) = if test.0 then first_failed tests else Some test.1

-- a log area without a block is refused first, since nothing can be read
abbrev pub super_refusal : Shape → List ℕ → Option JournalError
super_refusal shape block = if shape.log_blocks == 0 then Some BadLength else first_failed (super_tests shape block)

unfoldable pub formatted_super : ℕ → ℕ → List ℕ → Bool → List ℕ
formatted_super size maxlen uuid is_wide =
    padded size
    (header super_type 0
    ++ big_endian 4 size ++ big_endian 4 maxlen ++ big_endian 4 1 ++ big_endian 4 1 ++ big_endian 4 0
    ++ big_endian 4 0 ++ big_endian 4 0 ++ big_endian 4 (features_of is_wide) ++ big_endian 4 0
    ++ uuid ++ big_endian 4 1)

-- no other byte changes
unfoldable pub widened : List ℕ → List ℕ
widened block = take 0x28 block ++ big_endian 4 wide_features ++ drop 0x2c block

-- no other byte changes
unfoldable pub with_tail : List ℕ → ℕ → ℕ → List ℕ
with_tail block sequence start = take 0x18 block ++ big_endian 4 sequence ++ big_endian 4 start ++ drop 0x20 block
