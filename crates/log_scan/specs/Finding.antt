-- What stands at one place of a log.
use Rattle.std.specs.Prelude.{◌≡◌, ℕ, ◌+◌, ◌<◌, ◌≤◌, min, List, ◌∷◌, length, take, drop, Option, MatchOption, unwrap_or, true, false, All, ⊤}
use Rattle.log_model.specs.declared.log.Tag.{Tag}
use Rattle.log_model.specs.declared.log.Piece.TheVariants.{Revokes, Copies}
use Rattle.journal_model.specs.declared.number.Area.TheVariants.{Log}
use Rattle.log_model.specs.Chain.{IsMalformed, lap}
use Rattle.log_model.specs.Descriptor.{IsDescriptor}
use Rattle.journal_model.specs.Disk.{Image}
use Rattle.journal_model.specs.Layout.{Layout, begins_with_magic, every_number, narrow, numbers_of, sequence_in}
use Rattle.log_model.specs.Opening.{layout_of, ring_of}
use Rattle.log_model.specs.ReadingLog.{NoPieceBegins, PieceBegins}
use Rattle.log_model.specs.RevokeBlock.{IsRevokeBlock}
use Rattle.log_model.specs.Superblock.{Super}
use Rattle.log_model.specs.Text.{IsCommitBlock}
use Rattle.block_device.specs.State.{DeviceState, most_calls}
use Rattle.log_format.specs.Size.{most_tags}
use Rattle.log_scan.specs.declared.finding.Found.{Found}
use Rattle.log_scan.specs.declared.finding.Found.TheVariants.{RevokeBlock, Descriptor, CommitBlock, Malformed, Nothing}

-- layout, the block read last, and the last tags and numbers
pub record FinderValue : Type 0 where
  pub layout : Layout
  pub block : List ℕ
  pub tags : List Tag
  pub numbers : List ℕ

abbrev pub most_bytes : ℕ
most_bytes = 4096

abbrev pub greatest_tags : ℕ
greatest_tags = most_tags (narrow most_bytes)

abbrev pub greatest_numbers : ℕ
greatest_numbers = numbers_of (narrow most_bytes)

-- each number that the log can spell, if home is not known
abbrev pub every_block : Super → ℕ
every_block s = every_number (layout_of s)

-- home block numbers are below this
abbrev pub limit_of : Super → Option ℕ → ℕ
limit_of s home_blocks = unwrap_or home_blocks (every_block s)

abbrev pub log_block : Image → ℕ → List ℕ
log_block image place = image Log place

-- the blocks of the lap from position k on
abbrev pub blocks_from : Super → Image → ℕ → List (List ℕ)
blocks_from s image k = drop k (lap (ring_of s) image s.s_start)

-- none of the transaction's blocks, or a descriptor with more tags than blocks follow
pub record IsOther (l : Layout) (count sequence behind : ℕ) (block : List ℕ) : Type 0 where
  pub revokes : (numbers : List ℕ) → IsRevokeBlock l count sequence block numbers → ⊥
  pub copies : (tags : List Tag) → IsDescriptor l count sequence block tags → behind < length tags
  pub commit : IsCommitBlock sequence block → ⊥
  pub malformed : IsMalformed l count sequence block → ⊥

-- what the block is to the transaction, with `behind` blocks after it
abbrev pub Says : Layout → ℕ → ℕ → ℕ → List ℕ → FinderValue → Found → Type 0
Says l count sequence behind block f (RevokeBlock n) = (n ≤ length f.numbers) × IsRevokeBlock l count sequence block (take n f.numbers)
Says l count sequence behind block f (Descriptor n) = (n ≤ length f.tags) × (n ≤ behind) × IsDescriptor l count sequence block (take n f.tags)
Says l count sequence behind block f CommitBlock = IsCommitBlock sequence block
Says l count sequence behind block f Malformed = IsMalformed l count sequence block
Says l count sequence behind block f Nothing = IsOther l count sequence behind block

-- what was found lies within the ring, and tags name home blocks
abbrev pub Fits : ℕ → ℕ → ℕ → FinderValue → Found → Type 0
Fits limit blocks position f (RevokeBlock n) = (n ≤ length f.numbers) × (position + 1 ≤ blocks)
Fits limit blocks position f (Descriptor n) = (n ≤ length f.tags) × (position + 1 + n ≤ blocks) × All (λ t. t.block < limit) (take n f.tags)
Fits limit blocks position f CommitBlock = position + 1 ≤ blocks
Fits limit blocks position f Malformed = ⊤
Fits limit blocks position f Nothing = ⊤

pub record RevokeBlockBegins (l : Layout) (count sequence : ℕ) (blocks : List (List ℕ)) (numbers : List ℕ) : Type 0 where
  pub block : List ℕ
  pub begins : PieceBegins l count sequence blocks (Revokes block numbers) 1

pub record DescriptorBegins (l : Layout) (count sequence : ℕ) (blocks : List (List ℕ)) (tags : List Tag) (n : ℕ) : Type 0 where
  pub block : List ℕ
  pub copies : List (List ℕ)
  pub begins : PieceBegins l count sequence blocks (Copies block tags copies) (1 + n)
  pub size : n ≡ length tags

pub record BlockBegins (P : List ℕ → Type 0) (blocks : List (List ℕ)) : Type 0 where
  pub block : List ℕ
  pub behind : List (List ℕ)
  pub split : blocks ≡ block ∷ behind
  pub is : P block

-- nothing of the transaction stands first, well formed or not
pub record NothingBegins (l : Layout) (count sequence : ℕ) (blocks : List (List ℕ)) : Type 0 where
  pub piece : NoPieceBegins l count sequence blocks
  pub commit : BlockBegins (IsCommitBlock sequence) blocks → ⊥
  pub malformed : BlockBegins (IsMalformed l count sequence) blocks → ⊥

abbrev pub IsFound : Layout → ℕ → ℕ → List (List ℕ) → FinderValue → Found → Type 0
IsFound l count sequence blocks f (RevokeBlock n) = RevokeBlockBegins l count sequence blocks (take n f.numbers)
IsFound l count sequence blocks f (Descriptor n) = DescriptorBegins l count sequence blocks (take n f.tags) n
IsFound l count sequence blocks f CommitBlock = BlockBegins (IsCommitBlock sequence) blocks
IsFound l count sequence blocks f Malformed = BlockBegins (IsMalformed l count sequence) blocks
IsFound l count sequence blocks f Nothing = NothingBegins l count sequence blocks

-- the sequence of a block's header, if it begins with the magic
abbrev pub IsSequenceOf : List ℕ → Option ℕ → Type 0
IsSequenceOf block found = MatchOption found (begins_with_magic block ≡ false) (λ sequence. (begins_with_magic block ≡ true) × (sequence ≡ sequence_in block))

-- at least n calls were made, as far as they are counted
abbrev pub MakesCalls : ℕ → DeviceState → DeviceState → Type 0
MakesCalls n old new = min (old.calls + n) most_calls ≤ new.calls

abbrev pub reads_of : Found → ℕ
reads_of (RevokeBlock n) = 1
reads_of (Descriptor n) = 1
reads_of CommitBlock = 1
reads_of Malformed = 1
reads_of Nothing = 0
