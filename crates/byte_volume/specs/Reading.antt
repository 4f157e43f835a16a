-- What a read of a byte range gives.
use Rattle.std.specs.Prelude.{◌≡◌, ◌≢◌, ◌^◌, ◌≤◌, ◌+◌, ◌/◌, ◌%◌, ◌++◌, ℕ, List, [], length, take, drop, replicate}
use Rattle.journal_model.specs.declared.refusal.JournalError.{JournalError}
use Rattle.journal_model.specs.declared.refusal.JournalError.TheVariants.{BadBlock, Memory, Revoked}
use Rattle.block_device.specs.State.{DeviceState}
use Rattle.handle.specs.Name.{JournalId}
use Rattle.journal_steps.specs.Journal.{NewestRefused, NewestDid}
use Rattle.journal_steps.specs.Values.{JournalValue}
use Rattle.shared_journal.specs.Moments.{AtItsMoment, AtOneMoment}

-- at a moment of the named journal, a read of the block's newest bytes gave these; or the block has an unfinished revoke, and they are zeros
pub data ReadsBlock {D : Type 0} (state : D → DeviceState) (honest : D → Type 0) (name : JournalId) (b : ℕ) (v : List ℕ) : Type 0 where
  Newest : AtItsMoment state honest name (λ (old new : JournalValue D). NewestDid state honest old b v new) → ReadsBlock state honest name b v
  Zeros : AtItsMoment state honest name (λ (old new : JournalValue D). NewestRefused state old b new Revoked) → v ≡ replicate (length v) 0 → ReadsBlock state honest name b v

-- n bytes of a block, from this place in it on
pub record ReadsPart {D : Type 0} (state : D → DeviceState) (honest : D → Type 0) (name : JournalId) (size b from n : ℕ) (part : List ℕ) : Type 0 where
  pub block : List ℕ
  pub reads : ReadsBlock state honest name b block
  pub whole : length block ≡ size
  pub fits : from + n ≤ size
  pub part_is : part ≡ take n (drop from block)

-- a list grew by such bytes
pub record AddsPart {D : Type 0} (state : D → DeviceState) (honest : D → Type 0) (name : JournalId) (size b from n : ℕ) (old new : List ℕ) : Type 0 where
  pub part : List ℕ
  pub reads : ReadsPart state honest name size b from n part
  pub added : new ≡ old ++ part

-- the volume's bytes from this one on: each next stretch lies in one block, and a read of that block gave it
pub data ReadsRange {D : Type 0} (state : D → DeviceState) (honest : D → Type 0) (name : JournalId) (size offset : ℕ) : List ℕ → Type 0 where
  NoByte : ReadsRange state honest name size offset []
  Further : (before part bytes : List ℕ) → ReadsRange state honest name size offset before →
      ReadsPart state honest name size ((offset + length before) / size) ((offset + length before) % size) (length part) part →
      bytes ≡ before ++ part → ReadsRange state honest name size offset bytes

-- a read of the block's newest bytes was refused at one moment under the lock, and not for an unfinished revoke
abbrev pub BlockRefused : {D : Type 0} → (D → DeviceState) → ℕ → JournalError → Type 0
BlockRefused {D} state b e = (e ≢ Revoked) × AtOneMoment (λ (old new : JournalValue D). NewestRefused state old b new e)

-- why a read of n bytes is refused: the range ends past 2^64, there is no buffer, or the read of a block was refused
pub data RangeRefused {D : Type 0} (state : D → DeviceState) (offset n : ℕ) (e : JournalError) : Type 0 where
  PastEnd : 2 ^ 64 ≤ offset + n → e ≡ BadBlock → RangeRefused state offset n e
  NoBuffer : e ≡ Memory → RangeRefused state offset n e
  OfBlock : (b : ℕ) → BlockRefused state b e → RangeRefused state offset n e
