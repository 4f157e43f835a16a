-- What a crash of a sound disk leaves of the ring blocks.
use Rattle.std.proofs.Common.{◌≡◌, ◌⊎◌, inl, inr, ℕ, ◌+◌, ◌-◌, ◌<◌, ◌≤◌, List, [], ◌++◌, length, length-append, Some, arith, sym, ◌∙◌, subst, ap}
use Rattle.std.specs.Prelude.{unwrap_or}
use Rattle.std.specs.List.{slice_get}
use Rattle.std.proofs.lemmas.Bool.{cases_eq, cases_lt}
use Rattle.std.proofs.lemmas.Option.{slice_get_within}
use Rattle.journal_model.specs.declared.number.Area.TheVariants.{Log}
use Rattle.log_model.specs.Chain.{texts_blocks, ring_place}
use Rattle.journal_model.specs.Disk.{Disk, Image, Leaves}
use Rattle.journal_model.specs.Layout.{IsLayout}
use Rattle.journal_world.specs.declared.stage.Stage.{Stage}
use Rattle.journal_world.specs.declared.stage.Stage.TheVariants.{Idle, SuperblockWrite, SuperblockFlush, Blocks, CommitWrite, CommitFlush}
use Rattle.journal_world.specs.Engine.{Engine, block_at, committed_texts, due_blocks}
use Rattle.journal_world.specs.Opening.{IsBehind}
use Rattle.journal_world.specs.Sound.{IsDurable, IsOwnBlock, IsPlain, Sound, StageHolds, handed}
use Rattle.journal_world.proofs.Around.{each-around, place-around}
use Rattle.journal_world.proofs.Due.{committed-behind, due-numbered}
use Rattle.journal_world.proofs.Elements.{all-at}
use Rattle.journal_world.proofs.Places.{held-durable}
use Rattle.journal_world.proofs.Positions.{committed-few}
use Rattle.journal_world.proofs.Texts.{block-behind, block-front, block-there}

-- the blocks of the transaction being committed are durable, except its commit block
abbrev pub AreDurable : Engine → Disk → Type 0
AreDurable e disk = (j : ℕ) → j + 1 < length (due_blocks e) → IsDurable e disk (e.start + j) (block_at (due_blocks e) j)

-- the commit block was not handed over, or all other blocks are durable
pub data Progress (e : Engine) (disk : Disk) (stage : Stage) : Type 0 where
  Before : handed stage (length (due_blocks e)) ≤ length (due_blocks e) - 1 → Progress e disk stage
  Ending : AreDurable e disk → Progress e disk stage

-- how far a commit is, at each stage
pub progress : (e : Engine) (disk : Disk) (stage : Stage) → StageHolds e disk stage → Progress e disk stage
progress e disk Idle holds = Before (omega arith)
progress e disk SuperblockWrite holds = Before (omega arith)
progress e disk SuperblockFlush holds = Before (omega arith)
progress e disk (Blocks k) holds = Before (omega arith)
progress e disk CommitWrite holds = Ending holds
progress e disk CommitFlush holds = Ending holds.0

-- a crash leaves a durable block as it is
pub durable-left : (e : Engine) (disk : Disk) (image : Image) (k : ℕ) (v : List ℕ) → Leaves disk image → IsDurable e disk k v →
    image Log (ring_place e.ring k) ≡ v
durable-left e disk image k v leaves durable =
    held-durable disk (ring_place e.ring k) v (image Log (ring_place e.ring k)) durable (leaves.each Log (ring_place e.ring k))

-- a block below the due number, or a due block that is not the last
abbrev pub IsPartial : Engine → List ℕ → Type 0
IsPartial e v = IsBehind (e.first + e.committed) v ⊎ ((i : ℕ) × (slice_get (due_blocks e) i ≡ Some v) × (i + 1 < length (due_blocks e)))

-- the position of the due commit block
abbrev pub place_of_commit : Engine → ℕ
place_of_commit e = e.start + (length (due_blocks e) - 1)

-- the image has the due commit block at its position
abbrev pub HasCommit : Engine → Image → Type 0
HasCommit e image = IsOwnBlock e (place_of_commit e) (image Log (ring_place e.ring (place_of_commit e)))

-- after the committed transactions the lap has no due commit block
abbrev pub HasNoCommit : Engine → Image → Type 0
HasNoCommit e image = (k : ℕ) → e.start ≤ k → k < e.tail + e.ring.blocks → IsPartial e (image Log (ring_place e.ring k))

module _ (e : Engine) (disk : Disk) (image : Image) (sound : Sound e disk) (leaves : Leaves disk image) where
  -- what a crash leaves after the committed transactions is below the due number, or an own block
  pub behind-left : (k : ℕ) → e.start ≤ k → k < e.tail + e.ring.blocks →
      IsBehind (e.first + e.committed) (image Log (ring_place e.ring k)) ⊎ IsOwnBlock e k (image Log (ring_place e.ring k))
  behind-left k low high = sound.behind k (image Log (ring_place e.ring k)) low high (leaves.each Log (ring_place e.ring k))

  -- the committed unreleased transactions are left whole
  pub committed-left : (k : ℕ) → e.tail ≤ k → k < e.start → image Log (ring_place e.ring k) ≡ block_at (texts_blocks (committed_texts e)) k
  committed-left k low below = durable-left e disk image k (block_at (texts_blocks (committed_texts e)) k) leaves (sound.durable k low below)

  -- each of their blocks is below the due number
  past-left : IsLayout e.layout → (k : ℕ) → e.tail ≤ k → k < e.start →
      IsBehind (e.first + e.committed) (image Log (ring_place e.ring k))
  past-left layout k low below =
      let start : e.start ≡ length (texts_blocks (committed_texts e)) = sound.plain.start in
      let few : e.committed ≤ length e.accepted = committed-few e e.stage sound.plain.stage in
      let b : IsBehind (e.first + e.committed) (block_at (texts_blocks (committed_texts e)) k) =
      all-at (IsBehind (e.first + e.committed)) (texts_blocks (committed_texts e)) k _ (committed-behind e sound.plain layout few)
      (block-there (texts_blocks (committed_texts e)) k (omega arith)) in
      subst (IsBehind (e.first + e.committed)) (sym (committed-left k low below)) b

  -- those between the tail and a position stand again one lap later
  pub around-left : IsLayout e.layout → (k : ℕ) → e.tail + e.ring.blocks ≤ k → k < e.start + e.ring.blocks →
      IsBehind (e.first + e.committed) (image Log (ring_place e.ring k))
  around-left layout k low high =
      subst (λ (p : ℕ). IsBehind (e.first + e.committed) (image Log p)) (sym (place-around e.ring k (omega arith)))
      (past-left layout (k - e.ring.blocks) (omega arith) (omega arith))

  -- no block of the lap is numbered above the due transaction
  lap-left : IsLayout e.layout → (k : ℕ) → e.tail ≤ k → k < e.tail + e.ring.blocks →
      IsBehind (e.first + e.committed + 1) (image Log (ring_place e.ring k))
  lap-left layout k low high =
      let plain : IsPlain e = sound.plain in
      elim (cases_lt k e.start) [
        | inl below ↦ let b = past-left layout k low below in record { below = λ m. let least = b.below m in omega arith }
        | inr behind ↦
            elim (behind-left k behind high) [
              | inl b ↦ record { below = λ m. let least = b.below m in omega arith }
              | inr o ↦
                  let due = due-numbered e plain layout o.index (image Log (ring_place e.ring k)) o.block in
                  record { below = λ m. let same = due.number m in omega arith }
            ]
      ]

  -- no ring block is numbered above the due transaction
  pub each-left : IsLayout e.layout → (j : ℕ) → j < e.ring.blocks →
      IsBehind (e.first + e.committed + 1) (image Log (ring_place e.ring j))
  each-left layout j within =
      each-around e.ring (λ p. IsBehind (e.first + e.committed + 1) (image Log p)) e.tail (lap-left layout) j within

  -- the due blocks are left whole, if the image has the commit block and the others are durable
  pub due-left : AreDurable e disk → HasCommit e image → (j : ℕ) → j < length (due_blocks e) →
      image Log (ring_place e.ring (e.start + j)) ≡ block_at (due_blocks e) j
  due-left durable own j within =
      elim (cases_lt (j + 1) (length (due_blocks e))) [
        | inl before ↦ durable-left e disk image (e.start + j) (block_at (due_blocks e) j) leaves (durable j before)
        | inr last ↦
            let place : e.start + (length (due_blocks e) - 1) ≡ e.start + own.index = own.place in
            let index : own.index ≡ j = omega arith in
            let here : e.start + j ≡ place_of_commit e = omega arith in
            ap (λ k. image Log (ring_place e.ring k)) here
            ∙ sym (ap (λ o. unwrap_or o []) own.block)
            ∙ ap (block_at (due_blocks e)) index
      ]

  -- then the log goes on with one more text
  pub more-left : ((j : ℕ) → j < length (due_blocks e) → image Log (ring_place e.ring (e.start + j)) ≡ block_at (due_blocks e) j) →
      (k : ℕ) → e.tail ≤ k → k < length (texts_blocks (committed_texts e) ++ due_blocks e) →
      image Log (ring_place e.ring k) ≡ block_at (texts_blocks (committed_texts e) ++ due_blocks e) k
  more-left due k tail within =
      let start : e.start ≡ length (texts_blocks (committed_texts e)) = sound.plain.start in
      let sum : length (texts_blocks (committed_texts e) ++ due_blocks e) ≡ length (texts_blocks (committed_texts e)) + length (due_blocks e) =
      length-append (texts_blocks (committed_texts e)) (due_blocks e) in
      elim (cases_lt k e.start) [
        | inl below ↦ committed-left k tail below ∙ sym (block-front (texts_blocks (committed_texts e)) (due_blocks e) k (omega arith))
        | inr low ↦
            ap (λ m. image Log (ring_place e.ring m)) (omega arith)
            ∙ due (k - length (texts_blocks (committed_texts e))) (omega arith)
            ∙ sym (block-behind (texts_blocks (committed_texts e)) (due_blocks e) k (k - length (texts_blocks (committed_texts e))) (omega arith))
      ]

  -- each block after it is below the due number
  pub more-rest : (k : ℕ) → e.start + length (due_blocks e) ≤ k → k < e.tail + e.ring.blocks →
      IsBehind (e.first + e.committed) (image Log (ring_place e.ring k))
  more-rest k low high =
      elim (behind-left k (omega arith) high) [
        | inl b ↦ b
        | inr o ↦
            let place : k ≡ e.start + o.index = o.place in
            let within : o.index < length (due_blocks e) = slice_get_within (due_blocks e) o.index (image Log (ring_place e.ring k)) o.block in
            absurd (omega arith)
      ]

  -- without the commit block handed over, no own block is the last
  pub part-before : handed e.stage (length (due_blocks e)) ≤ length (due_blocks e) - 1 → HasNoCommit e image
  part-before least k low high =
      elim (behind-left k low high) [
        | inl b ↦ inl b
        | inr o ↦ let handed_over = o.handed_over in inr (o.index, o.block, omega arith)
      ]

  -- nor with something else at the commit block's place
  pub part-without : IsBehind (e.first + e.committed) (image Log (ring_place e.ring (place_of_commit e))) → HasNoCommit e image
  part-without none k low high =
      elim (behind-left k low high) [
        | inl b ↦ inl b
        | inr o ↦
            let place : k ≡ e.start + o.index = o.place in
            let within : o.index < length (due_blocks e) = slice_get_within (due_blocks e) o.index (image Log (ring_place e.ring k)) o.block in
            elim (cases_eq k (place_of_commit e)) [
              | inl same ↦ inl (subst (λ m. IsBehind (e.first + e.committed) (image Log (ring_place e.ring m))) (sym same) none)
              | inr other ↦ inr (o.index, o.block, omega arith)
            ]
      ]

  -- nor if no block is due
  pub part-none : length (due_blocks e) ≡ 0 → HasNoCommit e image
  part-none none k low high =
      elim (behind-left k low high) [
        | inl b ↦ inl b
        | inr o ↦
            let within : o.index < length (due_blocks e) = slice_get_within (due_blocks e) o.index (image Log (ring_place e.ring k)) o.block in
            absurd (omega arith)
      ]
