-- The clean superblock that an opening or a close leaves, and the opened log.
use Rattle.std.proofs.Common.{refl, sym, ◌∙◌, ap₂, subst, arith, inl, inr, ⊎_elim}
use Rattle.std.specs.Prelude.{◌≡◌, ◌≢◌, ℕ, ◌+◌, ◌-◌, ◌<◌, ◌≤◌, ◌==◌, true, false, List, length, None}
use Rattle.std.proofs.lemmas.Bool.{cases_lt}
use Rattle.std.proofs.lemmas.Bool.Decides.{nat_tests}
use Rattle.log_model.specs.declared.log.Text.{Text}
use Rattle.journal_model.specs.declared.number.Area.TheVariants.{Log}
use Rattle.log_model.specs.Chain.{Ring}
use Rattle.journal_model.specs.Disk.{Disk, Image, IsOneOf, Shape, held}
use Rattle.journal_model.specs.Layout.{begins_with_magic, sequence_in}
use Rattle.log_model.specs.Opening.{HasChain, IsClean, NothingAhead, greatest_number, layout_of, ring_of, super_of}
use Rattle.log_model.specs.Superblock.{super_in, super_refusal, with_tail}
use Rattle.log_format.proofs.Accepting.{tail_accepted}
use Rattle.log_format.proofs.Superblocks.{before_tail, sequence_of_tail, start_of_tail}
use Rattle.journal_world.specs.Opening.{IsBehind, IsOpenedLog, NamesNothing, cleaned}
use Rattle.journal_world.specs.Sound.{durable_cell}
use Rattle.journal_world.proofs.Superblocks.{accepted-first, accepted-size}
use Rattle.journal_world.proofs.Tails.{layout-tail, length-tail}
use Rattle.log_epochs.specs.OpeningSteps.{Found, HasTexts, IsFound, clean_superblock, next_of}
use Rattle.log_epochs.specs.OpeningSteps.HasTexts.{NoTexts, Texts}

-- a new tail leaves the ring
ring-tail : (block : List ℕ) (sequence start : ℕ) → 24 ≤ length block → ring_of (super_in (with_tail block sequence start)) ≡ ring_of (super_in block)
ring-tail block sequence start long =
    ap₂ (λ (first blocks : ℕ). let r : Ring = record { first = first; blocks = blocks - first } in r)
    (before_tail 0x14 block sequence start (omega arith) long)
    (before_tail 0x10 block sequence start (omega arith) long)

-- what a superblock with the clean tail satisfies
pub record IsCleanTail (shape : Shape) (superblock tail : List ℕ) (next : ℕ) : Type 0 where
  pub tail_is : tail ≡ with_tail superblock next 0
  pub accepted : super_refusal shape tail ≡ None
  pub size : length tail ≡ shape.block_size
  pub clean : (super_in tail).s_start ≡ 0
  pub sequence : (super_in tail).s_sequence ≡ next
  pub layout : layout_of (super_in tail) ≡ layout_of (super_in superblock)
  pub ring : ring_of (super_in tail) ≡ ring_of (super_in superblock)

-- the clean tail makes such a superblock
pub clean-tail : (shape : Shape) (superblock : List ℕ) (next : ℕ) → super_refusal shape superblock ≡ None → length superblock ≡ shape.block_size →
    next ≤ greatest_number + 1 → IsCleanTail shape superblock (with_tail superblock next 0) next
clean-tail shape superblock next accepted size small =
    let large : 1024 ≤ shape.block_size = accepted-size shape superblock accepted in
    record {
      tail_is = refl;
      accepted = tail_accepted shape superblock next 0 (omega arith) accepted (inl refl);
      size = length-tail superblock next 0 (omega arith) ∙ size;
      clean = start_of_tail superblock next 0 (omega arith) (omega arith);
      sequence = sequence_of_tail superblock next 0 (omega arith) (omega arith);
      layout = layout-tail superblock next 0 (omega arith);
      ring = ring-tail superblock next 0 (omega arith);
    }

-- with nothing ahead of a limit, each ring block is below the next number
behind-limit : (image : Image) (limit n : ℕ) (v : List ℕ) → NothingAhead image limit → (ring_of (super_of image)).first ≤ n →
    n < (ring_of (super_of image)).first + (ring_of (super_of image)).blocks → v ≡ image Log n → IsBehind (limit + 1) v
behind-limit image limit n v none low high is = record {
  below = λ magic.
      elim (cases_lt limit (sequence_in v)) [
        | inl above ↦
            absurd (none n (record {
              low = low;
              high = high;
              magic = subst (λ (b : List ℕ). begins_with_magic b ≡ true) is magic;
              above = subst (λ (b : List ℕ). limit < sequence_in b) is above;
            }))
        | inr below ↦ omega arith
      ];
}

-- a log with a durable block 0 and nothing ahead in its ring is opened
pub opened-log : (shape : Shape) (image : Image) (disk : Disk) (superblock : List ℕ) (limit : ℕ) →
    NamesNothing shape (layout_of (super_in superblock)) (ring_of (super_in superblock)) (limit + 1) superblock → limit < greatest_number →
    disk Log 0 ≡ durable_cell superblock → ((n : ℕ) (v : List ℕ) → n ≢ 0 → IsOneOf (held (disk Log n)) v → v ≡ image Log n) →
    ring_of (super_in superblock) ≡ ring_of (super_of image) → NothingAhead image limit → IsOpenedLog shape disk superblock (limit + 1)
opened-log shape image disk superblock limit named small durable ring_is same none = record {
  named = named;
  some = omega arith;
  number = omega arith;
  durable = durable;
  behind = λ n v low high one.
      let above : 0 < (super_in superblock).s_first = accepted-first shape superblock named.is_superblock.accepted in
      behind-limit image limit n v none (subst (λ (r : Ring). r.first ≤ n) same low)
      (subst (λ (r : Ring). n < r.first + r.blocks) same (omega arith))
      (ring_is n v (λ zero. let is : n ≡ 0 = zero in omega arith) one);
}

-- block 0 of a clean log is left as it is
pub cleaned-clean : (block : List ℕ) (next : ℕ) → (super_in block).s_start ≡ 0 → cleaned block next ≡ block
cleaned-clean block next clean = let test : ((super_in block).s_start == 0) ≡ true = grind (arith, nat_tests) in rw test

-- block 0 of another log gets a new tail
pub cleaned-started : (block : List ℕ) (next : ℕ) → (super_in block).s_start ≢ 0 → cleaned block next ≡ with_tail block next 0
cleaned-started block next started = let test : ((super_in block).s_start == 0) ≡ false = grind (arith, nat_tests) in rw test

-- the texts and the limit found of a clean image
pub found-clean : (shape : Shape) (image : Image) (texts : List Text) (limit : ℕ) → HasTexts shape image texts limit → IsClean shape image →
    limit ≡ (super_of image).s_sequence
found-clean shape image texts limit (NoTexts clean) also = refl
found-clean shape image texts limit (Texts ts has) also = absurd (has.started.started also.clean)

-- a clean log that was flushed is opened
pub opened-clean : (shape : Shape) (found : Found) (disk : Disk) → IsFound shape found → IsClean shape found.image →
    ((n : ℕ) → disk Log n ≡ durable_cell (found.image Log n)) → IsOpenedLog shape disk (cleaned (found.image Log 0) (next_of found)) (next_of found)
opened-clean shape found disk is clean durable =
    let end : found.limit ≡ (super_of found.image).s_sequence = found-clean shape found.image found.texts found.limit is.has clean in
    subst (λ (block : List ℕ). IsOpenedLog shape disk block (next_of found)) (sym (cleaned-clean (found.image Log 0) (next_of found) clean.clean))
    (opened-log shape found.image disk (found.image Log 0) found.limit
    (record {
      is_superblock = record { accepted = clean.accepted; size = is.size; layout_is = refl; ring_is = refl };
      clean = clean.clean;
      low = omega arith;
      high = omega arith;
    })
    is.number (durable 0)
    (λ n v other one. ⊎_elim (λ same. same) (λ none. absurd none) (subst (λ c. IsOneOf (held c) v) (durable n) one))
    refl is.none_ahead)

-- a log whose new superblock was flushed is opened
pub opened-replayed : (shape : Shape) (found : Found) (disk : Disk) → IsFound shape found → HasChain shape found.image found.texts →
    disk Log 0 ≡ durable_cell (clean_superblock found) → ((n : ℕ) (v : List ℕ) → n ≢ 0 → IsOneOf (held (disk Log n)) v → v ≡ found.image Log n) →
    IsOpenedLog shape disk (cleaned (found.image Log 0) (next_of found)) (next_of found)
opened-replayed shape found disk is has durable ring =
    let small : found.limit < greatest_number = is.number in
    let tail = clean-tail shape (found.image Log 0) (next_of found) has.started.accepted is.size (omega arith) in
    let sequence : (super_in (clean_superblock found)).s_sequence ≡ found.limit + 1 = tail.sequence in
    subst (λ (block : List ℕ). IsOpenedLog shape disk block (next_of found)) (sym (cleaned-started (found.image Log 0) (next_of found) has.started.started))
    (opened-log shape found.image disk (clean_superblock found) found.limit
    (record {
      is_superblock = record { accepted = tail.accepted; size = tail.size; layout_is = refl; ring_is = refl };
      clean = tail.clean;
      low = omega arith;
      high = omega arith;
    })
    is.number durable ring tail.ring is.none_ahead)
