-- During a replay, and once the log is clean, each image opens as before.
use Rattle.std.proofs.Common.{refl, sym, ◌∙◌, ap, subst, arith, inl, inr, ⊎_elim}
use Rattle.std.specs.Prelude.{◌≡◌, ◌≢◌, ◌⊎◌, ℕ, ◌+◌, ◌<◌, ◌≤◌, true, List, length, map, None}
use Rattle.std.specs.List.{range_with_len}
use Rattle.journal_model.specs.declared.entry.Content.{Content}
use Rattle.journal_model.specs.declared.entry.Content.TheVariants.{Copy, Direct}
use Rattle.log_model.specs.declared.log.Text.{Text}
use Rattle.journal_model.specs.declared.number.Area.{Area}
use Rattle.journal_model.specs.declared.number.Area.TheVariants.{Log, Home}
use Rattle.log_model.specs.Chain.{IsChain, IsDamaged, Ring, lap, place_from}
use Rattle.journal_model.specs.Disk.{Cell, Disk, Image, IsOneOf, Leaves, Shape, held}
use Rattle.journal_model.specs.Layout.{begins_with_magic, sequence_in}
use Rattle.log_model.specs.Opening.{HasChain, IsClean, IsDamagedImage, IsStarted, NothingAhead, Opens, OpensAs, layout_of, log_lap, ring_of, super_of}
use Rattle.log_model.specs.Opening.OpensAs.{Clean, Replayed}
use Rattle.log_model.specs.Replay.{HasNoLive, IsNewest, IsReplayed}
use Rattle.log_model.specs.Superblock.{super_in, super_refusal}
use Rattle.journal_model.specs.Transaction.{History, Volume, after, bytes_of}
use Rattle.log_model.proofs.Newest.{newest-same}
use Rattle.log_model.proofs.ReadingTexts.{one_chain_of}
use Rattle.log_model.specs.HomeChange.{HomeAddsOnly, IsRightlyHeld, OthersRightlyHeld}
use Rattle.journal_world.specs.Opening.{KeepsOpening, OpensAlways}
use Rattle.journal_world.specs.Sound.{durable_cell}
use Rattle.journal_world.proofs.Superblocks.{accepted-first}
use Rattle.std.proofs.lemmas.Bool.{cases_eq}
use Rattle.log_epochs.proofs.ReplayMoments.{IsHomeDone, IsReplaying}

-- a durable cell holds only what it reads
pub durable-one : (c : Cell) (u v : List ℕ) → c ≡ durable_cell u → IsOneOf (held c) v → v ≡ u
durable-one c u v is one = ⊎_elim (λ same. same) (λ none. absurd none) (subst (λ (d : Cell). IsOneOf (held d) v) is one)

-- the image with another home
abbrev pub with_home : Image → Volume → Image
with_home image home Log n = image Log n
with_home image home Home n = home n

-- two images have the same log
abbrev pub SameLog : Image → Image → Type 0
SameLog image other = (n : ℕ) → other Log n ≡ image Log n

-- images of one log have the same lap from a place
same-lap : (image other : Image) (r : Ring) (place : ℕ) → SameLog image other → lap r other place ≡ lap r image place
unfolding lap
same-lap image other r place same = each (range_with_len 0 r.blocks)
  where
    each : (ks : List ℕ) → map (λ k. other Log (place_from r place k)) ks ≡ map (λ k. image Log (place_from r place k)) ks
    each ks = simp same

-- images of one log have the same lap of the log
pub same-log_lap : (image other : Image) → SameLog image other → log_lap other ≡ log_lap image
same-log_lap image other same =
    same-lap image other (ring_of (super_of other)) (super_of other).s_start same
    ∙ ap (λ (block : List ℕ). lap (ring_of (super_in block)) image (super_in block).s_start) (same 0)

-- images of one log are started alike
same-started : (shape : Shape) (image other : Image) → SameLog image other → IsStarted shape image → IsStarted shape other
same-started shape image other same is = record {
  accepted = ap (super_refusal shape) (same 0) ∙ is.accepted;
  started = λ clean. is.started (sym (ap (λ (block : List ℕ). (super_in block).s_start) (same 0)) ∙ clean);
}

-- images of one log are damaged alike
same-damaged : (shape : Shape) (image other : Image) (k : ℕ) → SameLog image other → IsDamagedImage shape image k → IsDamagedImage shape other k
same-damaged shape image other k same is = record {
  started = same-started shape image other same is.started;
  damaged =
      subst (λ (blocks : List (List ℕ)). IsDamaged (layout_of (super_of other)) shape.home_blocks (super_of other).s_sequence blocks k)
      (sym (same-log_lap image other same))
      (subst (λ (block : List ℕ). IsDamaged (layout_of (super_in block)) shape.home_blocks (super_in block).s_sequence (log_lap image) k) (sym (same 0))
      is.damaged);
}

-- images of one log have the same chain
pub same-chain : (shape : Shape) (image other : Image) (texts : List Text) → SameLog image other → HasChain shape image texts → HasChain shape other texts
same-chain shape image other texts same has = record {
  started = same-started shape image other same has.started;
  chain =
      subst (λ (blocks : List (List ℕ)). IsChain (layout_of (super_of other)) shape.home_blocks (super_of other).s_sequence blocks texts)
      (sym (same-log_lap image other same))
      (subst (λ (block : List ℕ). IsChain (layout_of (super_in block)) shape.home_blocks (super_in block).s_sequence (log_lap image) texts) (sym (same 0))
      has.chain);
  undamaged = λ k damaged. has.undamaged k (same-damaged shape other image k (λ n. sym (same n)) damaged);
}

-- an image has one chain
pub one-chain : (shape : Shape) (image : Image) (texts others : List Text) → HasChain shape image texts → HasChain shape image others → others ≡ texts
one-chain shape image texts others has also =
    one_chain_of (layout_of (super_of image)) shape.home_blocks (omega arith) (super_of image).s_sequence (log_lap image) others texts also.chain has.chain

-- images of one log have the same blocks ahead
pub same-ahead : (image other : Image) (limit : ℕ) → SameLog image other → NothingAhead image limit → NothingAhead other limit
same-ahead image other limit same none place ahead =
    none place (record {
      low = subst (λ (block : List ℕ). (super_in block).s_first ≤ place) (same 0) ahead.low;
      high = subst (λ (block : List ℕ). place < (ring_of (super_in block)).first + (ring_of (super_in block)).blocks) (same 0) ahead.high;
      magic = subst (λ (block : List ℕ). begins_with_magic block ≡ true) (same place) ahead.magic;
      above = subst (λ (block : List ℕ). limit < sequence_in block) (same place) ahead.above;
    })

-- an image with a chain opens as the replay of that chain
pub record IsOpened (shape : Shape) (image : Image) (texts : List Text) (got : Volume) : Type 0 where
  pub none_ahead : NothingAhead image ((super_of image).s_sequence + length texts)
  pub replayed : IsReplayed shape.home_blocks texts (image Home) got

-- an image with a chain is opened by its replay
pub opened-by_chain : (shape : Shape) (image : Image) (texts : List Text) (got : Volume) → HasChain shape image texts → OpensAs shape image got → IsOpened shape image texts got
opened-by_chain shape image texts got has (Clean clean none same) = absurd (has.started.started clean.clean)
opened-by_chain shape image texts got has (Replayed others also none replayed) =
    let one : others ≡ texts = one-chain shape image texts others has also in
    record {
      none_ahead = subst (λ (ts : List Text). NothingAhead image ((super_of image).s_sequence + length ts)) one none;
      replayed = subst (λ (ts : List Text). IsReplayed shape.home_blocks ts (image Home) got) one replayed;
    }

-- a home block holds what it held, or its newest copy
abbrev pub IsKept : List Text → Disk → ℕ → List ℕ → Type 0
IsKept texts old b v = IsOneOf (held (old Home b)) v ⊎ IsNewest texts b v

-- a value that the old disk could have left there
pub before : (texts : List Text) (old : Disk) (b : ℕ) (v : List ℕ) → IsKept texts old b v → List ℕ
before texts old b v (inl was) = v
before texts old b v (inr newest) = (old Home b).reads

before-held : (texts : List Text) (old : Disk) (b : ℕ) (v : List ℕ) (kept : IsKept texts old b v) → IsOneOf (held (old Home b)) (before texts old b v kept)
unfolding before
before-held texts old b v (inl was) = was
before-held texts old b v (inr newest) = inl refl

-- a replay makes the same of a block, with or without its copy there
before-replayed : (texts : List Text) (old : Disk) (b : ℕ) (v got : List ℕ) (kept : IsKept texts old b v) →
    IsNewest texts b got ⊎ (HasNoLive texts b × (got ≡ before texts old b v kept)) → IsNewest texts b got ⊎ (HasNoLive texts b × (got ≡ v))
unfolding before
before-replayed texts old b v got (inl was) replayed = replayed
before-replayed texts old b v got (inr newest) (inl copy) = inl copy
before-replayed texts old b v got (inr newest) (inr none) = absurd (none.0 newest.i newest.k v newest.live)

-- that is what the transactions make of the block
before-recovered : (texts : List Text) (old : Disk) (b : ℕ) (v got : List ℕ) (content : Content) (kept : IsKept texts old b v) →
    IsNewest texts b got ⊎ (HasNoLive texts b × (got ≡ before texts old b v kept)) → got ≡ bytes_of content (before texts old b v kept) → got ≡ bytes_of content v
unfolding before
before-recovered texts old b v got (Copy w) kept replayed recovered = recovered
before-recovered texts old b v got Direct (inl was) replayed recovered = recovered
before-recovered texts old b v got Direct (inr newest) (inl copy) recovered = newest-same texts b got v copy newest
before-recovered texts old b v got Direct (inr newest) (inr none) recovered = absurd (none.0 newest.i newest.k v newest.live)

-- a home that the old disk could have left
abbrev pub home_before : (texts : List Text) (old : Disk) (home : Volume) → ((b : ℕ) → IsKept texts old b (home b)) → Volume
home_before texts old home kept b = before texts old b (home b) (kept b)

-- the old disk could have left an image with that home
pub leaves-before : (texts : List Text) (old : Disk) (image : Image) (home : Volume) (kept : (b : ℕ) → IsKept texts old b (home b)) →
    ((n : ℕ) → IsOneOf (held (old Log n)) (image Log n)) → Leaves old (with_home image (home_before texts old home kept))
leaves-before texts old image home kept log = record { each = each }
  where
    each : (a : Area) (n : ℕ) → IsOneOf (held (old a n)) (with_home image (home_before texts old home kept) a n)
    each Log n = log n
    each Home b = before-held texts old b (home b) (kept b)

-- an image with the old log, and old or newest values at home, opens as before
pub opens-copying : (shape : Shape) (texts : List Text) (old : Disk) (image : Image) (ts : History) (n : ℕ) →
    HasChain shape image texts → ((m : ℕ) → IsOneOf (held (old Log m)) (image Log m)) → ((b : ℕ) → IsKept texts old b (image Home b)) →
    OpensAlways shape ts n old → Opens shape ts n image
opens-copying shape texts old image ts n has log kept always =
    let other : Image = with_home image (home_before texts old (image Home) kept) in
    let first : Opens shape ts n other = always.each other (leaves-before texts old image (image Home) kept log) in
    let opened : IsOpened shape other texts first.got = opened-by_chain shape other texts first.got (same-chain shape image other texts (λ m. refl) has) first.opens in
    record {
      got = first.got;
      opens =
          Replayed texts has (same-ahead other image ((super_of image).s_sequence + length texts) (λ m. refl) opened.none_ahead)
          (λ b below. before-replayed texts old b (image Home b) (first.got b) (kept b) (opened.replayed b below));
      recovered =
          λ b below. before-recovered texts old b (image Home b) (first.got b) (after ts n b) (kept b) (opened.replayed b below) (first.recovered b below);
    }

-- block b is what the replay makes of what the old disk held
abbrev IsDoneAt : List Text → Disk → ℕ → List ℕ → Type 0
IsDoneAt texts old b v = IsNewest texts b v ⊎ (HasNoLive texts b × IsOneOf (held (old Home b)) v)

-- a replay of what the old disk could have left makes what is there
done-recovered : (texts : List Text) (old : Disk) (b : ℕ) (v got : List ℕ) (content : Content) (kept : IsKept texts old b v) →
    IsDoneAt texts old b v → IsNewest texts b got ⊎ (HasNoLive texts b × (got ≡ before texts old b v kept)) →
    got ≡ bytes_of content (before texts old b v kept) → v ≡ bytes_of content v
unfolding before
done-recovered texts old b v got Direct kept done replayed recovered = refl
done-recovered texts old b v got (Copy w) kept (inl newest) (inl copy) recovered = newest-same texts b v got newest copy ∙ recovered
done-recovered texts old b v got (Copy w) kept (inl newest) (inr none) recovered = absurd (none.0 newest.i newest.k v newest.live)
done-recovered texts old b v got (Copy w) kept (inr none) (inl copy) recovered = absurd (none.0 copy.i copy.k got copy.live)
done-recovered texts old b v got (Copy w) (inl was) (inr none) (inr also) recovered = sym also.1 ∙ recovered
done-recovered texts old b v got (Copy w) (inr newest) (inr none) (inr also) recovered = absurd (none.0 newest.i newest.k v newest.live)

-- an image with a clean log, nothing ahead and a replayed home opens as before
pub opens-done : (shape : Shape) (texts : List Text) (old : Disk) (log image : Image) (ts : History) (n : ℕ) →
    HasChain shape log texts → ((m : ℕ) → IsOneOf (held (old Log m)) (log Log m)) →
    IsClean shape image → NothingAhead image (super_of image).s_sequence →
    ((b : ℕ) → IsKept texts old b (image Home b)) → ((b : ℕ) → b < shape.home_blocks → IsDoneAt texts old b (image Home b)) →
    OpensAlways shape ts n old → Opens shape ts n image
opens-done shape texts old log image ts n has was clean none kept done always =
    let other : Image = with_home log (home_before texts old (image Home) kept) in
    let first : Opens shape ts n other = always.each other (leaves-before texts old log (image Home) kept was) in
    let opened : IsOpened shape other texts first.got = opened-by_chain shape other texts first.got (same-chain shape log other texts (λ m. refl) has) first.opens in
    record {
      got = image Home;
      opens = Clean clean none (λ b below. refl);
      recovered =
          λ b below. done-recovered texts old b (image Home b) (first.got b) (after ts n b) (kept b) (done b below)
          (opened.replayed b below) (first.recovered b below);
    }

-- the premises of a replay: the log was read and flushed, with this chain, and the new superblock is a clean one of its
-- ring
pub record IsReadyFor (shape : Shape) (texts : List Text) (superblock : List ℕ) (read : Image) (old : Disk) : Type 0 where
  pub has : HasChain shape read texts
  pub durable : (m : ℕ) (v : List ℕ) → IsOneOf (held (old Log m)) v → v ≡ read Log m
  pub reads : (m : ℕ) → IsOneOf (held (old Log m)) (read Log m)
  pub accepted : super_refusal shape superblock ≡ None
  pub clean : (super_in superblock).s_start ≡ 0
  pub ring : ring_of (super_in superblock) ≡ ring_of (super_of read)
  pub none_ahead : NothingAhead read (super_in superblock).s_sequence

-- another block 0 of the same ring leaves nothing ahead
ahead-other : (read image : Image) (superblock : List ℕ) → image Log 0 ≡ superblock → ((m : ℕ) → m ≢ 0 → image Log m ≡ read Log m) →
    0 < (ring_of (super_in superblock)).first → ring_of (super_in superblock) ≡ ring_of (super_of read) →
    NothingAhead read (super_in superblock).s_sequence → NothingAhead image (super_of image).s_sequence
ahead-other read image superblock first others above ring none place ahead =
    let low : (ring_of (super_in superblock)).first ≤ place = subst (λ (block : List ℕ). (super_in block).s_first ≤ place) first ahead.low in
    let high : place < (ring_of (super_in superblock)).first + (ring_of (super_in superblock)).blocks =
    subst (λ (block : List ℕ). place < (ring_of (super_in block)).first + (ring_of (super_in block)).blocks) first ahead.high in
    let same : image Log place ≡ read Log place = others place (λ none. let zero : place ≡ 0 = none in omega arith) in
    none place (record {
      low = subst (λ (r : Ring). r.first ≤ place) ring low;
      high = subst (λ (r : Ring). place < r.first + r.blocks) ring high;
      magic = subst (λ (block : List ℕ). begins_with_magic block ≡ true) same ahead.magic;
      above =
          subst (λ (block : List ℕ). (super_in superblock).s_sequence < sequence_in block) same
          (subst (λ (block : List ℕ). (super_in block).s_sequence < sequence_in (image Log place)) first ahead.above);
    })

-- a block that is not written holds only what it held
held-kept : (old c : Cell) (v : List ℕ) → (c ≡ old) ⊎ (c ≡ durable_cell old.reads) → IsOneOf (held c) v → IsOneOf (held old) v
held-kept old c v (inl same) one = subst (λ (d : Cell). IsOneOf (held d) v) same one
held-kept old c v (inr durable) one = inl (durable-one c old.reads v durable one)

-- the log holds only what it held, except in block 0
pub log-held : (count : ℕ) (texts : List Text) (superblock : List ℕ) (old disk : Disk) (n : ℕ) (v : List ℕ) → IsReplaying count texts superblock old disk →
    n ≢ 0 → IsOneOf (held (disk Log n)) v → IsOneOf (held (old Log n)) v
log-held count texts superblock old disk n v is other one = held-kept (old Log n) (disk Log n) v (is.log n other) one

-- what home may hold during a replay
pub kept-home : (texts : List Text) (old disk : Disk) (image : Image) → HomeAddsOnly (IsNewest texts) old disk → Leaves disk image →
    (b : ℕ) → IsKept texts old b (image Home b)
kept-home texts old disk image adds leaves b = adds.left b (image Home b) (leaves.each Home b)

-- what the log may hold during a replay, except a new block 0
pub kept-log : (count : ℕ) (texts : List Text) (superblock : List ℕ) (old disk : Disk) (image : Image) → IsReplaying count texts superblock old disk →
    Leaves disk image → IsOneOf (held (old Log 0)) (image Log 0) → (m : ℕ) → IsOneOf (held (old Log m)) (image Log m)
kept-log count texts superblock old disk image is leaves first m =
    elim (cases_eq m 0) [
      | inl zero ↦ subst (λ (k : ℕ). IsOneOf (held (old Log k)) (image Log k)) (sym zero) first
      | inr other ↦ log-held count texts superblock old disk m (image Log m) is other (leaves.each Log m)
    ]

-- during a replay and its end each image opens as before
pub opens-replaying : (shape : Shape) (texts : List Text) (superblock : List ℕ) (read : Image) (old disk : Disk) →
    IsReadyFor shape texts superblock read old → IsReplaying shape.home_blocks texts superblock old disk → KeepsOpening shape old disk
opens-replaying shape texts superblock read old disk ready is = record {
  keeps = λ ts n always. record { each = λ image leaves. opened ts n always image leaves (is.block_0 (image Log 0) (leaves.each Log 0)) };
}
  where
    opened : (ts : History) (n : ℕ) → OpensAlways shape ts n old → (image : Image) → Leaves disk image →
        IsOneOf (held (old Log 0)) (image Log 0) ⊎ ((image Log 0 ≡ superblock) × IsHomeDone shape.home_blocks texts old disk) → Opens shape ts n image
    opened ts n always image leaves (inl first) =
        let log = kept-log shape.home_blocks texts superblock old disk image is leaves first in
        opens-copying shape texts old image ts n (same-chain shape read image texts (λ m. ready.durable m (image Log m) (log m)) ready.has) log
        (kept-home texts old disk image is.home leaves) always
    opened ts n always image leaves (inr (first, done)) =
        opens-done shape texts old read image ts n ready.has ready.reads
        (record {
          accepted = ap (super_refusal shape) first ∙ ready.accepted;
          clean = ap (λ (block : List ℕ). (super_in block).s_start) first ∙ ready.clean;
        })
        (ahead-other read image superblock first
        (λ m other.
        ready.durable m (image Log m) (log-held shape.home_blocks texts superblock old disk m (image Log m) is other (leaves.each Log m)))
        (accepted-first shape superblock ready.accepted) ready.ring ready.none_ahead)
        (kept-home texts old disk image is.home leaves)
        (λ b below. done b (image Home b) below (leaves.each Home b)) always

-- a block left to home holds what could have been left there before
pub direct-same : (texts : List Text) (old : Disk) (b : ℕ) (v got : List ℕ) (kept : IsKept texts old b v) →
    IsNewest texts b got ⊎ (HasNoLive texts b × (got ≡ before texts old b v kept)) → got ≡ before texts old b v kept → before texts old b v kept ≡ v
unfolding before
direct-same texts old b v got (inl was) replayed recovered = refl
direct-same texts old b v got (inr newest) (inl copy) recovered = sym recovered ∙ newest-same texts b got v copy newest
direct-same texts old b v got (inr newest) (inr none) recovered = absurd (none.0 newest.i newest.k v newest.live)

-- blocks that the transactions leave to home keep permitted values
pub others-copying : (shape : Shape) (texts : List Text) (old opening : Disk) (directs : List (ℕ × List ℕ)) (log image : Image) (ts : History) (n : ℕ) →
    HasChain shape log texts → ((m : ℕ) → IsOneOf (held (old Log m)) (log Log m)) → ((b : ℕ) → IsKept texts old b (image Home b)) →
    OpensAlways shape ts n old → ((other : Image) → Leaves old other → OthersRightlyHeld shape.home_blocks opening directs ts n (other Home)) →
    OthersRightlyHeld shape.home_blocks opening directs ts n (image Home)
others-copying shape texts old opening directs log image ts n has was kept always rightly b below direct =
    let other : Image = with_home log (home_before texts old (image Home) kept) in
    let leaves = leaves-before texts old log (image Home) kept was in
    let first : Opens shape ts n other = always.each other leaves in
    let opened : IsOpened shape other texts first.got = opened-by_chain shape other texts first.got (same-chain shape log other texts (λ m. refl) has) first.opens in
    let left : first.got b ≡ before texts old b (image Home b) (kept b) =
    first.recovered b below ∙ ap (λ (c : Content). bytes_of c (before texts old b (image Home b) (kept b))) direct in
    subst (IsRightlyHeld opening directs ts n b) (direct-same texts old b (image Home b) (first.got b) (kept b) (opened.replayed b below) left)
    (rightly other leaves b below direct)
