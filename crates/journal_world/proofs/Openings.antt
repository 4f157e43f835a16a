-- Images that open: a clean log, and a log with the texts of batches.
use Rattle.std.proofs.Common.{◌≡◌, ℕ, suc, ◌+◌, ◌-◌, ◌<◌, ◌≤◌, List, [], ◌++◌, length, length-take, map, take, arith, refl, sym, ◌∙◌, subst, ap, ap₂}
use Rattle.std.specs.List.{AllByRecursion, range_with_len}
use Rattle.std.proofs.lemmas.List.{length-map}
use Rattle.journal_model.specs.declared.entry.Batch.{Batch}
use Rattle.log_model.specs.declared.log.Text.{Text}
use Rattle.journal_model.specs.declared.number.Area.TheVariants.{Log, Home}
use Rattle.log_model.specs.Chain.{AreTexts, IsAhead, IsChain, IsDamaged, Ring, lap, place_from, texts_blocks, ring_place}
use Rattle.journal_model.specs.Disk.{Image, Shape}
use Rattle.journal_model.specs.Layout.{IsLayout, Layout, uuid_bytes}
use Rattle.log_model.specs.Opening.{HasChain, IsClean, IsStarted, NothingAhead, OpensAs, greatest_number, layout_of, log_lap, super_of}
use Rattle.log_model.specs.Opening.HasLimit.{OfClean}
use Rattle.log_model.specs.Opening.OpensAs.{Clean, Replayed}
use Rattle.log_model.specs.OwnText.{own_text}
use Rattle.journal_model.specs.Transaction.{History, bytes_of, content_of, last_effect}
use Rattle.journal_world.specs.Engine.{AreBatchesOf, IsBatch, block_at}
use Rattle.journal_world.specs.Opening.{IsBehind, IsSuperblock, NamesNothing}
use Rattle.journal_world.specs.Sound.{AreNumberedFrom, BeginsAt, OpensTo}
use Rattle.journal_world.proofs.Superblocks.{first-above}
use Rattle.journal_world.proofs.Around.{place-lap}
use Rattle.journal_world.proofs.Batches.{batches-own, batches-take, none-below, numbered-take, texts_of}
use Rattle.journal_world.proofs.Chains.{IsNotDue, chain-of, no-damage}
use Rattle.journal_world.proofs.Elements.{all-take}
use Rattle.journal_world.proofs.Laps.{all-range, range-front}
use Rattle.journal_world.proofs.OwnBlocks.{own-texts}
use Rattle.journal_world.proofs.Places.{place-below}
use Rattle.journal_world.proofs.Replayed.{own-replayed}

-- a place of the ring is that of a ring block
ring-place : (r : Ring) (place : ℕ) → r.first ≤ place → place < r.first + r.blocks → ring_place r (place - r.first) ≡ place
ring-place r place low high =
    place-below r (place - r.first) (omega arith) ∙ omega arith

-- if each ring block is below a number, none is ahead of the one before
none-ahead : (r : Ring) (image : Image) (limit : ℕ) → ((k : ℕ) → k < r.blocks → IsBehind (suc limit) (image Log (ring_place r k))) →
    (place : ℕ) → IsAhead r image limit place → ⊥
none-ahead r image limit each place a =
    let low : r.first ≤ place = a.low in
    let high : place < r.first + r.blocks = a.high in
    let here : IsBehind (suc limit) (image Log place) =
    subst (λ p. IsBehind (suc limit) (image Log p)) (ring-place r place low high) (each (place - r.first) (omega arith)) in
    let below = here.below a.magic in
    let above = a.above in
    omega arith

-- the same of the ring that the image names
nothing-ahead : {l : Layout} (shape : Shape) (r : Ring) (image : Image) (limit : ℕ) → IsSuperblock shape l r (image Log 0) →
    ((k : ℕ) → k < r.blocks → IsBehind (suc limit) (image Log (ring_place r k))) → NothingAhead image limit
nothing-ahead shape r image limit is each place a = none-ahead r image limit each place (subst (λ x. IsAhead x image limit place) is.ring_is a)

-- a clean log with ring blocks below the first number opens to none
pub clean-opens : {l : Layout} (shape : Shape) (r : Ring) (first : ℕ) (bs : List Batch) (image : Image) → NamesNothing shape l r first (image Log 0) →
    ((k : ℕ) → k < r.blocks → IsBehind first (image Log (ring_place r k))) → AreNumberedFrom first bs → OpensTo shape bs image 0
clean-opens shape r first bs image names each numbered =
    let clean : IsClean shape image = record { accepted = names.is_superblock.accepted; clean = names.clean } in
    let sequence : ℕ = (super_of image).s_sequence in
    let low : first ≤ (super_of image).s_sequence + 1 = names.low in
    let high : (super_of image).s_sequence ≤ first = names.high in
    record {
      opens = λ ts are. record {
        got = image Home;
        opens = Clean clean
            (nothing-ahead shape r image sequence names.is_superblock (λ k h. record { below = λ m. let b = (each k h).below m in omega arith }))
            (λ b h. refl);
        recovered = λ b h. refl;
      };
      count = λ ts are. record {
        limit = sequence;
        has = OfClean clean;
        count = sym (none-below first sequence ts bs high numbered are);
      };
    }

-- the log has these texts from a position on, then no due block, and none above the number next
pub record HoldsTexts (l : Layout) (shape : Shape) (r : Ring) (image : Image) (from : ℕ) (texts : List Text) (next : ℕ) : Type 0 where
  pub fits : length (texts_blocks texts) ≤ r.blocks
  pub front : (k : ℕ) → k < length (texts_blocks texts) → image Log (ring_place r (from + k)) ≡ block_at (texts_blocks texts) k
  pub rest : (k : ℕ) → length (texts_blocks texts) ≤ k → k < r.blocks →
      IsNotDue l shape.home_blocks next (image Log (ring_place r (from + k)))
  pub each : (k : ℕ) → k < r.blocks → IsBehind (suc next) (image Log (ring_place r k))

-- the ring block at a number, counted from a position
abbrev ring_block : Ring → Image → ℕ → ℕ → List ℕ
ring_block r image from k = image Log (place_from r (ring_place r from) k)

-- its place is that of the position k later
ring-block : (r : Ring) (image : Image) (from k : ℕ) → ring_block r image from k ≡ image Log (ring_place r (from + k))
ring-block r image from k = ap (image Log) (place-lap r from k)

-- the blocks of the lap after the first k
abbrev rest_of : Ring → Image → ℕ → ℕ → List (List ℕ)
rest_of r image from taken = map (ring_block r image from) (range_with_len (0 + taken) (r.blocks - taken))

-- the lap from a position on begins with the blocks at its places
lap-split : (r : Ring) (image : Image) (from : ℕ) (blocks : List (List ℕ)) → length blocks ≤ r.blocks →
    ((k : ℕ) → k < length blocks → image Log (ring_place r (from + k)) ≡ block_at blocks k) →
    lap r image (ring_place r from) ≡ blocks ++ rest_of r image from (length blocks)
unfolding lap
lap-split r image from blocks fits front =
    range-front [] (ring_block r image from) blocks 0 r.blocks fits
    (λ k h. ap (ring_block r image from) (omega arith) ∙ ring-block r image from k ∙ front k h)

-- none of the blocks after the texts is due
rest-not_due : (l : Layout) (shape : Shape) (r : Ring) (image : Image) (from : ℕ) (texts : List Text) (next : ℕ) → HoldsTexts l shape r image from texts next →
    AllByRecursion (IsNotDue l shape.home_blocks next) (rest_of r image from (length (texts_blocks texts)))
rest-not_due l shape r image from texts next holds =
    let fits : length (texts_blocks texts) ≤ r.blocks = holds.fits in
    all-range (IsNotDue l shape.home_blocks next) (ring_block r image from)
    (0 + length (texts_blocks texts)) (r.blocks - length (texts_blocks texts))
    (λ k low high.
    subst (IsNotDue l shape.home_blocks next) (sym (ring-block r image from k)) (holds.rest k (omega arith) (omega arith)))

-- the lap of a log that begins at a position
lap-tail : {l : Layout} (shape : Shape) (r : Ring) (first from : ℕ) (image : Image) → BeginsAt shape l r first from (image Log 0) →
    log_lap image ≡ lap r image (ring_place r from)
lap-tail shape r first from image names = ap₂ (λ x place. lap x image place) names.is_superblock.ring_is names.start

-- such a log is started
started-tail : {l : Layout} (shape : Shape) (r : Ring) (first from : ℕ) (image : Image) → BeginsAt shape l r first from (image Log 0) → IsStarted shape image
started-tail shape r first from image names =
    let some : 0 < r.first = first-above shape r (image Log 0) names.is_superblock in
    let start : (super_of image).s_start ≡ ring_place r from = names.start in
    record { accepted = names.is_superblock.accepted; started = λ none. omega arith }

-- numbers have some bytes
some-bytes : (l : Layout) → IsLayout l → 0 < l.number_bytes
some-bytes l is = let bytes = is.1 in grind arith

-- the texts are its chain, and there is no damage
holds-chain : (l : Layout) (shape : Shape) (r : Ring) (first from : ℕ) (image : Image) (texts : List Text) → IsLayout l → layout_of (super_of image) ≡ l →
    BeginsAt shape l r first from (image Log 0) → AreTexts l shape.home_blocks first texts → HoldsTexts l shape r image from texts (first + length texts) →
    HasChain shape image texts
holds-chain l shape r first from image texts is layout names are holds =
    let blocks : List (List ℕ) = log_lap image in
    let rest : List (List ℕ) = rest_of r image from (length (texts_blocks texts)) in
    let split : blocks ≡ texts_blocks texts ++ rest =
    lap-tail shape r first from image names ∙ lap-split r image from (texts_blocks texts) holds.fits holds.front in
    let none = rest-not_due l shape r image from texts (first + length texts) holds in
    let chain : IsChain l shape.home_blocks first blocks texts = chain-of l shape.home_blocks first blocks texts rest (some-bytes l is) split are none in
    record {
      started = started-tail shape r first from image names;
      chain =
          subst (λ s. IsChain (layout_of (super_of image)) shape.home_blocks s blocks texts) (sym names.sequence)
          (subst (λ x. IsChain x shape.home_blocks first blocks texts) (sym layout) chain);
      undamaged = λ k d.
          no-damage l shape.home_blocks first blocks texts rest (some-bytes l is) split are none k
          (subst (λ x. IsDamaged x shape.home_blocks first blocks k) layout
          (subst (λ s. IsDamaged (layout_of (super_of image)) shape.home_blocks s blocks k) names.sequence d.damaged));
    }

-- the chain ends before the number next, and its replay does what the first n batches do
pub record ChainOpens (shape : Shape) (image : Image) (bs : List Batch) (n next : ℕ) : Type 0 where
  pub texts : List Text
  pub has : HasChain shape image texts
  pub limit : (super_of image).s_sequence + length texts ≡ next
  pub opens : (ts : History) → AreBatchesOf ts bs → OpensAs shape image (λ b. bytes_of (content_of (last_effect b (take n ts))) (image Home b))

-- a started log with the texts of the first n batches opens so
pub chain-opens : (l : Layout) (shape : Shape) (r : Ring) (uuid : List ℕ) (first from n : ℕ) (bs : List Batch) (image : Image) →
    IsLayout l → layout_of (super_of image) ≡ l → BeginsAt shape l r first from (image Log 0) → length uuid ≡ uuid_bytes → AllByRecursion (IsBatch l shape) bs → AreNumberedFrom first bs →
    first + length bs ≤ greatest_number + 1 → n ≤ length bs → HoldsTexts l shape r image from (texts_of l uuid (take n bs)) (first + n) →
    ChainOpens shape image bs n (first + n)
chain-opens l shape r uuid first from n bs image layout same names size each numbered least few holds =
    let texts : List Text = texts_of l uuid (take n bs) in
    let taken : length (take n bs) ≡ n = length-take n bs ∙ omega arith in
    let count : length texts ≡ n = length-map (take n bs) (λ b. own_text l uuid b.tid b.entries) ∙ taken in
    let own = batches-own l shape uuid first (take n bs) layout size (all-take (IsBatch l shape) n bs each) (numbered-take first n bs numbered) (omega arith) in
    let are : AreTexts l shape.home_blocks first texts = own-texts l shape.home_blocks first texts own in
    let has : HasChain shape image texts =
    holds-chain l shape r first from image texts layout same names are (subst (λ m. HoldsTexts l shape r image from texts (first + m)) (sym count) holds) in
    let sequence : (super_of image).s_sequence ≡ first = names.sequence in
    let limit : (super_of image).s_sequence + length texts ≡ first + n = omega arith in
    record {
      texts = texts;
      has = has;
      limit = limit;
      opens = λ ts are_of.
          Replayed texts has
          (nothing-ahead shape r image ((super_of image).s_sequence + length texts) names.is_superblock
          (λ k h. subst (λ m. IsBehind (suc m) (image Log (ring_place r k))) (sym limit) (holds.each k h)))
          (own-replayed shape.home_blocks l uuid (take n ts) (take n bs) (image Home) layout (batches-take n ts bs are_of));
    }
