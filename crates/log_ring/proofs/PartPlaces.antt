-- Which part of a transaction stands at which place.
use Rattle.std.proofs.Common.{arith, sym, ap, ap₂, subst, ◌∙◌, length-append, mod-lt}
use Rattle.std.specs.Prelude.{◌≡◌, ℕ, ◌+◌, ◌-◌, ◌*◌, ◌/◌, ◌%◌, ◌<◌, List, [], ◌∷◌, ◌++◌, length, map, min, Some, slice_get}
use Rattle.std.specs.List.{range_with_len}
use Rattle.std.specs.Option.{option_map}
use Rattle.std.proofs.lemmas.Option.{slice_get-get_or, slice_get-map}
use Rattle.std.proofs.lemmas.List.{length-map}
use Rattle.std.proofs.lemmas.List.FromFn.{get_or-range_with_len}
use Rattle.std.proofs.lemmas.Nat.{div-add-mod'}
use Rattle.journal_model.specs.declared.entry.Entry.{Entry}
use Rattle.journal_model.specs.Layout.{IsLayout, Layout, numbers_of, tags_of}
use Rattle.journal_model.specs.Transaction.{copied, revoked}
use Rattle.log_model.specs.OwnText.{ceil_div, groups, own_text}
use Rattle.log_model.specs.Text.{text_blocks}
use Rattle.journal_model.proofs.ListElements.{get-behind, get-front}
use Rattle.log_model.proofs.OwnTextGroups.{begins_within, length-groups}
use Rattle.log_ring.specs.declared.layout.Part.{Part}
use Rattle.log_ring.specs.declared.layout.Part.TheVariants.{Revokes, Descriptor, Copy, Commit}
use Rattle.log_ring.specs.Parts.{part_block, copy_parts, descriptor_part, parts, revoke_part, revoke_parts}
use Rattle.log_ring.proofs.Grouped.{each-at, first-at, grouped, place-within}
use Rattle.log_ring.proofs.OwnParts.{length-parts, own-parts}
use Rattle.log_ring.proofs.Rows.{group-at, part-row, row-first, row-length}

-- there are as many revoke blocks as groups of revokes
pub length-revoke_parts : (l : Layout) (r : ℕ) → length (revoke_parts l r) ≡ ceil_div r (numbers_of l)
length-revoke_parts l r =
    length-map (groups (numbers_of l) (range_with_len 0 r)) revoke_part
    ∙ length-groups (numbers_of l) (range_with_len 0 r)
    ∙ ap (λ (n : ℕ). ceil_div n (numbers_of l)) (row-length 0 r)

-- the blocks between are copies and descriptors
pub length-copy_parts : (l : Layout) (c : ℕ) → IsLayout l → length (copy_parts l c) ≡ c + ceil_div c (tags_of l)
length-copy_parts l c layout =
    let all = length-parts l c 0 layout in
    let revokes = length-revoke_parts l 0 in
    let sum = length-append (revoke_parts l 0) (copy_parts l c) in
    let rest = length-append (revoke_parts l 0 ++ copy_parts l c) (Commit ∷ []) in
    omega arith

-- the number at a place of a row
row-at : (c at : ℕ) → at < c → slice_get (range_with_len 0 c) at ≡ Some at
row-at c at below =
    slice_get-get_or (range_with_len 0 c) at 0 (subst (λ (m : ℕ). at < m) (sym (row-length 0 c)) below)
    ∙ ap Some (get_or-range_with_len 0 c at 0 below ∙ (omega arith))

-- a row makes a revoke block or descriptor of its first number and length
row-revokes : (a m : ℕ) → 0 < m → revoke_part (range_with_len a m) ≡ Revokes a m
row-revokes a m some = ap₂ Revokes (row-first a m some) (row-length a m)

row-descriptor : (a m : ℕ) → 0 < m → descriptor_part (range_with_len a m) ≡ Descriptor a m
row-descriptor a m some = ap₂ Descriptor (row-first a m some) (row-length a m)

-- the first number of revoke block k is that of a revoke
pub revoke-within : (l : Layout) (r k most first : ℕ) → most ≡ numbers_of l → 0 < most → first ≡ k * most → k < ceil_div r (numbers_of l) → first < r
revoke-within l r k most first most_is positive begins below =
    let n = numbers_of l in
    let within = begins_within r n k (omega arith) below in
    let same : first ≡ n * k = (omega (arith, ap (λ (m : ℕ). k * m) most_is)) in
    omega arith

-- revoke block k
pub revokes-at : (l : Layout) (r k most first : ℕ) → most ≡ numbers_of l → 0 < most → first ≡ k * most → k < ceil_div r (numbers_of l) →
    slice_get (revoke_parts l r) k ≡ Some (Revokes first (min most (r - first)))
revokes-at l r k most first most_is positive begins below =
    let n = numbers_of l in
    let within = begins_within r n k (omega arith) below in
    let count = row-length 0 r in
    let same : first ≡ n * k = (omega (arith, ap (λ (m : ℕ). k * m) most_is)) in
    slice_get-map revoke_part (groups n (range_with_len 0 r)) k
    ∙ ap (option_map revoke_part) (group-at n k (range_with_len 0 r) (subst (λ (c : ℕ). k < ceil_div c n) (sym count) below) ∙ ap Some (part-row n (n * k) r))
    ∙ ap Some (row-revokes (n * k) (min n (r - n * k)) (omega arith))
    ∙ ap₂ (λ (x y : ℕ). Some (Revokes x (min y (r - x)))) (sym same) (sym most_is)

module _ (l : Layout) (c : ℕ) (layout : IsLayout l) (k most : ℕ) (most_is : most ≡ tags_of l) (some : 0 < most) (there : k < c + ceil_div c (tags_of l)) where
  -- the group of block k, and its place there, 0 for the descriptor
  abbrev group : ℕ
  group = k / (most + 1)

  abbrev place : ℕ
  place = k % (most + 1)

  -- group and place give the block
  split : k ≡ group * (most + 1) + place
  split = sym (div-add-mod' k (most + 1))

  -- a group with its descriptor has no further place
  lies : place < most + 1
  lies = mod-lt k (omega arith)

  -- the blocks, with the number of tags at hand
  abbrev blocks : List Part
  blocks = grouped descriptor_part Copy most (range_with_len 0 c)

  same-blocks : copy_parts l c ≡ blocks
  same-blocks = ap (λ (n : ℕ). grouped descriptor_part Copy n (range_with_len 0 c)) (sym most_is)

  -- the copy at the place, or the first of the descriptor's, is there
  pub copy-within : group * most + (place - 1) < c
  copy-within =
      let below : k < length (copy_parts l c) = subst (λ (m : ℕ). k < m) (sym (length-copy_parts l c layout)) there in
      let within : k < length blocks = subst (λ (ps : List Part). k < length ps) same-blocks below in
      subst (λ (m : ℕ). group * most + (place - 1) < m) (row-length 0 c)
      (place-within descriptor_part Copy most some group place k (range_with_len 0 c) split lies within)

  -- at place 0 stands the descriptor of the group
  pub descriptor-here : (first : ℕ) → first ≡ group * most → place ≡ 0 →
      slice_get (copy_parts l c) k ≡ Some (Descriptor first (min most (c - first)))
  descriptor-here first begins at_first =
      let within = copy-within in
      let apart = split in
      let count = row-length 0 c in
      ap (λ (ps : List Part). slice_get ps k) same-blocks
      ∙ first-at descriptor_part Copy most some group first k (range_with_len 0 c) begins (omega arith) (omega arith)
      ∙ ap (λ (g : List ℕ). Some (descriptor_part g)) (part-row most first c)
      ∙ ap Some (row-descriptor first (min most (c - first)) (omega arith))

  -- at another place stands a copy
  pub copy-here : (at : ℕ) → at ≡ group * most + (place - 1) → 0 < place → slice_get (copy_parts l c) k ≡ Some (Copy at)
  copy-here at is behind =
      let within = copy-within in
      let apart = split in
      let below = lies in
      ap (λ (ps : List Part). slice_get ps k) same-blocks
      ∙ each-at descriptor_part Copy most some group (place - 1) at k (range_with_len 0 c) at is (omega arith) (omega arith) (row-at c at (omega arith))

module _ (l : Layout) (c r k : ℕ) (layout : IsLayout l) where
  -- the blocks before the commit block
  abbrev before : List Part
  before = revoke_parts l r ++ copy_parts l c

  length-before : length before ≡ ceil_div r (numbers_of l) + (c + ceil_div c (tags_of l))
  length-before =
      length-append (revoke_parts l r) (copy_parts l c) ∙ ap₂ (λ (m n : ℕ). m + n) (length-revoke_parts l r) (length-copy_parts l c layout)

  -- a revoke block stands first
  pub revoke-stands : (p : Part) → k < ceil_div r (numbers_of l) → slice_get (revoke_parts l r) k ≡ Some p → slice_get (parts l c r) k ≡ Some p
  revoke-stands p below stands =
      let count = length-revoke_parts l r in
      let all = length-before in
      get-front before (Commit ∷ []) k (omega arith) ∙ get-front (revoke_parts l r) (copy_parts l c) k (omega arith) ∙ stands

  -- descriptors and copies stand after them
  pub copy-stands : (p : Part) (j : ℕ) → k ≡ ceil_div r (numbers_of l) + j → j < c + ceil_div c (tags_of l) →
      slice_get (copy_parts l c) j ≡ Some p → slice_get (parts l c r) k ≡ Some p
  copy-stands p j place below stands =
      let count = length-revoke_parts l r in
      let all = length-before in
      get-front before (Commit ∷ []) k (omega arith) ∙ get-behind (revoke_parts l r) (copy_parts l c) k j (omega arith) ∙ stands

  -- the commit block is the last
  pub commit-stands : k ≡ ceil_div r (numbers_of l) + (c + ceil_div c (tags_of l)) → slice_get (parts l c r) k ≡ Some Commit
  commit-stands last = let all = length-before in get-behind before (Commit ∷ []) k 0 (omega arith)

-- the own text's block at a place is that of the part there
pub text-at : (l : Layout) (uuid : List ℕ) (sequence : ℕ) (entries : List (ℕ × Entry)) (c r k : ℕ) (p : Part) →
    length (copied entries) ≡ c → length (revoked entries) ≡ r → slice_get (parts l c r) k ≡ Some p →
    slice_get (text_blocks (own_text l uuid sequence entries)) k ≡ Some (part_block l uuid sequence entries p)
text-at l uuid sequence entries c r k p copies revokes stands =
    let block_of : Part → List ℕ = part_block l uuid sequence entries in
    ap (λ (bs : List (List ℕ)). slice_get bs k)
    (own-parts l uuid sequence entries ∙ ap₂ (λ (m n : ℕ). map block_of (parts l m n)) copies revokes)
    ∙ slice_get-map block_of (parts l c r) k
    ∙ ap (option_map block_of) stands
