-- The own text of a transaction has the same blocks as its layout.
use Rattle.std.proofs.Common.{arith, refl, sym, ap, ap₂, ◌∙◌}
use Rattle.std.specs.Prelude.{◌≡◌, ℕ, zero, suc, ◌+◌, ◌-◌, ◌*◌, true, List, [], ◌∷◌, ◌++◌, length, map, min, take, drop, unwrap_or, slice_get}
use Rattle.std.specs.List.{flat_map, range_with_len}
use Rattle.std.proofs.lemmas.Grind.{flat_map-append}
use Rattle.std.proofs.lemmas.List.{length-map, map-append}
use Rattle.journal_model.specs.declared.entry.Entry.{Entry}
use Rattle.journal_model.specs.declared.entry.Entry.TheVariants.{Copy as CopyEntry, Revoke}
use Rattle.log_model.specs.declared.log.Piece.{Piece}
use Rattle.log_model.specs.Descriptor.{descriptor_block}
use Rattle.log_model.specs.Escape.{escaped}
use Rattle.journal_model.specs.Layout.{IsLayout, Layout, numbers_of, tags_of}
use Rattle.journal_model.specs.Transaction.{copied, revoked}
use Rattle.log_model.specs.OwnText.{ceil_div, commit_block, groups, own_copies, own_revokes, own_text, tags_from}
use Rattle.log_model.specs.RevokeBlock.{revoke_block}
use Rattle.log_model.specs.Room.{need}
use Rattle.log_model.specs.Text.{piece_blocks, text_blocks}
use Rattle.log_model.proofs.OwnTextWhole.{length_own_text}
use Rattle.log_ring.specs.declared.layout.Part.{Part}
use Rattle.log_ring.specs.declared.layout.Part.TheVariants.{Copy, Commit}
use Rattle.log_ring.specs.Parts.{copy_parts, described, part_block, parts, revoke_part, revoke_parts}
use Rattle.log_ring.proofs.Rows.{part-row, row-each, row-length, row-named, row-part}

-- groups of a list and groups of its numbers make the same, if they agree at each place
groups-alike : {X Y : Type 0} (f : List X → List Y) (g : List ℕ → List Y) (n : ℕ) (xs : List X) →
    ((k : ℕ) → f (take n (drop (n * k) xs)) ≡ g (range_with_len (n * k) (min n (length xs - n * k)))) →
    flat_map f (groups n xs) ≡ flat_map g (groups n (range_with_len 0 (length xs)))
unfolding groups
groups-alike f g n xs alike =
    each 0 (ceil_div (length xs) n)
    ∙ ap (λ (m : ℕ). flat_map g (map (λ k. take n (drop (n * k) (range_with_len 0 (length xs)))) (range_with_len 0 (ceil_div m n))))
    (sym (row-length 0 (length xs)))
  where
    each : (a m : ℕ) → flat_map f (map (λ k. take n (drop (n * k) xs)) (range_with_len a m))
        ≡ flat_map g (map (λ k. take n (drop (n * k) (range_with_len 0 (length xs)))) (range_with_len a m))
    each a zero = refl
    each a (suc m) = ap₂ (λ ys zs. ys ++ zs) (alike a ∙ ap g (sym (part-row n (n * a) (length xs)))) (each (a + 1) m)

module _ (l : Layout) (uuid : List ℕ) (sequence : ℕ) (entries : List (ℕ × Entry)) where
  -- the bytes of a part
  abbrev block_of : Part → List ℕ
  block_of = part_block l uuid sequence entries

  -- the revoke blocks agree
  revokes-alike : flat_map piece_blocks (map (own_revokes l sequence) (groups (numbers_of l) (revoked entries)))
      ≡ map block_of (revoke_parts l (length (revoked entries)))
  revokes-alike =
      pieces (groups (numbers_of l) (revoked entries))
      ∙ groups-alike (λ g. revoke_block l sequence g ∷ []) (λ g. block_of (revoke_part g) ∷ []) (numbers_of l) (revoked entries)
      (λ k. ap (λ (g : List ℕ). revoke_block l sequence g ∷ [])
      (sym (row-named (numbers_of l) (numbers_of l * k) (min (numbers_of l) (length (revoked entries) - numbers_of l * k)) (revoked entries) refl)))
      ∙ named (groups (numbers_of l) (range_with_len 0 (length (revoked entries))))
    where
      pieces : (gs : List (List ℕ)) → flat_map piece_blocks (map (own_revokes l sequence) gs) ≡ flat_map (λ g. revoke_block l sequence g ∷ []) gs
      pieces [] = refl
      pieces (g ∷ gs) = ap (λ (bs : List (List ℕ)). revoke_block l sequence g ∷ bs) (pieces gs)

      named : (gs : List (List ℕ)) → flat_map (λ g. block_of (revoke_part g) ∷ []) gs ≡ map block_of (map revoke_part gs)
      named [] = refl
      named (g ∷ gs) = ap (λ (bs : List (List ℕ)). block_of (revoke_part g) ∷ bs) (named gs)

  -- the descriptors with their copies agree
  copies-alike : flat_map piece_blocks (map (own_copies l uuid sequence) (groups (tags_of l) (copied entries)))
      ≡ map block_of (copy_parts l (length (copied entries)))
  copies-alike =
      pieces (groups (tags_of l) (copied entries))
      ∙ groups-alike blocks (λ g. map block_of (described g)) (tags_of l) (copied entries) alike
      ∙ named (groups (tags_of l) (range_with_len 0 (length (copied entries))))
    where
      blocks : List (ℕ × List ℕ) → List (List ℕ)
      blocks g = descriptor_block l uuid sequence (tags_from true g) ∷ map (λ c. escaped c.1) g

      pieces : (gs : List (List (ℕ × List ℕ))) → flat_map piece_blocks (map (own_copies l uuid sequence) gs) ≡ flat_map blocks gs
      pieces [] = refl
      pieces (g ∷ gs) = ap (λ (bs : List (List ℕ)). blocks g ++ bs) (pieces gs)

      copy_at : ℕ → List ℕ
      copy_at i = escaped (unwrap_or (slice_get (copied entries) i) (0, [])).1

      each : (numbers : List ℕ) → map block_of (map Copy numbers) ≡ map copy_at numbers
      each [] = refl
      each (i ∷ numbers) = ap (λ (bs : List (List ℕ)). copy_at i ∷ bs) (each numbers)

      alike : (k : ℕ) → blocks (take (tags_of l) (drop (tags_of l * k) (copied entries)))
          ≡ map block_of (described (range_with_len (tags_of l * k) (min (tags_of l) (length (copied entries) - tags_of l * k))))
      alike k =
          let n = tags_of l in
          let cs = copied entries in
          let m = min n (length cs - n * k) in
          ap₂ (λ (g : List (ℕ × List ℕ)) (bs : List (List ℕ)). descriptor_block l uuid sequence (tags_from true g) ∷ bs)
          (sym (row-named n (n * k) m cs refl))
          (ap (map (λ c. escaped c.1)) (sym (row-part n (n * k) m cs refl))
          ∙ sym (row-each (λ c. escaped c.1) (0, []) cs (n * k) m (omega arith))
          ∙ sym (each (range_with_len (n * k) m)))

      named : (gs : List (List ℕ)) → flat_map (λ g. map block_of (described g)) gs ≡ map block_of (flat_map described gs)
      named [] = refl
      named (g ∷ gs) = ap (λ (bs : List (List ℕ)). map block_of (described g) ++ bs) (named gs) ∙ sym (map-append block_of (described g) (flat_map described gs))

  -- all blocks of the own text agree
  pub own-parts : text_blocks (own_text l uuid sequence entries) ≡ map block_of (parts l (length (copied entries)) (length (revoked entries)))
  unfolding own_text
  own-parts =
      let revokes : List Piece = map (own_revokes l sequence) (groups (numbers_of l) (revoked entries)) in
      let copies : List Piece = map (own_copies l uuid sequence) (groups (tags_of l) (copied entries)) in
      let front = revoke_parts l (length (revoked entries)) in
      let middle = copy_parts l (length (copied entries)) in
      ap (λ (bs : List (List ℕ)). bs ++ commit_block l sequence ∷ [])
      (flat_map-append piece_blocks revokes copies ∙ ap₂ (λ xs ys. xs ++ ys) revokes-alike copies-alike)
      ∙ sym (map-append block_of (front ++ middle) (Commit ∷ [])
      ∙ ap (λ (bs : List (List ℕ)). bs ++ commit_block l sequence ∷ []) (map-append block_of front middle))

-- some transaction has so many copies and so many revokes
abbrev sample : ℕ → ℕ → List (ℕ × Entry)
sample (suc c) r = (0, CopyEntry []) ∷ sample c r
sample zero (suc r) = (0, Revoke) ∷ sample zero r
sample zero zero = []

sample-copies : (c r : ℕ) → length (copied (sample c r)) ≡ c
sample-copies (suc c) r = ap suc (sample-copies c r)
sample-copies zero (suc r) = sample-copies zero r
sample-copies zero zero = refl

sample-revokes : (c r : ℕ) → length (revoked (sample c r)) ≡ r
sample-revokes (suc c) r = sample-revokes c r
sample-revokes zero (suc r) = ap suc (sample-revokes zero r)
sample-revokes zero zero = refl

-- there are as many parts as the transaction needs blocks
pub length-parts : (l : Layout) (c r : ℕ) → IsLayout l → length (parts l c r) ≡ need l c r
length-parts l c r layout =
    let entries = sample c r in
    let blocks = parts l (length (copied entries)) (length (revoked entries)) in
    ap₂ (λ (m n : ℕ). length (parts l m n)) (sym (sample-copies c r)) (sym (sample-revokes c r))
    ∙ sym (length-map blocks (part_block l [] 0 entries))
    ∙ ap length (sym (own-parts l [] 0 entries))
    ∙ length_own_text l [] 0 entries layout
    ∙ ap₂ (need l) (sample-copies c r) (sample-revokes c r)
