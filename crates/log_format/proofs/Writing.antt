-- Writing a block from its beginning on, with zeros at the end.
use Rattle.std.proofs.Common.{refl, ap, sym, ◌∙◌, arith, append_assoc, append-nil, drop-drop, drop_at, get_or, le_of_eq, le_trans, length-append, length-take, length-drop}
use Rattle.std.specs.Prelude.{◌≡◌, ℕ, ◌+◌, ◌-◌, ◌*◌, ◌<◌, ◌≤◌, Bool, true, false, if◌then◌else◌, List, [], ◌∷◌, ◌++◌, length, take, drop, replicate, All}
use Rattle.std.specs.List.{flat_map}
use Rattle.std.proofs.lemmas.List.{drop_all, flat_map_more, take_at, take_more, take_rest}
use Rattle.std.proofs.lemmas.List.Folds.{length-flat_map-take}
use Rattle.std.proofs.lemmas.List.Elements.{All-head, All-tail}
use borrow.Rule.Slice.PartMut.{put_mid}
use Rattle.log_model.specs.declared.log.Tag.{Tag}
use Rattle.journal_model.specs.Layout.{IsLayout, Layout, padded, tag_bytes, uuid_bytes}
use Rattle.log_model.specs.Descriptor.{tag_spelling, uuid_behind}
use Rattle.log_format.specs.Size.{FitDescriptor}
use Rattle.log_model.proofs.OwnTextHeader.{HasMeasures, measures, tags_fit}
use Rattle.log_model.proofs.OwnTextTags.{length-tag_spelling}

-- zeros after what is written fill the block
pub filled : (block written zeros : List ℕ) (at : ℕ) →
    at ≤ length block → take at block ≡ written → zeros ≡ replicate (length (take (length block - at) (drop at block))) 0 →
    put_mid at (length block - at) block zeros ≡ padded (length block) written
unfolding padded
filled block written zeros at within here blank =
    let size : length written ≡ at = omega (arith, ap length here, length-take at block) in
    let count : length (take (length block - at) (drop at block)) ≡ length block - length written = rw take_rest (omega (arith, length-drop at block)) in
    let behind : drop (length block - at) (drop at block) ≡ [] = drop_all (length block - at) (drop at block) (omega (arith, length-drop at block)) in
    rw (here, behind, blank, append-nil, count) refl

-- bytes written after those that stand there
pub written_more : (block written bytes rest new : List ℕ) (at n : ℕ) →
    at ≤ length block → take at block ≡ written → new ≡ bytes ++ rest → length bytes ≡ n →
    take (at + n) (put_mid at (length block - at) block new) ≡ written ++ bytes
written_more block written bytes rest new at n within here is size =
    let behind : List ℕ = drop (length block - at) (drop at block) in
    let long : length (written ++ bytes) ≡ at + n = omega (arith, ap length here, length-take at block, length-append written bytes) in
    let grouped = append_assoc written bytes (rest ++ behind) in
    rw (here, is, append_assoc bytes rest behind, ← grouped) (take_at (written ++ bytes) (rest ++ behind) (at + n) long)

-- one more element, spelled after the others
pub spelled_more : {X : Type 0} (f : X → List ℕ) (front : List ℕ) (xs : List X) (i : ℕ) (x : X) → i < length xs → x ≡ get_or xs i x →
    (front ++ flat_map f (take i xs)) ++ f x ≡ front ++ flat_map f (take (i + 1) xs)
spelled_more f front xs i x here is =
    flat_map_more f front (take i xs) x ∙ ap (λ y. front ++ flat_map f (take i xs ++ y ∷ [])) is
    ∙ ap (λ ys. front ++ flat_map f ys) (sym (take_more xs i x here))

-- the length of tags without a UUID
length_same_uuid : (l : Layout) (uuid : List ℕ) (tags : List Tag) → 4 ≤ l.number_bytes →
    length uuid ≡ uuid_bytes → All (λ t. t.same_uuid ≡ true) tags →
    length (flat_map (tag_spelling l uuid) tags) ≡ length tags * tag_bytes l
length_same_uuid l uuid [] small size same = omega arith
length_same_uuid l uuid (t ∷ ts) small size same =
    let others = length_same_uuid l uuid ts small size (All-tail (λ t. t.same_uuid ≡ true) t ts same) in
    let this = length-tag_spelling l uuid t small size in
    let no_uuid : uuid_behind t ≡ 0 = rw (All-head (λ t. t.same_uuid ≡ true) t ts same) refl in
    length-append (tag_spelling l uuid t) (flat_map (tag_spelling l uuid) ts) ∙ omega (arith, this, others, no_uuid)

-- the length of the tags that the writer puts into one descriptor
pub length_tags : (l : Layout) (uuid : List ℕ) (tags : List Tag) → 4 ≤ l.number_bytes →
    length uuid ≡ uuid_bytes → All (λ t. t.same_uuid ≡ true) (drop 1 tags) →
    length (flat_map (tag_spelling l uuid) tags) ≤ length tags * tag_bytes l + 16
length_tags l uuid [] small size same = omega arith
length_tags l uuid (t ∷ ts) small size same =
    let this = length-tag_spelling l uuid t small size in
    let one_uuid : uuid_behind t ≤ 16 = at_most t.same_uuid in
    let others = length_same_uuid l uuid ts small size same in
    le_trans (le_of_eq (length-append (tag_spelling l uuid t) (flat_map (tag_spelling l uuid) ts))) (omega (arith, this, one_uuid, others))
  where
    at_most : (same : Bool) → (if same then 0 else uuid_bytes) ≤ 16
    at_most true = omega arith
    at_most false = omega arith

-- the next tag fits after the written ones
pub tag_fits : (l : Layout) (uuid : List ℕ) (i : ℕ) (tags : List Tag) (t : Tag) → IsLayout l →
    length uuid ≡ uuid_bytes → FitDescriptor l tags → i < length tags → t ≡ get_or tags i t →
    12 + length (flat_map (tag_spelling l uuid) (take i tags)) + (tag_bytes l + uuid_behind t) ≤ l.block_size
tag_fits l uuid i tags t taken long fit here is =
    let m : HasMeasures l = measures l taken in
    let few = tags_fit l (length tags) m fit.few in
    let all = length_tags l uuid tags m.small long fit.one_uuid in
    let next = length-flat_map-take (tag_spelling l uuid) tags i t here in
    let this : length (tag_spelling l uuid (get_or tags i t)) ≡ tag_bytes l + uuid_behind t =
    rw (← is) (length-tag_spelling l uuid t m.small long) in
    omega (arith, few, all, next, this)

-- bytes written at a place leave those before and after
pub written_over : (block bytes new : List ℕ) (at n : ℕ) →
    at ≤ length block → new ≡ bytes ++ drop n (take (length block - at) (drop at block)) →
    put_mid at (length block - at) block new ≡ take at block ++ (bytes ++ drop (at + n) block)
written_over block bytes new at n within is =
    let behind : drop (length block - at) (drop at block) ≡ [] = drop_all (length block - at) (drop at block) (omega (arith, length-drop at block)) in
    rw (is, behind, append-nil, take_rest, drop-drop) refl

-- two numbers written in a row
pub written_twice : (block between a b : List ℕ) (at n : ℕ) →
    at + n ≤ length block → length a ≡ n → between ≡ take at block ++ (a ++ drop (at + n) block) →
    take (at + n) between ++ (b ++ drop (at + n + n) between) ≡ ((take at block ++ a) ++ b) ++ drop (at + n + n) block
written_twice block between a b at n within size is =
    let front : List ℕ = take at block ++ a in
    let long : length front ≡ at + n = omega (arith, length-append (take at block) a, length-take at block) in
    let grouped : between ≡ front ++ drop (at + n) block = is ∙ sym (append_assoc (take at block) a (drop (at + n) block)) in
    let before : take (at + n) between ≡ front = rw grouped (take_at front (drop (at + n) block) (at + n) long) in
    let behind : drop (at + n) between ≡ drop (at + n) block = rw grouped (drop_at front (drop (at + n) block) (at + n) long) in
    let rest : drop (at + n + n) between ≡ drop (at + n + n) block = sym (drop-drop n (at + n) between) ∙ ap (drop n) behind ∙ drop-drop n (at + n) block in
    rw (before, rest) (sym (append_assoc front b (drop (at + n + n) block)))
