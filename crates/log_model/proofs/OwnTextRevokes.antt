-- The writer's revoke block is one, and has the block size.
use Rattle.std.proofs.Common.{refl, ap, ap₂, sym, ◌∙◌, arith, append_assoc, length-append}
use Rattle.std.specs.Prelude.{◌≡◌, ℕ, ◌+◌, ◌*◌, ◌^◌, ◌<◌, ◌≤◌, List, [], ◌∷◌, ◌++◌, length, map, All}
use Rattle.std.specs.List.{AllByRecursion, flat_map, range_with_len}
use Rattle.std.proofs.lemmas.List.Elements.{All-weaker, recursion_from_All}
use Rattle.journal_model.specs.Layout.{Layout, IsLayout, big_endian, every_number, header, number_at, numbers_of, padded, revoke_header_bytes, revoke_type}
use Rattle.log_model.specs.RevokeBlock.{IsRevokeBlock, revoke_block}
use Rattle.log_model.proofs.OwnTextGroups.{IsGroup}
use Rattle.log_model.proofs.OwnTextHeader.{header_read, length-padded, measures, numbers_fit, spellable}
use Rattle.log_model.proofs.OwnTextNumbers.{length-big_endian, number_behind_bytes}

-- numbers written in a row are read back, each at its place
numbers_read : (width base a : ℕ) (front rest numbers : List ℕ) →
    length front ≡ base + width * a → AllByRecursion (λ n. n < 256 ^ width) numbers →
    map (λ i. number_at (base + width * i) width (front ++ (flat_map (big_endian width) numbers ++ rest))) (range_with_len a (length numbers)) ≡ numbers
numbers_read width base a front rest [] here below = refl
numbers_read width base a front rest (n ∷ ns) here below =
    let others : List ℕ = flat_map (big_endian width) ns in
    let longer : List ℕ = front ++ big_endian width n in
    let regrouped = ap (λ (bytes : List ℕ). front ++ bytes) (append_assoc (big_endian width n) others rest) in
    let shifted = regrouped ∙ sym (append_assoc front (big_endian width n) (others ++ rest)) in
    let sum : length longer ≡ length front + width = length-append front (big_endian width n) ∙ ap (λ m. length front + m) (length-big_endian width n) in
    let next = λ (there : length longer ≡ base + width * (a + 1)). numbers_read width base (a + 1) longer rest ns there below.1 in
    ap₂ (λ m ms. m ∷ ms)
    (ap (λ bytes. number_at (base + width * a) width bytes) regrouped ∙ number_behind_bytes front (others ++ rest) (base + width * a) width n here below.0)
    (ap (λ bytes. map (λ i. number_at (base + width * i) width bytes) (range_with_len (a + 1) (length ns))) shifted ∙ next (omega arith))

-- the bytes that numbers take
length_numbers : (width : ℕ) (numbers : List ℕ) →
    length (flat_map (big_endian width) numbers) ≡ length numbers * width
length_numbers width [] = omega arith
length_numbers width (n ∷ ns) =
    omega (arith, length-append (big_endian width n) (flat_map (big_endian width) ns), length-big_endian width n, length_numbers width ns)

-- numbers below a count that the layout can spell fit their bytes
numbers_spellable : (l : Layout) (count : ℕ) (numbers : List ℕ) →
    IsLayout l → count ≤ every_number l → All (λ b. b < count) numbers →
    AllByRecursion (λ n. n < 256 ^ l.number_bytes) numbers
numbers_spellable l count numbers layout spells below =
    recursion_from_All _ numbers (All-weaker (λ b. b < count) _ (λ n h. spellable l n layout (omega arith)) numbers below)

-- the used bytes of a revoke block, then others
abbrev revoke_bytes : Layout → ℕ → List ℕ → List ℕ → List ℕ
revoke_bytes l sequence numbers rest =
    header revoke_type sequence ++ big_endian 4 (revoke_header_bytes + l.number_bytes * length numbers)
    ++ flat_map (big_endian l.number_bytes) numbers ++ rest

-- they are a revoke block, whatever stands after them
revoke_bytes_are : (l : Layout) (count sequence : ℕ) (numbers rest : List ℕ) →
    IsLayout l → count ≤ every_number l → sequence < 2 ^ 32 → IsGroup (λ b. b < count) (numbers_of l) numbers →
    IsRevokeBlock l count sequence (revoke_bytes l sequence numbers rest) numbers
revoke_bytes_are l count sequence numbers rest layout spells below group =
    let used : ℕ = revoke_header_bytes + l.number_bytes * length numbers in
    let front : List ℕ = header revoke_type sequence ++ big_endian 4 used in
    let spellable_each = numbers_spellable l count numbers layout spells group.each in
    let behind : List ℕ = flat_map (big_endian l.number_bytes) numbers ++ rest in
    let fitting : length numbers * l.number_bytes + 16 ≤ l.block_size = numbers_fit l (length numbers) (measures l layout) group.most in
    record {
      has_header = header_read revoke_type sequence (big_endian 4 used ++ behind) (omega arith) below;
      used = number_behind_bytes (header revoke_type sequence) behind 12 4 used refl (omega (arith, (measures l layout).most));
      fits = omega arith;
      spelled = sym (numbers_read l.number_bytes revoke_header_bytes 0 front rest numbers (omega arith) spellable_each);
      below = group.each;
    }

-- the writer makes of a group of numbers a revoke block of them
pub revoke_block_is : (l : Layout) (count sequence : ℕ) (numbers : List ℕ) →
    IsLayout l → count ≤ every_number l → sequence < 2 ^ 32 → IsGroup (λ b. b < count) (numbers_of l) numbers →
    IsRevokeBlock l count sequence (revoke_block l sequence numbers) numbers
unfolding revoke_block padded
revoke_block_is l count sequence numbers layout spells below group =
    revoke_bytes_are l count sequence numbers _ layout spells below group

-- it has the block size
pub length-revoke_block : (l : Layout) (sequence : ℕ) (numbers : List ℕ) →
    IsLayout l → length numbers ≤ numbers_of l →
    length (revoke_block l sequence numbers) ≡ l.block_size
unfolding revoke_block
length-revoke_block l sequence numbers layout fits =
    let fitting = numbers_fit l (length numbers) (measures l layout) fits in
    length-padded l.block_size _ (omega (arith, length_numbers l.number_bytes numbers, fitting))
