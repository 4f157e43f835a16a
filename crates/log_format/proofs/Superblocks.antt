-- The fields of a superblock are read back.
use Rattle.std.proofs.Common.{refl, ap, ap₂, sym, ◌∙◌, arith, append_assoc, drop-drop, drop_at, length-append, length-take}
use Rattle.std.specs.Prelude.{◌≡◌, ℕ, zero, suc, ◌+◌, ◌*◌, ◌^◌, ◌<◌, ◌≤◌, List, [], ◌∷◌, ◌++◌, length, take, drop}
use Rattle.std.proofs.lemmas.List.{get_or_append_left, take-append-drop, take_at}
use Rattle.journal_model.specs.Layout.{begins_with_magic, big_endian, number_at}
use Rattle.log_model.specs.Superblock.{with_tail}
use Rattle.log_model.proofs.OwnTextNumbers.{number_behind, number_behind_bytes}
use Rattle.log_format.proofs.Numbers.{number_at-drop}

-- a number is read from its own bytes, whatever stands after them
number_at-front : (at k : ℕ) (xs ys : List ℕ) → at + k ≤ length xs → number_at at k (xs ++ ys) ≡ number_at at k xs
number_at-front at zero xs ys within = refl
number_at-front at (suc k) xs ys within = ap₂ (λ b m. b * 256 ^ k + m) (get_or_append_left xs ys 0 at (omega arith)) (number_at-front (suc at) k xs ys (omega arith))

-- a field before the written ones is kept
pub kept_before : (at k n : ℕ) (block behind : List ℕ) → at + k ≤ n → n ≤ length block → number_at at k (take n block ++ behind) ≡ number_at at k block
kept_before at k n block behind fits within =
    let long : at + k ≤ length (take n block) = omega (arith, length-take n block) in
    number_at-front at k (take n block) behind long ∙ sym (number_at-front at k (take n block) (drop n block) long)
    ∙ ap (number_at at k) (take-append-drop n block)

-- a field after the written ones is kept
pub kept_behind : (at k n : ℕ) (front block : List ℕ) → length front ≡ n → number_at (n + at) k (front ++ drop n block) ≡ number_at (n + at) k block
kept_behind at k n front block size =
    ap (λ (m : ℕ). number_at (m + at) k (front ++ drop n block)) (sym size)
    ∙ number_behind front (drop n block) at k ∙ number_at-drop n at k block

-- a superblock with a new tail, up to the rest
abbrev tail_front : List ℕ → ℕ → ℕ → List ℕ
tail_front block sequence start = (take 24 block ++ big_endian 4 sequence) ++ big_endian 4 start

-- the block with a new tail, from its first written field on
tail_grouped : (block : List ℕ) (sequence start : ℕ) →
    with_tail block sequence start ≡ take 24 block ++ (big_endian 4 sequence ++ (big_endian 4 start ++ drop 32 block))
unfolding with_tail
tail_grouped block sequence start =
    append_assoc (take 24 block ++ big_endian 4 sequence) (big_endian 4 start) (drop 32 block)
    ∙ append_assoc (take 24 block) (big_endian 4 sequence) (big_endian 4 start ++ drop 32 block)

-- a field before the tail is kept
pub before_tail : (at : ℕ) (block : List ℕ) (sequence start : ℕ) →
    at + 4 ≤ 24 → 24 ≤ length block → number_at at 4 (with_tail block sequence start) ≡ number_at at 4 block
before_tail at block sequence start before long =
    ap (number_at at 4) (tail_grouped block sequence start)
    ∙ kept_before at 4 24 block (big_endian 4 sequence ++ (big_endian 4 start ++ drop 32 block)) before long

-- the bytes before the rest keep their length
length-tail_front : (block : List ℕ) (sequence start : ℕ) → 24 ≤ length block → length (tail_front block sequence start) ≡ 32
length-tail_front block sequence start long =
    omega (arith, length-append (take 24 block ++ big_endian 4 sequence) (big_endian 4 start), length-append (take 24 block) (big_endian 4 sequence), length-take 24 block)

-- a field after the tail is kept
pub behind_tail : (at : ℕ) (block : List ℕ) (sequence start : ℕ) →
    24 ≤ length block → number_at (32 + at) 4 (with_tail block sequence start) ≡ number_at (32 + at) 4 block
unfolding with_tail
behind_tail at block sequence start long =
    kept_behind at 4 32 (tail_front block sequence start) block (length-tail_front block sequence start long)

-- the bytes after the tail are kept
pub rest_of_tail : (n : ℕ) (block : List ℕ) (sequence start : ℕ) → 24 ≤ length block → drop (32 + n) (with_tail block sequence start) ≡ drop (32 + n) block
unfolding with_tail
rest_of_tail n block sequence start long =
    sym (drop-drop n 32 (with_tail block sequence start))
    ∙ ap (drop n) (drop_at (tail_front block sequence start) (drop 32 block) 32 (length-tail_front block sequence start long))
    ∙ drop-drop n 32 block

-- the new sequence
pub sequence_of_tail : (block : List ℕ) (sequence start : ℕ) →
    24 ≤ length block → sequence < 2 ^ 32 → number_at 24 4 (with_tail block sequence start) ≡ sequence
sequence_of_tail block sequence start long small =
    ap (number_at 24 4) (tail_grouped block sequence start)
    ∙ number_behind_bytes (take 24 block) (big_endian 4 start ++ drop 32 block) 24 4 sequence (omega (arith, length-take 24 block)) small

-- the new start
pub start_of_tail : (block : List ℕ) (sequence start : ℕ) →
    24 ≤ length block → start < 2 ^ 32 → number_at 28 4 (with_tail block sequence start) ≡ start
unfolding with_tail
start_of_tail block sequence start long small =
    ap (number_at 28 4) (append_assoc (take 24 block ++ big_endian 4 sequence) (big_endian 4 start) (drop 32 block))
    ∙ number_behind_bytes (take 24 block ++ big_endian 4 sequence) (drop 32 block) 28 4 start
    (omega (arith, length-append (take 24 block) (big_endian 4 sequence), length-take 24 block)) small

-- the magic before the tail is kept
pub magic_of_tail : (block : List ℕ) (sequence start : ℕ) →
    24 ≤ length block → begins_with_magic (with_tail block sequence start) ≡ begins_with_magic block
unfolding with_tail
magic_of_tail (a ∷ b ∷ c ∷ d ∷ rest) sequence start long = refl
magic_of_tail (a ∷ b ∷ c ∷ []) sequence start long = absurd (omega arith)
magic_of_tail (a ∷ b ∷ []) sequence start long = absurd (omega arith)
magic_of_tail (a ∷ []) sequence start long = absurd (omega arith)
magic_of_tail [] sequence start long = absurd (omega arith)

-- the bytes before the tail are kept
front_of_tail : (block : List ℕ) (sequence start : ℕ) → 24 ≤ length block → take 24 (with_tail block sequence start) ≡ take 24 block
front_of_tail block sequence start long =
    ap (take 24) (tail_grouped block sequence start)
    ∙ take_at (take 24 block) (big_endian 4 sequence ++ (big_endian 4 start ++ drop 32 block)) 24 (omega (arith, length-take 24 block))

-- blocks that agree outside the tail get the same tail
same_tail : (block other : List ℕ) (sequence start : ℕ) →
    take 24 other ≡ take 24 block → drop 32 other ≡ drop 32 block → with_tail other sequence start ≡ with_tail block sequence start
unfolding with_tail
same_tail block other sequence start front rest =
    ap₂ (λ (before behind : List ℕ). ((before ++ big_endian 4 sequence) ++ big_endian 4 start) ++ behind) front rest

-- a new tail replaces the one before
pub tail_replaced : (block : List ℕ) (last_sequence last_start sequence start : ℕ) →
    24 ≤ length block → with_tail (with_tail block last_sequence last_start) sequence start ≡ with_tail block sequence start
tail_replaced block last_sequence last_start sequence start long =
    same_tail block (with_tail block last_sequence last_start) sequence start
    (front_of_tail block last_sequence last_start long) (rest_of_tail 0 block last_sequence last_start long)
