-- A widened superblock has the wide features, and keeps all other fields.
use Rattle.std.proofs.Common.{refl, ap, sym, ◌∙◌, arith, append_assoc, drop-drop, drop_at, length-append, length-take, length-drop}
use Rattle.std.specs.Prelude.{◌≡◌, ℕ, ◌+◌, ◌≤◌, List, [], ◌∷◌, ◌++◌, length, take, drop, None}
use Rattle.journal_model.specs.Disk.{Shape}
use Rattle.journal_model.specs.Layout.{begins_with_magic, big_endian, number_at}
use Rattle.log_model.specs.Superblock.{revoke_feature, super_in, super_refusal, wide_features, widened}
use Rattle.log_model.proofs.OwnTextNumbers.{number_behind_bytes}
use Rattle.log_format.proofs.Superblocks.{kept_before, kept_behind}

-- the block from the features on
grouped : (block : List ℕ) → widened block ≡ take 0x28 block ++ (big_endian 4 wide_features ++ drop 0x2c block)
unfolding widened
grouped block = append_assoc (take 0x28 block) (big_endian 4 wide_features) (drop 0x2c block)

-- the length stays
pub length-widened : (block : List ℕ) → 0x2c ≤ length block → length (widened block) ≡ length block
unfolding widened
length-widened block long =
    simp (length-append, length-take, length-drop) (omega arith)

-- a field before the features is kept
pub before_features : (at : ℕ) (block : List ℕ) → at + 4 ≤ 0x28 → 0x28 ≤ length block → number_at at 4 (widened block) ≡ number_at at 4 block
before_features at block before long =
    ap (number_at at 4) (grouped block)
    ∙ kept_before at 4 0x28 block (big_endian 4 wide_features ++ drop 0x2c block) before long

-- a field after the features is kept
pub behind_features : (at : ℕ) (block : List ℕ) → 0x28 ≤ length block → number_at (0x2c + at) 4 (widened block) ≡ number_at (0x2c + at) 4 block
unfolding widened
behind_features at block long =
    kept_behind at 4 0x2c (take 0x28 block ++ big_endian 4 wide_features) block
    (omega (arith, length-append (take 0x28 block) (big_endian 4 wide_features), length-take 0x28 block))

-- the bytes after the features are kept
pub rest_of_features : (n : ℕ) (block : List ℕ) → 0x28 ≤ length block → drop (0x2c + n) (widened block) ≡ drop (0x2c + n) block
unfolding widened
rest_of_features n block long =
    sym (drop-drop n 0x2c (widened block))
    ∙ ap (drop n) (drop_at (take 0x28 block ++ big_endian 4 wide_features) (drop 0x2c block) 0x2c
    (omega (arith, length-append (take 0x28 block) (big_endian 4 wide_features), length-take 0x28 block)))
    ∙ drop-drop n 0x2c block

-- the features are the new ones
pub new_features : (block : List ℕ) → 0x28 ≤ length block → number_at 0x28 4 (widened block) ≡ wide_features
new_features block long =
    ap (number_at 0x28 4) (grouped block)
    ∙ number_behind_bytes (take 0x28 block) (drop 0x2c block) 0x28 4 wide_features (omega (arith, length-take 0x28 block)) (omega arith)

-- the magic is kept
pub magic_stays : (block : List ℕ) → 0x28 ≤ length block → begins_with_magic (widened block) ≡ begins_with_magic block
unfolding widened
magic_stays (a ∷ b ∷ c ∷ d ∷ rest) long = refl
magic_stays (a ∷ b ∷ c ∷ []) long = absurd (omega arith)
magic_stays (a ∷ b ∷ []) long = absurd (omega arith)
magic_stays (a ∷ []) long = absurd (omega arith)
magic_stays [] long = absurd (omega arith)

-- an accepted superblock of 32-bit numbers stays accepted
pub widened_accepted : (shape : Shape) (block : List ℕ) → 0x28 ≤ length block → (super_in block).s_feature_incompat ≡ revoke_feature →
    super_refusal shape block ≡ None → super_refusal shape (widened block) ≡ None
widened_accepted shape block long is_narrow accepted =
    let was = rw is_narrow at accepted in
    rw (
      magic_stays block long,
      before_features 4 block (omega arith) long,
      before_features 0x0c block (omega arith) long,
      before_features 0x10 block (omega arith) long,
      before_features 0x14 block (omega arith) long,
      before_features 0x1c block (omega arith) long,
      before_features 0x20 block (omega arith) long,
      before_features 0x24 block (omega arith) long,
      new_features block long,
      behind_features 0 block long,
      behind_features 0x14 block long,
    ) was
