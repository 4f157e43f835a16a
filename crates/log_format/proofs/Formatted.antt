-- The fields of an empty log's superblock, and that it is accepted.
use Rattle.std.proofs.Common.{refl, ap, ap₂, ◌∙◌, arith, append_assoc, inl, inr, take_at}
use Rattle.std.specs.Prelude.{◌≡◌, ℕ, ◌-◌, ◌^◌, ◌<◌, ◌≤◌, ◌==◌, ◌&&◌, ◌||◌, nat_le, Bool, true, false, List, [], ◌∷◌, ◌++◌, length, take, drop, replicate, None}
use Rattle.std.specs.List.{flat_map}
use Rattle.std.proofs.lemmas.Bool.Decides.{nat_tests}
use Rattle.journal_model.specs.Layout.{big_endian, header, number_at, padded, super_type, uuid_bytes}
use Rattle.journal_model.specs.Disk.{Shape}
use Rattle.log_model.specs.Superblock.{Super, formatted_super, greatest_length, is_block_size, least_length, features_of, revoke_feature, wide_features, super_in, super_refusal}
use Rattle.log_model.proofs.OwnTextNumbers.{number_behind_bytes}
use Rattle.log_format.proofs.Formatting.{numbers_of_super}
use Rattle.log_format.specs.Size.{IsBlockSize}

-- the fields of an empty log
abbrev pub saying : ℕ → ℕ → List ℕ → ℕ → ℕ → Super
saying size maxlen uuid features users =
    record {
      s_blocksize = size;
      s_maxlen = maxlen;
      s_first = 1;
      s_sequence = 1;
      s_start = 0;
      s_errno = 0;
      s_feature_compat = 0;
      s_feature_incompat = features;
      s_feature_ro_compat = 0;
      s_uuid = uuid;
      s_nr_users = users;
    }

-- the features are read back
features-read : (is_wide : Bool) (front rest : List ℕ) → length front ≡ 0x28 →
    number_at 0x28 4 (front ++ (big_endian 4 (features_of is_wide) ++ rest)) ≡ features_of is_wide
features-read true front rest long = number_behind_bytes front rest 0x28 4 3 long (omega arith)
features-read false front rest long = number_behind_bytes front rest 0x28 4 1 long (omega arith)

pub formatted_says : (size maxlen : ℕ) (uuid : List ℕ) (is_wide : Bool) →
    IsBlockSize size → maxlen < 2 ^ 32 → length uuid ≡ uuid_bytes →
    super_in (formatted_super size maxlen uuid is_wide) ≡ saying size maxlen uuid (features_of is_wide) 1
unfolding formatted_super padded
formatted_says size maxlen uuid is_wide is small long =
    let whole : List ℕ = formatted_super size maxlen uuid is_wide in
    let size_read = number_behind_bytes (header super_type 0) (drop 16 whole) 12 4 size refl (omega arith) in
    let maxlen_read = number_behind_bytes (header super_type 0 ++ big_endian 4 size) (drop 20 whole) 16 4 maxlen refl small in
    let before : List ℕ = header super_type 0 ++ flat_map (big_endian 4) (numbers_of_super size maxlen is_wide) in
    let users : List ℕ = big_endian 4 1 in
    let zeros : List ℕ = replicate (size - length ((before ++ uuid) ++ users)) 0 in
    let uuid_read : take 16 ((uuid ++ users) ++ zeros) ≡ uuid = ap (take 16) (append_assoc uuid users zeros) ∙ take_at uuid (users ++ zeros) 16 long in
    let users_read = ap (number_at 64 4) (append_assoc (before ++ uuid) users zeros) ∙ number_behind_bytes (before ++ uuid) zeros 64 4 1 (omega arith) (omega arith) in
    let front : List ℕ = header super_type 0 ++ flat_map (big_endian 4) (size ∷ maxlen ∷ 1 ∷ 1 ∷ 0 ∷ 0 ∷ 0 ∷ []) in
    let features = features-read is_wide front (drop 0x2c whole) refl in
    ap₂ (λ (a b : ℕ). saying a b (take 16 (drop 48 whole)) (number_at 0x28 4 whole) (number_at 64 4 whole)) size_read maxlen_read
    ∙ ap₂ (λ (u : List ℕ) (n : ℕ). saying size maxlen u (number_at 0x28 4 whole) n) uuid_read users_read
    ∙ ap (λ (f : ℕ). saying size maxlen uuid f 1) features

-- an allowed size passes its test
size_allowed : (size : ℕ) → IsBlockSize size → (is_block_size size && (size == size)) ≡ true
size_allowed size (inl kib) = rw kib refl
size_allowed size (inr (inl kib2)) = rw kib2 refl
size_allowed size (inr (inr kib4)) = rw kib4 refl

-- the superblock of an empty log is accepted, if its length is
features-pass : (is_wide : Bool) → ((features_of is_wide == revoke_feature) || (features_of is_wide == wide_features)) ≡ true
features-pass true = refl
features-pass false = refl

pub formatted_accepted : (size maxlen log_blocks home_blocks : ℕ) (uuid : List ℕ) (is_wide : Bool) →
    IsBlockSize size → least_length ≤ maxlen → maxlen ≤ greatest_length → maxlen ≤ log_blocks → length uuid ≡ uuid_bytes →
    let shape : Shape = record { block_size = size; log_blocks = log_blocks; home_blocks = home_blocks } in
    super_refusal shape (formatted_super size maxlen uuid is_wide) ≡ None
unfolding formatted_super padded
formatted_accepted size maxlen log_blocks home_blocks uuid is_wide is least greatest fits long =
    let says = formatted_says size maxlen uuid is_wide is (omega arith) long in
    let some : (log_blocks == 0) ≡ false = grind (arith, nat_tests) in
    let length_allowed : (nat_le least_length maxlen && nat_le maxlen greatest_length && nat_le maxlen log_blocks) ≡ true = grind (arith, nat_tests) in
    let ring_taken : nat_le 16 (maxlen - 1) ≡ true = grind (arith, nat_tests) in
    rw (
      ap (λ (s : Super). s.s_blocksize) says,
      ap (λ (s : Super). s.s_maxlen) says,
      ap (λ (s : Super). s.s_nr_users) says,
      ap (λ (s : Super). s.s_feature_incompat) says,
      features-pass is_wide,
      some,
      size_allowed size is,
      length_allowed,
      ring_taken,
    ) refl
