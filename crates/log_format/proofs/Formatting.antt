-- The superblock of an empty log, as it is written piece by piece.
use Rattle.std.proofs.Common.{refl, ap, ap₂, ◌∙◌, arith, length-append, length-take, length-drop}
use Rattle.std.specs.Prelude.{◌≡◌, ℕ, ◌+◌, ◌-◌, ◌≤◌, Bool, List, [], ◌∷◌, ◌++◌, length, take, drop, replicate}
use Rattle.std.specs.List.{flat_map}
use Rattle.std.proofs.lemmas.Slice.{take-put_mid}
use borrow.Rule.Slice.PartMut.{put_mid}
use Rattle.journal_model.specs.Layout.{big_endian, header, padded, super_type}
use Rattle.log_model.specs.Superblock.{features_of, formatted_super}
use Rattle.log_format.proofs.Writing.{filled, written_more}

-- a write within a list keeps its length
length-put_mid : (at k : ℕ) (block bytes : List ℕ) → at + k ≤ length block → length bytes ≡ k → length (put_mid at k block bytes) ≡ length block
length-put_mid at k block bytes within size =
    omega (arith, length-append (take at block) (bytes ++ drop k (drop at block)), length-append bytes (drop k (drop at block)), length-take at block, length-drop k (drop at block), length-drop at block)

-- the numbers between the header and the UUID
abbrev pub numbers_of_super : ℕ → ℕ → Bool → List ℕ
numbers_of_super size maxlen is_wide = size ∷ maxlen ∷ 1 ∷ 1 ∷ 0 ∷ 0 ∷ 0 ∷ features_of is_wide ∷ 0 ∷ []

-- header, numbers, UUID, users and zeros are the superblock
pub formatted : (first second third fourth numbers uuid users rest zeros : List ℕ) (maxlen : ℕ) (is_wide : Bool) →
    1024 ≤ length first → take 12 first ≡ header super_type 0 →
    numbers ≡ flat_map (big_endian 4) (numbers_of_super (length first) maxlen is_wide) → second ≡ put_mid 12 36 first numbers →
    length uuid ≡ 16 → third ≡ put_mid 48 16 second uuid →
    users ≡ big_endian 4 1 ++ rest → length users ≡ length third - 64 → fourth ≡ put_mid 64 (length third - 64) third users →
    zeros ≡ replicate (length (take (length fourth - 68) (drop 68 fourth))) 0 →
    put_mid 68 (length fourth - 68) fourth zeros ≡ formatted_super (length first) maxlen uuid is_wide
unfolding formatted_super
formatted first second third fourth numbers uuid users rest zeros maxlen is_wide room begun numbers_are second_is uuid_size third_is users_are users_size fourth_is blank =
    let numbers_size : length numbers ≡ 36 = ap length numbers_are in
    let size2 : length second ≡ length first = ap length second_is ∙ length-put_mid 12 36 first numbers (omega arith) numbers_size in
    let size3 : length third ≡ length second = ap length third_is ∙ length-put_mid 48 16 second uuid (omega arith) uuid_size in
    let size4 : length fourth ≡ length third = ap length fourth_is ∙ length-put_mid 64 (length third - 64) third users (omega arith) users_size in
    let with_numbers : take 48 second ≡ header super_type 0 ++ numbers =
    ap (take 48) second_is ∙ take-put_mid 12 36 first numbers 48 (omega arith) (omega arith) ∙ ap (λ (front : List ℕ). front ++ numbers) begun in
    let with_uuid : take 64 third ≡ (header super_type 0 ++ numbers) ++ uuid =
    ap (take 64) third_is ∙ take-put_mid 48 16 second uuid 64 (omega arith) (omega arith) ∙ ap (λ (front : List ℕ). front ++ uuid) with_numbers in
    let with_users : take 68 fourth ≡ ((header super_type 0 ++ numbers) ++ uuid) ++ big_endian 4 1 =
    ap (take 68) fourth_is ∙ written_more third ((header super_type 0 ++ numbers) ++ uuid) (big_endian 4 1) rest users 64 4 (omega arith) with_uuid users_are refl in
    filled fourth (((header super_type 0 ++ numbers) ++ uuid) ++ big_endian 4 1) zeros 68 (omega arith) with_users blank
    ∙ ap₂ (λ (n : ℕ) (ns : List ℕ). padded n (((header super_type 0 ++ ns) ++ uuid) ++ big_endian 4 1)) (size4 ∙ size3 ∙ size2) numbers_are
