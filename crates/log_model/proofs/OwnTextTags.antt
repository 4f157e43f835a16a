-- The spelled tags of a descriptor are read back.
use Rattle.std.proofs.Common.{refl, ap, ap₂, sym, subst, ◌∙◌, arith, append_assoc, drop_at, le_of_eq, length-append}
use Rattle.std.specs.Prelude.{◌≡◌, ℕ, ◌+◌, ◌-◌, ◌*◌, ◌/◌, ◌^◌, ◌<◌, ◌≤◌, Bool, true, false, not, if◌then◌else◌, List, [], ◌∷◌, ◌++◌, length, drop}
use Rattle.std.specs.List.{AllByRecursion, flat_map}
use Rattle.std.proofs.Math.Nat.{mod-add-div}
use Rattle.log_model.specs.declared.log.Tag.{Tag}
use Rattle.journal_model.specs.Layout.{Layout, IsLayout, begins_with_magic, big_endian, every_number, number_at, tag_bytes, uuid_bytes}
use Rattle.log_model.specs.Descriptor.{BeginsWithTag, BeginsWithTags, flag_word, tag_spelling, uuid_behind}
use Rattle.log_model.specs.OwnText.{is_empty, tags_from}
use Rattle.log_model.proofs.OwnTextHeader.{measures, high_spellable}
use Rattle.log_model.proofs.OwnTextNumbers.{length-big_endian, number_behind_bytes, number_in_big_endian_mod}

-- a UUID is as long as readers expect
length_uuid : (same : Bool) (uuid : List ℕ) →
    length uuid ≡ uuid_bytes →
    length (if same then [] else uuid) ≡ (if same then 0 else uuid_bytes)
length_uuid true uuid size = refl
length_uuid false uuid size = size

-- a spelled tag with its UUID is as long as readers expect
pub length-tag_spelling : (l : Layout) (uuid : List ℕ) (t : Tag) →
    4 ≤ l.number_bytes → length uuid ≡ uuid_bytes →
    length (tag_spelling l uuid t) ≡ tag_bytes l + uuid_behind t
length-tag_spelling l uuid t small size = simp (length-append, length-big_endian, length_uuid t.same_uuid uuid size) (omega arith)

-- one flag adds no more than its own number
flag_at_most : (flag : Bool) (n : ℕ) → (if flag then n else 0) ≤ n
flag_at_most true n = omega arith
flag_at_most false n = omega arith

-- the flags fit two bytes
flag_word_small : (t : Tag) → flag_word t < 2 ^ 16
flag_word_small t = omega (arith, flag_at_most t.escaped 1, flag_at_most t.same_uuid 2, flag_at_most t.last 8)

-- a list is at least as long as its beginning
begins_long : (xs ys : List ℕ) (n : ℕ) → n ≤ length xs → n ≤ length (xs ++ ys)
begins_long xs ys n long = omega (arith, length-append xs ys)

-- the first 8 bytes of a tag
abbrev first_bytes : Tag → List ℕ
first_bytes t = big_endian 4 t.block ++ (0 ∷ 0 ∷ []) ++ big_endian 2 (flag_word t)

-- the high bytes of a spelled tag's number are read back
high_read : (l : Layout) (uuid rest : List ℕ) (t : Tag) →
    IsLayout l → t.block < every_number l →
    number_at 8 (l.number_bytes - 4) (tag_spelling l uuid t ++ rest) ≡ t.block / 2 ^ 32
high_read l uuid rest t layout below =
    let high : List ℕ = big_endian (l.number_bytes - 4) (t.block / 2 ^ 32) in
    let behind : List ℕ = if t.same_uuid then [] else uuid in
    ap (λ bytes. number_at 8 (l.number_bytes - 4) (first_bytes t ++ bytes)) (append_assoc high behind rest)
    ∙ number_behind_bytes (first_bytes t) (behind ++ rest) 8 (l.number_bytes - 4) (t.block / 2 ^ 32) refl (high_spellable l t.block layout below)

-- a spelled tag is read back
tag_read : (l : Layout) (uuid rest : List ℕ) (t : Tag) →
    IsLayout l → length uuid ≡ uuid_bytes → t.block < every_number l →
    BeginsWithTag l (tag_spelling l uuid t ++ rest) t
tag_read l uuid rest t layout size below =
    let spelling : List ℕ = tag_spelling l uuid t in
    let low = number_in_big_endian_mod 4 t.block (drop 4 (spelling ++ rest)) in
    let high = high_read l uuid rest t layout below in
    record {
      room = begins_long spelling rest (tag_bytes l) (omega (arith, length-tag_spelling l uuid t (measures l layout).small size));
      block = sym (ap₂ (λ low high. low + 2 ^ 32 * high) low high ∙ mod-add-div t.block (2 ^ 32));
      flags = number_behind_bytes (big_endian 4 t.block ++ (0 ∷ 0 ∷ [])) (drop 8 (spelling ++ rest)) 6 2 (flag_word t) refl (flag_word_small t);
    }

-- a last tag alone is read back
last_tag : (l : Layout) (uuid rest : List ℕ) (t : Tag) →
    IsLayout l → length uuid ≡ uuid_bytes → t.block < every_number l → t.last ≡ true →
    BeginsWithTags l (tag_spelling l uuid t ++ rest) (t ∷ [])
last_tag l uuid rest t layout size below last = (tag_read l uuid rest t layout size below, last)

-- a tag before others is read back
next_tag : (l : Layout) (uuid rest : List ℕ) (t u : Tag) (tags : List Tag) →
    IsLayout l → length uuid ≡ uuid_bytes → t.block < every_number l → t.last ≡ false → BeginsWithTags l rest (u ∷ tags) →
    BeginsWithTags l (tag_spelling l uuid t ++ rest) (t ∷ u ∷ tags)
next_tag l uuid rest t u tags layout size below last others =
    let long : length (tag_spelling l uuid t) ≡ tag_bytes l + uuid_behind t = length-tag_spelling l uuid t (measures l layout).small size in (
      tag_read l uuid rest t layout size below,
      last,
      begins_long (tag_spelling l uuid t) rest (tag_bytes l + uuid_behind t) (le_of_eq (sym long)),
      subst (λ bytes. BeginsWithTags l bytes (u ∷ tags)) (sym (drop_at (tag_spelling l uuid t) rest (tag_bytes l + uuid_behind t) long)) others,
    )

-- the spelled tags of a group of copies are read back
pub tags_read : (l : Layout) (uuid rest : List ℕ) (first : Bool) (c : ℕ × List ℕ) (cs : List (ℕ × List ℕ)) →
    IsLayout l → length uuid ≡ uuid_bytes → AllByRecursion (λ d. d.0 < every_number l) (c ∷ cs) →
    BeginsWithTags l (flat_map (tag_spelling l uuid) (tags_from first (c ∷ cs)) ++ rest) (tags_from first (c ∷ cs))
tags_read l uuid rest first c [] layout size below =
    let t : Tag = record { block = c.0; escaped = begins_with_magic c.1; same_uuid = not first; last = true } in
    let read = last_tag l uuid rest t layout size below.0 refl in
    subst (λ bytes. BeginsWithTags l bytes (t ∷ [])) (sym (append_assoc (tag_spelling l uuid t) [] rest)) read
tags_read l uuid rest first c (d ∷ ds) layout size below =
    let t : Tag = record { block = c.0; escaped = begins_with_magic c.1; same_uuid = not first; last = false } in
    let u : Tag = record { block = d.0; escaped = begins_with_magic d.1; same_uuid = true; last = is_empty ds } in
    let others : List ℕ = flat_map (tag_spelling l uuid) (u ∷ tags_from false ds) in
    let read = next_tag l uuid (others ++ rest) t u (tags_from false ds) layout size below.0 refl (tags_read l uuid rest false d ds layout size below.1) in
    subst (λ bytes. BeginsWithTags l bytes (t ∷ u ∷ tags_from false ds)) (sym (append_assoc (tag_spelling l uuid t) others rest)) read
