-- The writer's descriptor block of some copies, and the copies after it.
use Rattle.std.proofs.Common.{refl, ap, ap₂, sym, ◌∙◌, arith, le_of_eq, le_trans, length-append}
use Rattle.std.specs.Prelude.{◌≡◌, ℕ, suc, ◌+◌, ◌*◌, ◌^◌, ◌<◌, ◌≤◌, Bool, true, false, not, if◌then◌else◌, List, [], ◌∷◌, ◌++◌, length, map, All}
use Rattle.std.specs.List.{flat_map, zip}
use Rattle.std.proofs.lemmas.List.{length-map}
use Rattle.std.proofs.lemmas.List.Elements.{All-cons, All-head, All-nil, All-tail, All-weaker, recursion_from_All}
use Rattle.log_model.specs.declared.log.Tag.{Tag}
use Rattle.journal_model.specs.Layout.{Layout, IsLayout, begins_with_magic, descriptor_type, every_number, header, padded, tag_bytes, tags_of, uuid_bytes}
use Rattle.log_model.specs.Descriptor.{IsDescriptor, descriptor_block, tag_spelling}
use Rattle.log_model.specs.Escape.{escaped, unescaped}
use Rattle.log_model.specs.OwnText.{is_empty, tags_from}
use Rattle.log_model.specs.Text.{HasCopies}
use Rattle.log_model.proofs.OwnTextEscapes.{unescaped-escaped}
use Rattle.log_model.proofs.OwnTextGroups.{IsGroup}
use Rattle.log_model.proofs.OwnTextHeader.{HasMeasures, header_read, length-padded, measures, tags_fit}
use Rattle.log_model.proofs.OwnTextTags.{length-tag_spelling, tags_read}

-- there is a tag for each copy
length-tags_from : (first : Bool) (copies : List (ℕ × List ℕ)) → length (tags_from first copies) ≡ length copies
length-tags_from first [] = refl
length-tags_from first (c ∷ cs) = ap suc (length-tags_from false cs)

-- the tags name the blocks of the copies
tags_below : (count : ℕ) (first : Bool) (copies : List (ℕ × List ℕ)) →
    All (λ c. c.0 < count) copies →
    All (λ t. t.block < count) (tags_from first copies)
tags_below count first [] below = All-nil (λ t. t.block < count)
tags_below count first (c ∷ cs) below =
    let others = tags_below count false cs (All-tail (λ d. d.0 < count) c cs below) in
    All-cons (λ t. t.block < count) _ (tags_from false cs) (All-head (λ d. d.0 < count) c cs below) others

-- a descriptor's header and tags are read back, whatever stands after them
descriptor_bytes_are : (l : Layout) (uuid rest : List ℕ) (count sequence : ℕ) (c : ℕ × List ℕ) (cs : List (ℕ × List ℕ)) →
    IsLayout l → length uuid ≡ uuid_bytes → count ≤ every_number l → sequence < 2 ^ 32 → All (λ d. d.0 < count) (c ∷ cs) →
    IsDescriptor l count sequence
    (header descriptor_type sequence ++ flat_map (tag_spelling l uuid) (tags_from true (c ∷ cs)) ++ rest)
    (tags_from true (c ∷ cs))
descriptor_bytes_are l uuid rest count sequence c cs layout size spells small below =
    let behind : List ℕ = flat_map (tag_spelling l uuid) (tags_from true (c ∷ cs)) ++ rest in
    let spellable = All-weaker (λ d. d.0 < count) (λ d. d.0 < every_number l) (λ d h. omega arith) (c ∷ cs) below in
    record {
      has_header = header_read descriptor_type sequence behind (omega arith) small;
      spelled = tags_read l uuid rest true c cs layout size (recursion_from_All _ (c ∷ cs) spellable);
      below = tags_below count true (c ∷ cs) below;
    }

-- a group of copies makes a descriptor block of their tags
descriptor_block_is : (l : Layout) (uuid : List ℕ) (count sequence : ℕ) (copies : List (ℕ × List ℕ)) →
    IsLayout l → length uuid ≡ uuid_bytes → count ≤ every_number l → sequence < 2 ^ 32 → 0 < length copies → All (λ d. d.0 < count) copies →
    IsDescriptor l count sequence (descriptor_block l uuid sequence (tags_from true copies)) (tags_from true copies)
unfolding descriptor_block padded
descriptor_block_is l uuid count sequence [] layout size spells small some below = absurd (omega arith)
descriptor_block_is l uuid count sequence (c ∷ cs) layout size spells small some below =
    descriptor_bytes_are l uuid _ count sequence c cs layout size spells small below

-- with the escaped copies after it, it is a piece of a text
pub copies_are : (l : Layout) (uuid : List ℕ) (count sequence : ℕ) (copies : List (ℕ × List ℕ)) →
    IsLayout l → length uuid ≡ uuid_bytes → count ≤ every_number l → sequence < 2 ^ 32 → IsGroup (λ d. d.0 < count) (tags_of l) copies →
    HasCopies l count sequence (descriptor_block l uuid sequence (tags_from true copies)) (tags_from true copies) (map (λ c. escaped c.1) copies)
copies_are l uuid count sequence copies layout size spells small group =
    record {
      descriptor = descriptor_block_is l uuid count sequence copies layout size spells small group.some group.each;
      each_tag = length-map copies (λ c. escaped c.1) ∙ sym (length-tags_from true copies);
    }

-- a UUID follows the first tag alone
uuid_once : (first : Bool) → (if not first then 0 else uuid_bytes) ≡ (if first then uuid_bytes else 0)
uuid_once true = refl
uuid_once false = refl

-- the bytes of tags include at most one UUID
length_tags : (l : Layout) (uuid : List ℕ) (first : Bool) (copies : List (ℕ × List ℕ)) →
    4 ≤ l.number_bytes → length uuid ≡ uuid_bytes →
    length (flat_map (tag_spelling l uuid) (tags_from first copies)) ≤ length copies * tag_bytes l + (if first then uuid_bytes else 0)
length_tags l uuid first [] small size = omega arith
length_tags l uuid first (c ∷ cs) small size =
    let t : Tag = record { block = c.0; escaped = begins_with_magic c.1; same_uuid = not first; last = is_empty cs } in
    let sum = length-append (tag_spelling l uuid t) (flat_map (tag_spelling l uuid) (tags_from false cs)) in
    let others = length_tags l uuid false cs small size in
    le_trans (le_of_eq sum) (omega (arith, length-tag_spelling l uuid t small size, uuid_once first, others))

-- a descriptor block has the block size
pub length-descriptor_block : (l : Layout) (uuid : List ℕ) (sequence : ℕ) (copies : List (ℕ × List ℕ)) →
    IsLayout l → length uuid ≡ uuid_bytes → length copies ≤ tags_of l →
    length (descriptor_block l uuid sequence (tags_from true copies)) ≡ l.block_size
unfolding descriptor_block
length-descriptor_block l uuid sequence copies layout size fits =
    let m : HasMeasures l = measures l layout in
    length-padded l.block_size _ (omega (arith, length_tags l uuid true copies m.small size, tags_fit l (length copies) m fits))

-- the tags and the escaped copies say the copies
pub copies_said : (first : Bool) (copies : List (ℕ × List ℕ)) →
    map (λ p. (p.0.block, unescaped p.0.escaped p.1)) (zip (tags_from first copies) (map (λ c. escaped c.1) copies)) ≡ copies
copies_said first [] = refl
copies_said first (c ∷ cs) = ap₂ (λ v ds. (c.0, v) ∷ ds) (unescaped-escaped c.1) (copies_said false cs)
