-- The tags of a descriptor, one by one.
use Rattle.std.proofs.Common.{arith, refl, sym, ap, ◌∙◌, set, take_all, get_or}
use Rattle.std.specs.Prelude.{◌≡◌, ℕ, zero, suc, ◌+◌, ◌<◌, ◌≤◌, Bool, true, false, not, nat_eq, nat_lt, List, [], ◌∷◌, ◌++◌, length, take, Some, slice_get}
use Rattle.std.proofs.lemmas.Bool.Decides.{nat_tests}
use Rattle.std.proofs.lemmas.Grind.{take-set_at}
use Rattle.std.proofs.lemmas.Option.{none-some, same_Some, slice_get_within}
use Rattle.journal_model.specs.declared.entry.Entry.{Entry}
use Rattle.journal_model.specs.declared.entry.Entry.TheVariants.{Copy, Revoke}
use Rattle.log_model.specs.declared.log.Tag.{Tag}
use Rattle.journal_model.specs.Layout.{begins_with_magic}
use Rattle.log_model.specs.OwnText.{is_empty, tags_from}
use Rattle.journal_world.proofs.Elements.{take-one_more}
use Rattle.log_ledger.specs.Text.{IsLong, bytes_in, copy_at, entry_at, is_escaped}
use Rattle.log_ledger.proofs.Copies.{entry-there}

-- the tag of a copy, with these two flags
abbrev pub tag_of : Bool → Bool → ℕ × List ℕ → Tag
tag_of same last c = record { block = c.0; escaped = begins_with_magic c.1; same_uuid = same; last = last }

-- there are as many tags as copies
pub length-tags : (first : Bool) (copies : List (ℕ × List ℕ)) → length (tags_from first copies) ≡ length copies
length-tags first [] = refl
length-tags first (c ∷ copies) = ap (λ (n : ℕ). suc n) (length-tags false copies)

-- a tag is the last if no copy follows
last-of : (c : ℕ × List ℕ) (copies : List (ℕ × List ℕ)) → is_empty copies ≡ nat_eq 1 (length (c ∷ copies))
last-of c [] = refl
last-of c (d ∷ copies) = grind (arith, nat_tests)

-- the first of the tags
first-tag : (first : Bool) (c d : ℕ × List ℕ) (copies : List (ℕ × List ℕ)) → Some c ≡ Some d →
    slice_get (tags_from first (c ∷ copies)) 0 ≡ Some (tag_of (not first) (nat_eq 1 (length (c ∷ copies))) d)
first-tag first c d copies is =
    ap (λ (last : Bool). Some (tag_of (not first) last c)) (last-of c copies)
    ∙ ap (λ (x : ℕ × List ℕ). Some (tag_of (not first) (nat_eq 1 (length (c ∷ copies))) x)) (same_Some c d is)

-- a count of one more on both sides
same-last : (k n : ℕ) → nat_eq (k + 1) n ≡ nat_eq (suc k + 1) (suc n)
same-last k n = grind (arith, nat_tests)

-- a later tag at a place of a descriptor
later-tag : (copies : List (ℕ × List ℕ)) (k : ℕ) (c : ℕ × List ℕ) → slice_get copies k ≡ Some c →
    slice_get (tags_from false copies) k ≡ Some (tag_of true (nat_eq (k + 1) (length copies)) c)
later-tag [] k c is = absurd (none-some c is)
later-tag (d ∷ copies) zero c is = first-tag false d c copies is
later-tag (d ∷ copies) (suc k) c is =
    later-tag copies k c is ∙ ap (λ (last : Bool). Some (tag_of true last c)) (same-last k (length copies))

-- the tag at a place of a descriptor
pub tag-at : (copies : List (ℕ × List ℕ)) (k : ℕ) (c : ℕ × List ℕ) → slice_get copies k ≡ Some c →
    slice_get (tags_from true copies) k ≡ Some (tag_of (nat_lt 0 k) (nat_eq (k + 1) (length copies)) c)
tag-at [] k c is = absurd (none-some c is)
tag-at (d ∷ copies) zero c is = first-tag true d c copies is
tag-at (d ∷ copies) (suc k) c is =
    later-tag copies k c is
    ∙ ap (λ (last : Bool). Some (tag_of true last c)) (same-last k (length copies))
    ∙ ap (λ (same : Bool). Some (tag_of same (nat_eq (suc k + 1) (suc (length copies))) c)) (behind k)
  where
    behind : (k : ℕ) → true ≡ nat_lt 0 (suc k)
    behind k = grind (arith, nat_tests)

-- one more right tag is written
pub tag-more : (tags right : List Tag) (k : ℕ) (t : Tag) → length tags ≡ length right → take k tags ≡ take k right → slice_get right k ≡ Some t →
    take (k + 1) (set tags k t) ≡ take (k + 1) right
tag-more tags right k t size same is =
    let within : k < length right = slice_get_within right k t is in
    take-set_at tags k (k + 1) t refl (omega arith)
    ∙ ap (λ (ts : List Tag). ts ++ t ∷ []) same
    ∙ sym (take-one_more right k t is)

-- all tags are written
pub tags-all : (tags right : List Tag) (k : ℕ) → length tags ≡ length right → length right ≤ k → take k tags ≡ take k right → tags ≡ right
tags-all tags right k size all same = sym (take_all k tags (omega arith)) ∙ same ∙ take_all k right all

-- whether a copy has to be escaped
escaped-is : (e : Entry) → IsLong e → is_escaped e ≡ begins_with_magic (bytes_in e)
escaped-is (Copy v) long = refl
escaped-is Revoke long = absurd long

-- the tag of a copy, found at two reads
pub tag-made : (entries : List (ℕ × Entry)) (place : ℕ) (d e : ℕ × Entry) (flag same last : Bool) →
    place < length entries → IsLong (entry_at entries place).1 → flag ≡ is_escaped (get_or entries place e).1 →
    Some (tag_of same last (copy_at entries place)) ≡ Some (record { block = (get_or entries place d).0; escaped = flag; same_uuid = same; last = last })
tag-made entries place d e flag same last within long is =
    let one = entry-there entries place d within in
    let other = entry-there entries place e within in
    let found : flag ≡ begins_with_magic (bytes_in (entry_at entries place).1) =
    is ∙ ap (λ (p : ℕ × Entry). is_escaped p.1) other ∙ escaped-is (entry_at entries place).1 long in
    ap (λ (p : ℕ × Entry). Some (record { block = p.0; escaped = begins_with_magic (bytes_in (entry_at entries place).1); same_uuid = same; last = last })) (sym one)
    ∙ ap (λ (f : Bool). Some (record { block = (get_or entries place d).0; escaped = f; same_uuid = same; last = last })) (sym found)
