-- What the writer makes of some copies and some numbers.
use Rattle.std.proofs.Common.{refl, ap, sym, ◌∙◌, arith}
use Rattle.std.specs.Prelude.{◌≡◌, ℕ, suc, ◌+◌, ◌*◌, ◌^◌, ◌<◌, ◌≤◌, Bool, true, false, List, [], ◌∷◌, ◌++◌, length, drop, min, All}
use Rattle.std.proofs.lemmas.List.Elements.{All-cons, All-head, All-nil, All-tail, All-weaker}
use Rattle.std.proofs.Math.Nat.{le-min, min-le_left, min-le_right}
use Rattle.log_model.specs.declared.log.Tag.{Tag}
use Rattle.journal_model.specs.Block.{IsAllowedBlock}
use Rattle.log_model.specs.Descriptor.{IsDescriptor, descriptor_block}
use Rattle.journal_model.specs.Layout.{IsLayout, Layout, big_endian, every_number, header, number_at, numbers_of, padded, revoke_header_bytes, revoke_type, tags_of, uuid_bytes}
use Rattle.log_model.specs.OwnText.{tags_from}
use Rattle.log_model.specs.RevokeBlock.{IsRevokeBlock, revoke_block}
use Rattle.log_model.proofs.OwnTextBlocks.{copies_are}
use Rattle.log_model.proofs.OwnTextHeader.{header_read}
use Rattle.log_model.proofs.OwnTextRevokes.{revoke_block_is}
use Rattle.log_format.specs.Size.{FitDescriptor}

-- there is a tag for each copy
length-tags_from : (first : Bool) (copies : List (ℕ × List ℕ)) → length (tags_from first copies) ≡ length copies
length-tags_from first [] = refl
length-tags_from first (c ∷ cs) = ap suc (length-tags_from false cs)

-- tags after the first have the same-UUID flag
later_tags : (copies : List (ℕ × List ℕ)) → All (λ t. t.same_uuid ≡ true) (tags_from false copies)
later_tags [] = All-nil (λ t. t.same_uuid ≡ true)
later_tags (c ∷ cs) = All-cons (λ t. t.same_uuid ≡ true) _ (tags_from false cs) refl (later_tags cs)

-- only the first tag lacks it
one_uuid : (copies : List (ℕ × List ℕ)) → All (λ t. t.same_uuid ≡ true) (drop 1 (tags_from true copies))
one_uuid [] = All-nil (λ t. t.same_uuid ≡ true)
one_uuid (c ∷ cs) = later_tags cs

-- the tags name the blocks of the copies
tags_below : (count : ℕ) (first : Bool) (copies : List (ℕ × List ℕ)) →
    All (λ c. c.0 < count) copies →
    All (λ t. t.block < count) (tags_from first copies)
tags_below count first [] below = All-nil (λ t. t.block < count)
tags_below count first (c ∷ cs) below =
    All-cons (λ t. t.block < count) _ (tags_from false cs) (All-head (λ d. d.0 < count) c cs below)
    (tags_below count false cs (All-tail (λ d. d.0 < count) c cs below))

-- the tags of a few copies fit one descriptor
pub tags_from-fit : (l : Layout) (copies : List (ℕ × List ℕ)) →
    length copies ≤ tags_of l → All (λ c. c.0 < every_number l) copies →
    FitDescriptor l (tags_from true copies)
tags_from-fit l copies few below =
    record {
      few = omega (arith, length-tags_from true copies);
      one_uuid = one_uuid copies;
      spelled = tags_below (every_number l) true copies below;
    }

-- a revoke block without numbers is one
none_revoked : (l : Layout) (count sequence : ℕ) → IsLayout l → sequence < 2 ^ 32 → IsRevokeBlock l count sequence (revoke_block l sequence []) []
unfolding revoke_block padded
none_revoked l count sequence is small =
    let used_is : ℕ → ℕ = λ n. number_at 12 4 (padded l.block_size (header revoke_type sequence ++ big_endian 4 n ++ [])) in
    let none : revoke_header_bytes + l.number_bytes * 0 ≡ 16 = omega arith in
    record {
      has_header = header_read revoke_type sequence _ (omega arith) small;
      used = ap used_is none ∙ sym none;
      fits = omega (arith, none, is.0);
      spelled = refl;
      below = All-nil (λ b. b < count);
    }

-- an allowed number is below both counts, so below the lesser one
below_lesser : (l : Layout) (count b : ℕ) → IsAllowedBlock l count b → b < min count (every_number l)
below_lesser l count b allowed = le-min allowed.in_home allowed.spelled

-- a few numbers below a spellable count make a revoke block
few_revoked : (l : Layout) (count sequence : ℕ) (numbers : List ℕ) →
    IsLayout l → count ≤ every_number l → sequence < 2 ^ 32 →
    length numbers ≤ numbers_of l → All (λ b. b < count) numbers →
    IsRevokeBlock l count sequence (revoke_block l sequence numbers) numbers
few_revoked l count sequence [] is spelled small few below = none_revoked l count sequence is small
few_revoked l count sequence (n ∷ ns) is spelled small few below =
    revoke_block_is l count sequence (n ∷ ns) is spelled small (record { some = omega arith; most = few; each = below })

-- a revoke block stays one for a greater home area
more_home_revoked : (l : Layout) (count less sequence : ℕ) (block numbers : List ℕ) →
    less ≤ count → IsRevokeBlock l less sequence block numbers → IsRevokeBlock l count sequence block numbers
more_home_revoked l count less sequence block numbers le is =
    record {
      has_header = is.has_header;
      used = is.used;
      fits = is.fits;
      spelled = is.spelled;
      below = All-weaker (λ b. b < less) (λ b. b < count) (λ b h. omega arith) numbers is.below;
    }

-- the revoke block of a few allowed numbers is one of them
pub numbers_revoked : (l : Layout) (count sequence : ℕ) (numbers : List ℕ) →
    IsLayout l → sequence < 2 ^ 32 →
    length numbers ≤ numbers_of l → All (IsAllowedBlock l count) numbers →
    IsRevokeBlock l count sequence (revoke_block l sequence numbers) numbers
numbers_revoked l count sequence numbers is small few allowed =
    let lesser : ℕ = min count (every_number l) in
    let below = All-weaker (IsAllowedBlock l count) (λ b. b < lesser) (below_lesser l count) numbers allowed in
    more_home_revoked l count lesser sequence _ numbers (min-le_left count (every_number l))
    (few_revoked l lesser sequence numbers is (min-le_right count (every_number l)) small few below)

-- a descriptor for a home area is one for a greater home area
more_home_described : (l : Layout) (count less sequence : ℕ) (block : List ℕ) (tags : List Tag) →
    less ≤ count → IsDescriptor l less sequence block tags → IsDescriptor l count sequence block tags
more_home_described l count less sequence block tags le is =
    record {
      has_header = is.has_header;
      spelled = is.spelled;
      below = All-weaker (λ t. t.block < less) (λ t. t.block < count) (λ t h. omega arith) tags is.below;
    }

-- the descriptor of a few copies is one with their tags
pub copies_described : (l : Layout) (count sequence : ℕ) (uuid : List ℕ) (copies : List (ℕ × List ℕ)) →
    IsLayout l → length uuid ≡ uuid_bytes → sequence < 2 ^ 32 →
    0 < length copies → length copies ≤ tags_of l → All (λ c. IsAllowedBlock l count c.0) copies →
    IsDescriptor l count sequence (descriptor_block l uuid sequence (tags_from true copies)) (tags_from true copies)
copies_described l count sequence uuid copies is long small some few allowed =
    let lesser : ℕ = min count (every_number l) in
    let below = All-weaker (λ c. IsAllowedBlock l count c.0) (λ c. c.0 < lesser) (λ c. below_lesser l count c.0) copies allowed in
    let group = copies_are l uuid lesser sequence copies is long (min-le_right count (every_number l)) small (record { some = some; most = few; each = below }) in
    more_home_described l count lesser sequence _ (tags_from true copies) (min-le_left count (every_number l)) group.descriptor
