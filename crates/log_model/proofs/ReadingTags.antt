-- The bytes of a descriptor block determine its tags.
use Rattle.std.proofs.Common.{◌≡◌, ℕ, ◌+◌, ◌<◌, ◌≤◌, Bool, true, false, true≢false, if◌then◌else◌, List, [], ◌∷◌, ◌++◌, length, drop, arith, refl, sym, ◌∙◌, subst, ap, append_assoc}
use Rattle.std.specs.List.{All}
use Rattle.std.proofs.lemmas.List.{drop-drop, get_or_at, length-append, length-drop}
use Rattle.std.proofs.lemmas.List.Elements.{All-push, All-same}
use Rattle.log_model.specs.declared.log.Tag.{Tag}
use Rattle.journal_model.specs.Layout.{Layout, tag_bytes}
use Rattle.log_model.specs.Descriptor.{uuid_behind, BeginsWithTag, BeginsWithTags, IsDescriptor}
use Rattle.log_model.specs.ReadingLog.{HasTags}

-- a flag word has one choice of the three flags
one_flag_word :
    (escaped same_uuid last escaped' same_uuid' last' : Bool)
    → (if escaped then 1 else 0) + (if same_uuid then 2 else 0) + (if last then 8 else 0)
    ≡ (if escaped' then 1 else 0) + (if same_uuid' then 2 else 0) + (if last' then 8 else 0)
    → (escaped ≡ escaped') × (same_uuid ≡ same_uuid') × (last ≡ last')
one_flag_word escaped same_uuid last escaped' same_uuid' last' e = grind arith

-- tags with the same fields are equal
same_tag :
    (t u : Tag) → t.block ≡ u.block → (t.escaped ≡ u.escaped) × (t.same_uuid ≡ u.same_uuid) × (t.last ≡ u.last) → t ≡ u
same_tag t u block flags =
    let tag : ℕ → Bool → Bool → Bool → Tag =
    λ n e s l. record { block = n; escaped = e; same_uuid = s; last = l } in
    ap (λ n. tag n t.escaped t.same_uuid t.last) block ∙ ap (λ e. tag u.block e t.same_uuid t.last) flags.0
    ∙ ap (λ s. tag u.block u.escaped s t.last) flags.1 ∙ ap (λ l. tag u.block u.escaped u.same_uuid l) flags.2

-- bytes begin with at most one tag
pub one_tag : {l : Layout} {bytes : List ℕ} {t u : Tag} → BeginsWithTag l bytes t → BeginsWithTag l bytes u → t ≡ u
one_tag {l} {bytes} {t} {u} p q =
    same_tag t u (p.block ∙ sym q.block)
    (one_flag_word t.escaped t.same_uuid t.last u.escaped u.same_uuid u.last (sym p.flags ∙ q.flags))

-- bytes begin with at most one list of tags
pub one_list_of_tags :
    (l : Layout) (tags others : List Tag) (bytes : List ℕ)
    → BeginsWithTags l bytes tags → BeginsWithTags l bytes others → tags ≡ others
one_list_of_tags l [] others bytes p q = absurd p
one_list_of_tags l (t ∷ tags) [] bytes p q = absurd q
one_list_of_tags l (t ∷ []) (u ∷ []) bytes p q = ap (λ x. x ∷ []) (one_tag p.0 q.0)
one_list_of_tags l (t ∷ []) (u ∷ v ∷ others) bytes p q =
    let e = one_tag p.0 q.0 in let yes = p.1 in let no = q.1 in cc
one_list_of_tags l (t ∷ s ∷ tags) (u ∷ []) bytes p q =
    let e = one_tag p.0 q.0 in let no = p.1 in let yes = q.1 in cc
one_list_of_tags l (t ∷ s ∷ tags) (u ∷ v ∷ others) bytes p q =
    let e = one_tag p.0 q.0 in
    let behind = subst (λ x. BeginsWithTags l (drop (tag_bytes l + uuid_behind x) bytes) (s ∷ tags)) e p.3 in
    let rest = one_list_of_tags l (s ∷ tags) (v ∷ others) _ behind q.3 in
    cc

-- a descriptor has one list of tags
pub one_descriptor :
    {l : Layout} {count sequence : ℕ} {block : List ℕ} {tags others : List Tag}
    → IsDescriptor l count sequence block tags → IsDescriptor l count sequence block others → tags ≡ others
one_descriptor {l} {tags = tags} {others = others} p q = one_list_of_tags l tags others _ p.spelled q.spelled

module _ (l : Layout) where
  -- a tag that is not the last one precedes the others
  pub tag_before :
      (bytes : List ℕ) (t : Tag) (rest : List Tag) → BeginsWithTag l bytes t → t.last ≡ false
      → tag_bytes l + uuid_behind t ≤ length bytes
      → BeginsWithTags l (drop (tag_bytes l + uuid_behind t) bytes) rest → BeginsWithTags l bytes (t ∷ rest)
  tag_before bytes t [] tag more room behind = absurd behind
  tag_before bytes t (u ∷ rest) tag more room behind = (tag, more, room, behind)

  -- the others follow a tag that is not the last one
  pub tag_after :
      (bytes : List ℕ) (t : Tag) (whole : List Tag) → BeginsWithTag l bytes t → t.last ≡ false
      → BeginsWithTags l bytes whole
      → (rest : List Tag) × (whole ≡ t ∷ rest) × (tag_bytes l + uuid_behind t ≤ length bytes)
      × BeginsWithTags l (drop (tag_bytes l + uuid_behind t) bytes) rest
  tag_after bytes t [] tag more whole = absurd whole
  tag_after bytes t (u ∷ []) tag more whole =
      let e = one_tag tag whole.0 in let last = whole.1 in
      let wrong : true ≡ false = cc in absurd (true≢false wrong)
  tag_after bytes t (u ∷ v ∷ rest) tag more whole =
      let e = one_tag whole.0 tag in (
        v ∷ rest,
        ap (λ x. x ∷ v ∷ rest) e,
        subst (λ x. tag_bytes l + uuid_behind x ≤ length bytes) e whole.2,
        subst (λ x. BeginsWithTags l (drop (tag_bytes l + uuid_behind x) bytes) (v ∷ rest)) e whole.3,
      )

  -- bytes that begin with no tag begin with no list of tags
  pub no_tag_no_list :
      (bytes : List ℕ) (whole : List Tag) → ((t : Tag) → BeginsWithTag l bytes t → ⊥) → BeginsWithTags l bytes whole → ⊥
  no_tag_no_list bytes [] none whole = whole
  no_tag_no_list bytes (t ∷ []) none whole = none t whole.0
  no_tag_no_list bytes (t ∷ u ∷ rest) none whole = none t whole.0

  -- no bytes begin with no tag
  pub no_tags_in_none : (whole : List Tag) → BeginsWithTags l [] whole → ⊥
  no_tags_in_none whole is =
      no_tag_no_list [] whole (λ t tag. let room = tag.room in absurd (omega arith)) is

  -- the first of the tags that the bytes begin with
  pub first_of_list :
      (bytes : List ℕ) (t : Tag) (whole : List Tag) → BeginsWithTag l bytes t → BeginsWithTags l bytes whole
      → (rest : List Tag) × (whole ≡ t ∷ rest)
  first_of_list bytes t [] tag whole = absurd whole
  first_of_list bytes t (u ∷ []) tag whole = ([], ap (λ x. x ∷ []) (one_tag whole.0 tag))
  first_of_list bytes t (u ∷ v ∷ rest) tag whole = (v ∷ rest, ap (λ x. x ∷ v ∷ rest) (one_tag whole.0 tag))

-- These tags, none of them last, take the bytes up to a place, and any tags of the bytes go on after it.
pub record TagsSoFar (l : Layout) (count : ℕ) (bytes : List ℕ) (place : ℕ) (tags : List Tag) : Type 0 where
  pub below : All (λ t. t.block < count) tags
  pub on : (rest : List Tag) → place ≤ length bytes → BeginsWithTags l (drop place bytes) rest
      → BeginsWithTags l bytes (tags ++ rest)
  pub only : (whole : List Tag) → BeginsWithTags l bytes whole
      → (rest : List Tag) × (whole ≡ tags ++ rest) × (place ≤ length bytes) × BeginsWithTags l (drop place bytes) rest

module _ (l : Layout) (count : ℕ) (bytes : List ℕ) where
  module _
      (place : ℕ) (tags : List Tag) (far : TagsSoFar l count bytes place tags)
      (ahead : List ℕ) (here : ahead ≡ drop place bytes) where
    -- all tags of the bytes are those so far, then those ahead
    tags_ahead :
        (whole : List Tag) → BeginsWithTags l bytes whole
        → (rest : List Tag) × (whole ≡ tags ++ rest) × (place ≤ length bytes) × BeginsWithTags l ahead rest
    tags_ahead whole is =
        let after = far.only whole is in
        (after.0, after.1, after.2, subst (λ xs. BeginsWithTags l xs after.0) (sym here) after.3)

    -- tags of the bytes ahead complete those so far
    tags_on :
        (rest : List Tag) → place ≤ length bytes → BeginsWithTags l ahead rest → BeginsWithTags l bytes (tags ++ rest)
    tags_on rest fits is = far.on rest fits (subst (λ xs. BeginsWithTags l xs rest) here is)

    -- one more tag that is not last
    pub tags_more :
        (t : Tag) (next : ℕ) → place ≤ length bytes → BeginsWithTag l ahead t → t.last ≡ false → t.block < count
        → next ≡ place + (tag_bytes l + uuid_behind t) → TagsSoFar l count bytes next (tags ++ t ∷ [])
    tags_more t next fits tag more low e = record {
      below = All-push (λ u. u.block < count) tags t far.below low;
      on = λ rest h behind.
          rw append_assoc
          (tags_on (t ∷ rest) fits
          (tag_before l ahead t rest tag more (rw (here, length-drop) (omega arith))
          (subst (λ xs. BeginsWithTags l xs rest) (behind_tag next e) behind)));
      only = λ whole is.
          let after = tags_ahead whole is in
          let one = tag_after l ahead t after.0 tag more after.3 in
          let size = ap length here ∙ length-drop place bytes in
          let room = one.2 in (
            one.0,
            after.1 ∙ ap (λ xs. tags ++ xs) one.1 ∙ sym (append_assoc tags (t ∷ []) one.0),
            omega arith,
            subst (λ xs. BeginsWithTags l xs one.0) (sym (behind_tag next e)) one.3,
          );
    } where
      -- the bytes after the tag
      behind_tag : (at : ℕ) → at ≡ place + (tag_bytes l + uuid_behind t)
          → drop at bytes ≡ drop (tag_bytes l + uuid_behind t) ahead
      behind_tag at h =
          ap (λ n. drop n bytes) h ∙ sym (drop-drop (tag_bytes l + uuid_behind t) place bytes)
          ∙ ap (drop (tag_bytes l + uuid_behind t)) (sym here)

    -- the last tag completes those so far
    pub tags_last :
        (t : Tag) → place ≤ length bytes → BeginsWithTag l ahead t → t.last ≡ true → t.block < count
        → HasTags l count bytes (tags ++ t ∷ [])
    tags_last t fits tag last low = record {
      spelled = tags_on (t ∷ []) fits (tag, last);
      below = All-push (λ u. u.block < count) tags t far.below low;
    }

    -- if no tag stands ahead, the bytes have no tags
    pub tags_stop :
        ((t : Tag) → BeginsWithTag l ahead t → ⊥) → (whole : List Tag) → HasTags l count bytes whole → ⊥
    tags_stop none whole is =
        let after = tags_ahead whole is.spelled in no_tag_no_list l ahead after.0 none after.3

    -- if the next tag names no home block, the bytes have no tags
    pub tags_above :
        (t : Tag) → BeginsWithTag l ahead t → count ≤ t.block → (whole : List Tag) → HasTags l count bytes whole → ⊥
    tags_above t tag high whole is =
        let after = tags_ahead whole is.spelled in
        let first = first_of_list l ahead t after.0 tag after.3 in
        let all : tags ++ t ∷ first.0 ≡ whole = ap (λ rest. tags ++ rest) (sym first.1) ∙ sym after.1 in
        let below = All-same (λ u. u.block < count) (tags ++ t ∷ first.0) whole all is.below in
        let low : t.block < count =
        subst (λ u. u.block < count) (get_or_at tags t first.0 t (length tags) refl)
        (below (length tags) t (rw length-append (omega arith))) in
        omega arith
