-- The tags so far, and the bytes after them, determine the whole.
use Rattle.std.proofs.Common.{refl, ap, sym, subst, ◌∙◌, arith, append_assoc, drop_at}
use Rattle.std.specs.Prelude.{◌≡◌, ℕ, ◌+◌, ◌*◌, ◌<◌, ◌≤◌, Bool, true, false, if◌then◌else◌, List, [], ◌∷◌, ◌++◌, length, drop, All}
use Rattle.std.proofs.lemmas.List.Elements.{All-drop, All-head, All-push, All-same}
use Rattle.log_model.specs.declared.log.Tag.{Tag}
use Rattle.journal_model.specs.Layout.{Layout, tag_bytes}
use Rattle.log_model.specs.Descriptor.{BeginsWithTag, BeginsWithTags, flag_word, uuid_behind}

-- a flag is a multiple of its own number
times : (flag : Bool) (n : ℕ) → (if flag then n else 0) ≡ n * (if flag then 1 else 0)
times true n = omega arith
times false n = omega arith

-- the lowest flag and the others are determined by their sum
lowest : (a b : Bool) (m n : ℕ) → (if a then 1 else 0) + 2 * m ≡ (if b then 1 else 0) + 2 * n → (a ≡ b) × (m ≡ n)
lowest true true m n same = (refl, omega arith)
lowest true false m n same = absurd (omega arith)
lowest false true m n same = absurd (omega arith)
lowest false false m n same = (refl, omega arith)

-- the tag of these fields
abbrev tag_of : ℕ → Bool → Bool → Bool → Tag
tag_of n escaped same_uuid last = record { block = n; escaped = escaped; same_uuid = same_uuid; last = last }

-- a tag by its fields
same_fields : (t u : Tag) → t.block ≡ u.block → t.escaped ≡ u.escaped → t.same_uuid ≡ u.same_uuid → t.last ≡ u.last → t ≡ u
same_fields t u block escaped same_uuid last =
    ap (λ n. tag_of n t.escaped t.same_uuid t.last) block ∙ ap (λ flag. tag_of u.block flag t.same_uuid t.last) escaped
    ∙ ap (λ flag. tag_of u.block u.escaped flag t.last) same_uuid ∙ ap (λ flag. tag_of u.block u.escaped u.same_uuid flag) last

-- bytes begin with at most one tag
pub one_tag : (l : Layout) (bytes : List ℕ) (t u : Tag) → BeginsWithTag l bytes t → BeginsWithTag l bytes u → t ≡ u
one_tag l bytes t u first second =
    let flags : flag_word t ≡ flag_word u = sym first.flags ∙ second.flags in
    let low = lowest t.escaped u.escaped
    ((if t.same_uuid then 1 else 0) + 2 * (2 * (if t.last then 1 else 0)))
    ((if u.same_uuid then 1 else 0) + 2 * (2 * (if u.last then 1 else 0)))
    (omega (arith, times t.same_uuid 2, times u.same_uuid 2, times t.last 8, times u.last 8)) in
    let middle = lowest t.same_uuid u.same_uuid (2 * (if t.last then 1 else 0)) (2 * (if u.last then 1 else 0)) low.1 in
    let high = lowest t.last u.last 0 0 (omega (arith, middle.1)) in
    same_fields t u (first.block ∙ sym second.block) low.0 middle.0 high.0

-- the bytes begin with the tags done, then with those of the rest
pub record Reads (l : Layout) (home : ℕ) (bytes rest : List ℕ) (done : List Tag) : Type 0 where
  pub onward : (us : List Tag) → BeginsWithTags l rest us → BeginsWithTags l bytes (done ++ us)
  pub back : (ts : List Tag) → BeginsWithTags l bytes ts → (us : List Tag) × ((ts ≡ done ++ us) × BeginsWithTags l rest us)
  pub below : All (λ t. t.block < home) done

-- a tag that is not the last one, before others
not_last : (l : Layout) (rest : List ℕ) (t : Tag) (us : List Tag) →
    BeginsWithTag l rest t → t.last ≡ false → tag_bytes l + uuid_behind t ≤ length rest →
    BeginsWithTags l (drop (tag_bytes l + uuid_behind t) rest) us →
    BeginsWithTags l rest (t ∷ us)
not_last l rest t [] begins last room others = absurd others
not_last l rest t (u ∷ us) begins last room others = (begins, last, room, others)

-- what follows a tag that is not the last one
after_tag : (l : Layout) (rest : List ℕ) (t : Tag) (us : List Tag) →
    BeginsWithTag l rest t → t.last ≡ false → BeginsWithTags l rest us →
    (vs : List Tag) × ((us ≡ t ∷ vs) × (tag_bytes l + uuid_behind t ≤ length rest) × BeginsWithTags l (drop (tag_bytes l + uuid_behind t) rest) vs)
after_tag l rest t [] begins last others = absurd others
after_tag l rest t (u ∷ []) begins last others = let same = one_tag l rest u t others.0 begins in absurd (let lasts : u.last ≡ true = others.1 in cc (same, lasts))
after_tag l rest t (u ∷ v ∷ vs) begins last others =
    let same = one_tag l rest u t others.0 begins in
    (v ∷ vs, (ap (λ (w : Tag). w ∷ v ∷ vs) same, subst (λ (w : Tag). tag_bytes l + uuid_behind w ≤ length rest) same others.2, subst (λ (w : Tag). BeginsWithTags l (drop (tag_bytes l + uuid_behind w) rest) (v ∷ vs)) same others.3))

-- one more tag is done
pub reads_next : (l : Layout) (home : ℕ) (bytes rest : List ℕ) (done : List Tag) (t : Tag) →
    Reads l home bytes rest done → BeginsWithTag l rest t → t.block < home →
    t.last ≡ false → tag_bytes l + uuid_behind t ≤ length rest →
    Reads l home bytes (drop (tag_bytes l + uuid_behind t) rest) (done ++ t ∷ [])
reads_next l home bytes rest done t reads begins low last room =
    record {
      onward = λ us others. subst (BeginsWithTags l bytes) (sym (append_assoc done (t ∷ []) us)) (reads.onward (t ∷ us) (not_last l rest t us begins last room others));
      back = λ ts all.
          let before = reads.back ts all in
          let after = after_tag l rest t before.0 begins last before.1.1 in
          (after.0, (before.1.0 ∙ ap (λ us. done ++ us) after.1.0 ∙ sym (append_assoc done (t ∷ []) after.0), after.1.2));
      below = All-push (λ t. t.block < home) done t reads.below low;
    }

-- the last tag is done
pub reads_last : (l : Layout) (home : ℕ) (bytes rest : List ℕ) (done : List Tag) (t : Tag) →
    Reads l home bytes rest done → BeginsWithTag l rest t → t.block < home → t.last ≡ true →
    BeginsWithTags l bytes (done ++ t ∷ []) × All (λ t. t.block < home) (done ++ t ∷ [])
reads_last l home bytes rest done t reads begins low last =
    (reads.onward (t ∷ []) (begins, last), All-push (λ t. t.block < home) done t reads.below low)

-- tags begin with one tag
first_tag : (l : Layout) (home : ℕ) (rest : List ℕ) (us : List Tag) →
    BeginsWithTags l rest us → All (λ t. t.block < home) us →
    (t : Tag) × (BeginsWithTag l rest t × t.block < home)
first_tag l home rest [] begins below = absurd begins
first_tag l home rest (t ∷ []) begins below = (t, (begins.0, All-head (λ t. t.block < home) t [] below))
first_tag l home rest (t ∷ u ∷ us) begins below = (t, (begins.0, All-head (λ t. t.block < home) t (u ∷ us) below))

-- the tags after those that are done are below the home count too
behind_below : (home : ℕ) (done us ts : List Tag) → ts ≡ done ++ us → All (λ t. t.block < home) ts → All (λ t. t.block < home) us
behind_below home done us ts is below =
    All-same (λ t. t.block < home) us (drop (length done) ts) (sym (drop_at done us (length done) refl) ∙ ap (drop (length done)) (sym is))
    (All-drop (λ t. t.block < home) (length done) ts below)

-- if the rest begins with no tag, the whole has no tags
pub reads_stuck : (l : Layout) (home : ℕ) (bytes rest : List ℕ) (done ts : List Tag) →
    Reads l home bytes rest done → ((t : Tag) → BeginsWithTag l rest t → t.block < home → ⊥) →
    BeginsWithTags l bytes ts → All (λ t. t.block < home) ts →
    ⊥
reads_stuck l home bytes rest done ts reads none all below =
    let before = reads.back ts all in
    let first = first_tag l home rest before.0 before.1.1 (behind_below home done before.0 ts before.1.0 below) in
    none first.0 first.1.0 first.1.1

-- if the UUID after an inner tag does not fit, there are no tags
pub reads_short : (l : Layout) (home : ℕ) (bytes rest : List ℕ) (done ts : List Tag) (t : Tag) →
    Reads l home bytes rest done → BeginsWithTag l rest t →
    t.last ≡ false → length rest < tag_bytes l + uuid_behind t →
    BeginsWithTags l bytes ts →
    ⊥
reads_short l home bytes rest done ts t reads begins last short all =
    let before = reads.back ts all in
    let after = after_tag l rest t before.0 begins last before.1.1 in
    omega (arith, after.1.1)
