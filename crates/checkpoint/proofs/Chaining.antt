-- Chains with one link fewer or more, and blocks that a chain does not lead to.
use Rattle.std.proofs.Common.{◌≡◌, ◌⊎◌, inl, inr, ℕ, zero, suc, ◌+◌, ◌%◌, ◌^◌, ◌<◌, ◌≤◌, true, false, List, [], ◌∷◌, ◌++◌, length, set, map, arith, refl, sym, ap, subst, ◌∙◌, Some, length-append, true≢false}
use Rattle.std.specs.List.{slice_get}
use Rattle.std.specs.Option.{option_map}
use Rattle.std.proofs.lemmas.Bool.{and_parts, cases_Bool, cases_eq, cases_lt, eqb-true}
use Rattle.std.proofs.lemmas.List.{length-map, map_push}
use Rattle.std.proofs.lemmas.Option.{slice_get-map}
use Rattle.journal_model.proofs.ListElements.{get-behind, get-front}
use Rattle.checkpoint.specs.declared.copies.QueuedCopy.{QueuedCopy}
use Rattle.checkpoint.specs.declared.copies.Link.{Link}
use Rattle.checkpoint.specs.Chains.{IsChained, Shows, befores_of, buckets_of}
use Rattle.checkpoint.specs.Copies.{bucket_of, is_live_of, withdrawn}
use Rattle.checkpoint.specs.Places.{place_of}

-- a link's number leads to its place
place-there : (first k : ℕ) → first < 2 ^ 64 → k < 2 ^ 64 → place_of first ((first + k) % 2 ^ 64) ≡ k
place-there first k f b = omega arith

-- without the first link, a number leads to one place before
place-before : (first number k : ℕ) → first < 2 ^ 64 → place_of first number ≡ suc k → place_of ((first + 1) % 2 ^ 64) number ≡ k
place-before first number k f leads = omega arith

-- without the first link, places are one less
shows-rest : (b : ℕ) (bs : List ℕ) (h p q limit : ℕ) → ((k : ℕ) → p ≡ suc k → q ≡ k) → Shows (b ∷ bs) h p (suc limit) → Shows bs h q limit
shows-rest b bs h zero q limit leads s = record { shows = λ j below is. absurd (let t = s.shows (suc j) (omega arith) is in omega (arith, t.0)) }
shows-rest b bs h (suc k) q limit leads s =
    record {
      shows = λ j below is.
          let t = s.shows (suc j) (omega arith) is in
          let same : q ≡ k = leads k refl in
          (omega (arith, t.0), omega (arith, t.1), ap (slice_get bs) same ∙ t.2);
    }

-- the chains without the first link
pub chained-rest : (b n : ℕ) (bs ns lasts : List ℕ) (first : ℕ) → first < 2 ^ 64 → IsChained (b ∷ bs) (n ∷ ns) lasts first → IsChained bs ns lasts ((first + 1) % 2 ^ 64)
chained-rest b n bs ns lasts first fits old =
    record {
      lasts_show = λ h number is. shows-rest b bs h (place_of first number) _ (length bs) (λ k leads. place-before first number k fits leads) (old.lasts_show h number is);
      befores_show = λ k h number here is. shows-rest b bs h (place_of first number) _ k (λ j leads. place-before first number j fits leads) (old.befores_show (suc k) h number here is);
    }

-- a chain with one more link after the limit
shows-more : (bs : List ℕ) (b h p limit : ℕ) → limit ≤ length bs → Shows bs h p limit → Shows (bs ++ b ∷ []) h p limit
shows-more bs b h p limit within s =
    record {
      shows = λ j below is.
          let t = s.shows j below (sym (get-front bs (b ∷ []) j (omega arith)) ∙ is) in
          (t.0, t.1, get-front bs (b ∷ []) p (omega (arith, t.1)) ∙ t.2);
    }

-- what stands in a list with one more element
get-cases : {X : Type 0} (xs : List X) (x y : X) (k : ℕ) → slice_get (xs ++ x ∷ []) k ≡ Some y → ((k < length xs) × (slice_get xs k ≡ Some y)) ⊎ ((k ≡ length xs) × (x ≡ y))
get-cases [] x y zero is = inr (refl, cc)
get-cases [] x y (suc k) is = absurd cc
get-cases (z ∷ xs) x y zero is = inl (omega arith, is)
get-cases (z ∷ xs) x y (suc k) is =
    elim (get-cases xs x y k is) [
      | inl p ↦ inl (omega (arith, p.0), p.1)
      | inr p ↦ inr (omega (arith, p.0), p.1)
    ]

-- what stands in a list with one element changed
get-set : (xs : List ℕ) (h w g m : ℕ) → slice_get (set xs h w) g ≡ Some m → ((g ≡ h) × (w ≡ m)) ⊎ (((g ≡ h) → ⊥) × (slice_get xs g ≡ Some m))
get-set [] h w g m is = absurd cc
get-set (x ∷ xs) zero w zero m is = inl (refl, cc)
get-set (x ∷ xs) zero w (suc g) m is = inr (λ e. absurd (omega arith), is)
get-set (x ∷ xs) (suc h) w zero m is = inr (λ e. absurd (omega arith), is)
get-set (x ∷ xs) (suc h) w (suc g) m is =
    elim (get-set xs h w g m is) [
      | inl p ↦ inl (omega (arith, p.0), p.1)
      | inr p ↦ inr (λ e. p.0 (omega arith), p.1)
    ]

module _ (bs ns lasts : List ℕ) (first h number : ℕ) (fits : first < 2 ^ 64) (few : length bs < 2 ^ 64) (long : length ns ≡ length bs)
    (last : slice_get lasts h ≡ Some number) (old : IsChained bs ns lasts first) where
  -- the new link is the last of its bucket
  new-last : (p : ℕ) → p ≡ length bs → Shows (bs ++ h ∷ []) h p (length (bs ++ h ∷ []))
  new-last p is =
      let more = length-append bs (h ∷ []) in
      record { shows = λ j below there. (omega arith, omega arith, get-behind bs (h ∷ []) p 0 (omega arith)) }

  -- the other buckets keep theirs
  other-last : (g p : ℕ) → (g ≡ h → ⊥) → Shows bs g p (length bs) → Shows (bs ++ h ∷ []) g p (length (bs ++ h ∷ []))
  other-last g p apart s =
      let more = length-append bs (h ∷ []) in
      record {
        shows = λ j below there.
            elim (get-cases bs h g j there) [
              | inl q ↦ let t = s.shows j q.0 q.1 in (t.0, omega (arith, t.1), get-front bs (h ∷ []) p t.1 ∙ t.2)
              | inr q ↦ absurd (apart (sym q.1))
            ];
      }

  -- the chains with one more link
  pub chained-more : IsChained (bs ++ h ∷ []) (ns ++ number ∷ []) (set lasts h ((first + length bs) % 2 ^ 64)) first
  chained-more =
      record {
        lasts_show = λ g m is.
            elim (get-set lasts h ((first + length bs) % 2 ^ 64) g m is) [
              | inl p ↦
                  let leads : place_of first m ≡ length bs = ap (place_of first) (sym p.1) ∙ place-there first (length bs) fits few in
                  subst (λ (x : ℕ). Shows (bs ++ h ∷ []) x (place_of first m) (length (bs ++ h ∷ []))) (sym p.0) (new-last (place_of first m) leads)
              | inr p ↦ other-last g (place_of first m) p.0 (old.lasts_show g m p.1)
            ];
        befores_show = λ k g m here is.
            elim (get-cases bs h g k here) [
              | inl p ↦
                  shows-more bs h g (place_of first m) k (omega (arith, p.0))
                  (old.befores_show k g m p.1 (sym (get-front ns (number ∷ []) k (omega (arith, p.0))) ∙ is))
              | inr p ↦
                  let same : Some number ≡ Some m = sym (get-behind ns (number ∷ []) k 0 (omega (arith, p.0))) ∙ is in
                  let shown : Shows bs g (place_of first m) (length bs) = old.lasts_show g m (subst (λ (x : ℕ). slice_get lasts x ≡ Some m) p.1 (last ∙ same)) in
                  shows-more bs h g (place_of first m) k (omega (arith, p.0)) (subst (λ (x : ℕ). Shows bs g (place_of first m) x) (sym p.0) shown)
            ];
      }

-- the bucket of a copy
pub bucket-at : (n : ℕ) (copies : List QueuedCopy) (k : ℕ) (c : QueuedCopy) → slice_get copies k ≡ Some c → slice_get (buckets_of n copies) k ≡ Some (bucket_of n c.block)
bucket-at n copies k c here = slice_get-map (λ (d : QueuedCopy). bucket_of n d.block) copies k ∙ ap (option_map (λ (d : QueuedCopy). bucket_of n d.block)) here

-- a live copy is in its block's bucket
bucket-live : (n b : ℕ) (copies : List QueuedCopy) (k : ℕ) (c : QueuedCopy) → slice_get copies k ≡ Some c → is_live_of b c ≡ true → slice_get (buckets_of n copies) k ≡ Some (bucket_of n b)
bucket-live n b copies k c here live =
    bucket-at n copies k c here ∙ ap (λ (x : ℕ). Some (bucket_of n x)) (eqb-true c.block b (and_parts c.live _ live).1)

module _ (n b : ℕ) (copies : List QueuedCopy) (p limit : ℕ) (s : Shows (buckets_of n copies) (bucket_of n b) p limit)
    (behind : (j : ℕ) (c : QueuedCopy) → limit ≤ j → slice_get copies j ≡ Some c → is_live_of b c ≡ false) where
  -- a live copy below the limit is shown
  shown-below : (j : ℕ) (c : QueuedCopy) → slice_get copies j ≡ Some c → is_live_of b c ≡ true →
      (j ≤ p) × (p < limit) × (slice_get (buckets_of n copies) p ≡ Some (bucket_of n b))
  shown-below j c here live =
      elim (cases_lt j limit) [
        | inl below ↦ s.shows j below (bucket-live n b copies j c here live)
        | inr above ↦ absurd (true≢false (sym live ∙ behind j c above here))
      ]

  -- after the place that is shown no copy of the block is live
  pub none-behind : (j : ℕ) (c : QueuedCopy) → p < j → slice_get copies j ≡ Some c → is_live_of b c ≡ false
  none-behind j c after here =
      elim (cases_Bool (is_live_of b c)) [
        | inl live ↦ absurd (let t = shown-below j c here live in omega (arith, t.0))
        | inr dead ↦ dead
      ]

  -- if no link of the bucket is shown, no copy is live
  pub none-shown : ((p < limit) → slice_get (buckets_of n copies) p ≡ Some (bucket_of n b) → ⊥) → (j : ℕ) (c : QueuedCopy) → slice_get copies j ≡ Some c → is_live_of b c ≡ false
  none-shown absent j c here =
      elim (cases_Bool (is_live_of b c)) [
        | inl live ↦ let t = shown-below j c here live in absurd (absent t.1 t.2)
        | inr dead ↦ dead
      ]

  -- nor from there on, if the copy there is not
  pub none-from : (d : QueuedCopy) → slice_get copies p ≡ Some d → is_live_of b d ≡ false →
      (j : ℕ) (c : QueuedCopy) → p ≤ j → slice_get copies j ≡ Some c → is_live_of b c ≡ false
  none-from d there dead j c from here =
      elim (cases_eq p j) [
        | inl same ↦ let one : d ≡ c = cc in ap (is_live_of b) (sym one) ∙ dead
        | inr other ↦ none-behind j c (omega arith) here
      ]

-- what a link holds stands at its place
pub link-at : (links : List Link) (k : ℕ) (l : Link) → slice_get links k ≡ Some l →
    (slice_get (map (λ m. m.copy) links) k ≡ Some l.copy) × (slice_get (befores_of links) k ≡ Some l.before)
link-at links k l here = (
  slice_get-map (λ (m : Link). m.copy) links k ∙ ap (option_map (λ (m : Link). m.copy)) here,
  slice_get-map (λ (m : Link). m.before) links k ∙ ap (option_map (λ (m : Link). m.before)) here,
)

-- a withdrawal keeps each copy in its bucket
pub buckets-withdrawn : (n b : ℕ) (copies : List QueuedCopy) → buckets_of n (map (withdrawn b) copies) ≡ buckets_of n copies
buckets-withdrawn n b [] = refl
buckets-withdrawn n b (c ∷ cs) = ap (λ (rest : List ℕ). bucket_of n c.block ∷ rest) (buckets-withdrawn n b cs)

-- a link with another copy leads to the same link
pub befores-set : (links : List Link) (k : ℕ) (l m : Link) → slice_get links k ≡ Some l → m.before ≡ l.before → befores_of (set links k m) ≡ befores_of links
befores-set [] k l m here same = refl
befores-set (x ∷ links) zero l m here same = let one : x ≡ l = cc in ap (λ (n : ℕ). n ∷ befores_of links) (same ∙ ap (λ (y : Link). y.before) (sym one))
befores-set (x ∷ links) (suc k) l m here same = ap (λ (ns : List ℕ). x.before ∷ ns) (befores-set links k l m here same)

-- the buckets with one more copy
pub buckets-more : (n : ℕ) (copies : List QueuedCopy) (c : QueuedCopy) → buckets_of n (copies ++ c ∷ []) ≡ buckets_of n copies ++ bucket_of n c.block ∷ []
buckets-more n copies c = map_push (λ (d : QueuedCopy). bucket_of n d.block) copies c

-- the chains of links, among n buckets
abbrev pub AreChained : ℕ → List Link → List ℕ → ℕ → Type 0
AreChained n links lasts first = IsChained (buckets_of n (map (λ (l : Link). l.copy) links)) (befores_of links) lasts first

-- the chains after a withdrawal
pub chained-withdrawn : (n b k first : ℕ) (links : List Link) (lasts : List ℕ) (l m : Link) → slice_get links k ≡ Some l → m.before ≡ l.before →
    map (λ (x : Link). x.copy) (set links k m) ≡ map (withdrawn b) (map (λ (x : Link). x.copy) links) →
    AreChained n links lasts first → AreChained n (set links k m) lasts first
chained-withdrawn n b k first links lasts l m here before copies old =
    let buckets = ap (buckets_of n) copies ∙ buckets-withdrawn n b (map (λ (x : Link). x.copy) links) in
    let befores = befores-set links k l m here before in
    subst (λ (bs : List ℕ). IsChained bs (befores_of (set links k m)) lasts first) (sym buckets)
    (subst (λ (ns : List ℕ). IsChained (buckets_of n (map (λ (x : Link). x.copy) links)) ns lasts first) (sym befores) old)

-- the chains with one more link
pub chained-pushed : (n first number : ℕ) (links : List Link) (lasts : List ℕ) (c : QueuedCopy) → first < 2 ^ 64 → length links < 2 ^ 64 →
    slice_get lasts (bucket_of n c.block) ≡ Some number → AreChained n links lasts first →
    AreChained n (links ++ record { copy = c; before = number } ∷ []) (set lasts (bucket_of n c.block) ((first + length links) % 2 ^ 64)) first
chained-pushed n first number links lasts c fits few last old =
    let link : Link = record { copy = c; before = number } in
    let copies : List QueuedCopy = map (λ (x : Link). x.copy) links in
    let long : length (buckets_of n copies) ≡ length links = length-map copies (λ (d : QueuedCopy). bucket_of n d.block) ∙ length-map links (λ (x : Link). x.copy) in
    let buckets : buckets_of n (map (λ (x : Link). x.copy) (links ++ link ∷ [])) ≡ buckets_of n copies ++ bucket_of n c.block ∷ [] =
    ap (buckets_of n) (map_push (λ (x : Link). x.copy) links link) ∙ buckets-more n copies c in
    let befores : befores_of (links ++ link ∷ []) ≡ befores_of links ++ number ∷ [] = map_push (λ (x : Link). x.before) links link in
    let made = chained-more (buckets_of n copies) (befores_of links) lasts first (bucket_of n c.block) number fits (omega arith) (length-map links (λ (x : Link). x.before) ∙ sym long) last old in
    subst (λ (bs : List ℕ). IsChained bs (befores_of (links ++ link ∷ [])) (set lasts (bucket_of n c.block) ((first + length links) % 2 ^ 64)) first) (sym buckets)
    (subst (λ (ns : List ℕ). IsChained (buckets_of n copies ++ bucket_of n c.block ∷ []) ns (set lasts (bucket_of n c.block) ((first + length links) % 2 ^ 64)) first) (sym befores)
    (subst (λ (k : ℕ). IsChained (buckets_of n copies ++ bucket_of n c.block ∷ []) (befores_of links ++ number ∷ []) (set lasts (bucket_of n c.block) ((first + k) % 2 ^ 64)) first) long made))

-- the chains without the first link
pub chained-popped : (n first : ℕ) (l : Link) (links : List Link) (lasts : List ℕ) → first < 2 ^ 64 → AreChained n (l ∷ links) lasts first → AreChained n links lasts ((first + 1) % 2 ^ 64)
chained-popped n first l links lasts fits old =
    chained-rest (bucket_of n l.copy.block) l.before (buckets_of n (map (λ (x : Link). x.copy) links)) (befores_of links) lasts first fits old
