-- Copies and revokes among entries, and the copies at a plan's places.
use Rattle.std.proofs.Common.{arith, refl, sym, ap, ◌∙◌, append_assoc, get_or}
use Rattle.std.specs.Prelude.{◌≡◌, ℕ, zero, suc, ◌+◌, ◌<◌, ◌≤◌, List, [], ◌∷◌, ◌++◌, length, map, take, drop, unwrap_or, Option, Some, slice_get, All}
use Rattle.std.proofs.lemmas.List.{drop_more}
use Rattle.std.proofs.lemmas.List.Elements.{All-head, All-tail, recursion_from_All}
use Rattle.std.proofs.lemmas.Option.{none-some, same_Some, slice_get-get_or}
use Rattle.journal_model.specs.declared.entry.Entry.{Entry}
use Rattle.journal_model.specs.declared.entry.Entry.TheVariants.{Copy, Revoke}
use Rattle.journal_model.specs.Layout.{header_bytes}
use Rattle.journal_model.specs.Transaction.{copied, revoked}
use Rattle.journal_world.proofs.Elements.{all-at}
use Rattle.log_ledger.specs.Text.{IsLong, bytes_in, copies_at, copy_at, entry_at}

-- each entry is a copy or a revoke
pub counted : (entries : List (ℕ × Entry)) → length (copied entries) + length (revoked entries) ≡ length entries
counted [] = refl
counted ((b, Copy v) ∷ entries) = omega (arith, counted entries)
counted ((b, Revoke) ∷ entries) = omega (arith, counted entries)

-- a copy among entries has the bytes that each copy has
pub copy-size : (size : ℕ) (entries : List (ℕ × Entry)) (k b : ℕ) (v : List ℕ) → All (λ c. length c.1 ≡ size) (copied entries) →
    slice_get entries k ≡ Some (b, Copy v) → length v ≡ size
copy-size size [] k b v all there = absurd (none-some (b, Copy v) there)
copy-size size ((c, Copy w) ∷ entries) zero b v all there =
    sym (ap (λ (p : ℕ × Entry). length (bytes_in p.1)) (same_Some (c, Copy w) (b, Copy v) there))
    ∙ All-head (λ x. length x.1 ≡ size) (c, w) (copied entries) all
copy-size size ((c, Revoke) ∷ entries) zero b v all there = revoke-none (same_Some (c, Revoke) (b, Copy v) there)
  where
    -- a revoke is no copy
    revoke-none : ◌≡◌ {A = ℕ × Entry} (c, Revoke) (b, Copy v) → length v ≡ size
    revoke-none same = let entry : ◌≡◌ {A = Entry} Revoke (Copy v) = ap (λ (p : ℕ × Entry). p.1) same in absurd cc
copy-size size ((c, Copy w) ∷ entries) (suc k) b v all there =
    copy-size size entries k b v (All-tail (λ x. length x.1 ≡ size) (c, w) (copied entries) all) there
copy-size size ((c, Revoke) ∷ entries) (suc k) b v all there = copy-size size entries k b v all there

-- an element of a map
pub map-at : {X Y : Type 0} (f : X → Y) (xs : List X) (k : ℕ) (x : X) → slice_get xs k ≡ Some x → slice_get (map f xs) k ≡ Some (f x)
map-at f [] k x there = absurd (none-some x there)
map-at f (y ∷ xs) zero x there = ap (λ z. Some (f z)) (same_Some y x there)
map-at f (y ∷ xs) (suc k) x there = map-at f xs k x there

-- a map of a part of a list
pub map-part : {X Y : Type 0} (f : X → Y) (n first : ℕ) (xs : List X) → map f (take n (drop first xs)) ≡ take n (drop first (map f xs))
map-part f n zero xs = map-front n xs
  where
    -- a map of the front of a list
    map-front : (n : ℕ) (xs : List _) → map f (take n xs) ≡ take n (map f xs)
    map-front zero xs = refl
    map-front (suc n) [] = refl
    map-front (suc n) (x ∷ xs) = ap (λ ys. f x ∷ ys) (map-front n xs)
map-part f zero (suc first) [] = refl
map-part f (suc n) (suc first) [] = refl
map-part f n (suc first) (x ∷ xs) = map-part f n first xs

-- there are as many copies as places
pub length-at : (entries : List (ℕ × Entry)) (places : List ℕ) → length (copies_at entries places) ≡ length places
length-at entries [] = refl
length-at entries (p ∷ places) = ap (λ (n : ℕ). suc n) (length-at entries places)

-- an entry with bytes for a header is there, and a copy
pub long-there : (entries : List (ℕ × Entry)) (place : ℕ) → header_bytes ≤ length (copy_at entries place).1 → (place < length entries) × IsLong (entry_at entries place).1
long-there [] place long = absurd (omega arith)
long-there ((b, Copy v) ∷ entries) zero long = (omega arith, long)
long-there ((b, Revoke) ∷ entries) zero long = absurd (omega arith)
long-there (e ∷ entries) (suc place) long = let there = long-there entries place long in (omega (arith, there.0), there.1)

-- an entry that is there is read as itself
pub entry-there : (entries : List (ℕ × Entry)) (place : ℕ) (d : ℕ × Entry) → place < length entries → get_or entries place d ≡ entry_at entries place
entry-there entries place d within = sym (ap (λ (o : Option (ℕ × Entry)). unwrap_or o (0, Revoke)) (slice_get-get_or entries place d within))

-- one copy more among entries
copied-more : (e : ℕ × Entry) (v : List ℕ) (entries : List (ℕ × Entry)) → e.1 ≡ Copy v →
    (copied (e ∷ entries) ≡ (e.0, bytes_in e.1) ∷ copied entries) × (revoked (e ∷ entries) ≡ revoked entries)
copied-more (b, Copy w) v entries is = (refl, refl)
copied-more (b, Revoke) v entries is = absurd cc

-- one revoke more among entries
revoked-more : (e : ℕ × Entry) (entries : List (ℕ × Entry)) → e.1 ≡ Revoke →
    (copied (e ∷ entries) ≡ copied entries) × (revoked (e ∷ entries) ≡ e.0 ∷ revoked entries)
revoked-more (b, Copy w) entries is = absurd cc
revoked-more (b, Revoke) entries is = (refl, refl)

-- a map of one more element
map-last : {X Y : Type 0} (f : X → Y) (xs : List X) (x : X) → map f (xs ++ x ∷ []) ≡ map f xs ++ f x ∷ []
map-last f [] x = refl
map-last f (y ∷ xs) x = ap (λ ys. f y ∷ ys) (map-last f xs x)

module _ (entries : List (ℕ × Entry)) (k : ℕ) (e : ℕ × Entry) (within : k < length entries) (here : e ≡ get_or entries k e) where
  -- the entries from a place on begin with the one there
  from-here : drop k entries ≡ e ∷ drop (k + 1) entries
  from-here = drop_more entries k e within ∙ ap (λ (x : ℕ × Entry). x ∷ drop (k + 1) entries) (sym here)

  -- noting a copy keeps the plan
  pub notes-copy : (v : List ℕ) (places revokes : List ℕ) → e.1 ≡ Copy v →
      copies_at entries places ++ copied (drop k entries) ≡ copied entries → revokes ++ revoked (drop k entries) ≡ revoked entries →
      (copies_at entries (places ++ k ∷ []) ++ copied (drop (k + 1) entries) ≡ copied entries) × (revokes ++ revoked (drop (k + 1) entries) ≡ revoked entries)
  notes-copy v places revokes is copies all =
      let more = copied-more e v (drop (k + 1) entries) is in
      let same : copy_at entries k ≡ (e.0, bytes_in e.1) =
      ap (λ (x : ℕ × Entry). (x.0, bytes_in x.1)) (sym (entry-there entries k e within) ∙ sym here) in (
        ap (λ (cs : List (ℕ × List ℕ)). cs ++ copied (drop (k + 1) entries)) (map-last (copy_at entries) places k)
            ∙ append_assoc (copies_at entries places) (copy_at entries k ∷ []) (copied (drop (k + 1) entries))
            ∙ ap (λ (c : ℕ × List ℕ). copies_at entries places ++ c ∷ copied (drop (k + 1) entries)) same
            ∙ ap (λ (cs : List (ℕ × List ℕ)). copies_at entries places ++ cs) (sym more.0)
            ∙ ap (λ (es : List (ℕ × Entry)). copies_at entries places ++ copied es) (sym from-here)
            ∙ copies,
        ap (λ (bs : List ℕ). revokes ++ bs) (sym more.1) ∙ ap (λ (es : List (ℕ × Entry)). revokes ++ revoked es) (sym from-here) ∙ all,
      )

  -- noting a revoke keeps the plan
  pub notes-revoke : (places revokes : List ℕ) → e.1 ≡ Revoke →
      copies_at entries places ++ copied (drop k entries) ≡ copied entries → revokes ++ revoked (drop k entries) ≡ revoked entries →
      (copies_at entries places ++ copied (drop (k + 1) entries) ≡ copied entries) × ((revokes ++ e.0 ∷ []) ++ revoked (drop (k + 1) entries) ≡ revoked entries)
  notes-revoke places revokes is copies all =
      let more = revoked-more e (drop (k + 1) entries) is in (
        ap (λ (cs : List (ℕ × List ℕ)). copies_at entries places ++ cs) (sym more.0)
            ∙ ap (λ (es : List (ℕ × Entry)). copies_at entries places ++ copied es) (sym from-here)
            ∙ copies,
        append_assoc revokes (e.0 ∷ []) (revoked (drop (k + 1) entries))
            ∙ ap (λ (bs : List ℕ). revokes ++ bs) (sym more.1)
            ∙ ap (λ (es : List (ℕ × Entry)). revokes ++ revoked es) (sym from-here)
            ∙ all,
      )

-- what holds of each copy holds of the one at a place
pub at-place : (P : ℕ × List ℕ → Type 0) (entries : List (ℕ × Entry)) (places : List ℕ) (k d : ℕ) → All P (copies_at entries places) → k < length places →
    P (copy_at entries (get_or places k d))
at-place P entries places k d all within =
    all-at P (copies_at entries places) k (copy_at entries (get_or places k d)) (recursion_from_All P (copies_at entries places) all)
    (map-at (copy_at entries) places k (get_or places k d) (slice_get-get_or places k d within))

-- if copies are long enough for a header, the entry at a place is a copy
pub long-at : (entries : List (ℕ × Entry)) (places : List ℕ) (k d : ℕ) → All (λ c. header_bytes ≤ length c.1) (copies_at entries places) → k < length places →
    (get_or places k d < length entries) × IsLong (entry_at entries (get_or places k d)).1
long-at entries places k d all within =
    long-there entries (get_or places k d) (at-place (λ c. header_bytes ≤ length c.1) entries places k d all within)
