-- Each block has at most one newest committed copy.
use Rattle.std.proofs.Common.{sym, ◌∙◌, ap, subst, arith, inl, inr}
use Rattle.std.specs.Prelude.{◌≡◌, ℕ, ◌<◌, ◌≤◌, nat_eq, List, [], ◌∷◌, map, slice_get, Contains}
use Rattle.std.specs.Cmp.{nat_eq_equiv}
use Rattle.std.specs.List.{IsDistinct}
use Rattle.std.proofs.lemmas.Bool.{cases_lt}
use Rattle.std.proofs.lemmas.Map.Views.{lookup-from_Contains}
use Rattle.std.proofs.lemmas.Option.{same_Some}
use Rattle.journal_model.specs.declared.entry.Batch.{Batch}
use Rattle.journal_model.specs.declared.entry.Entry.{Entry}
use Rattle.journal_model.specs.declared.entry.Entry.TheVariants.{Copy}
use Rattle.journal_model.proofs.ListElements.{contains-behind, contains-cases, contains-first, contains-none}
use Rattle.journal_world.specs.Checkpoint.{HasCommittedCopy, IsNewestCopy, IsPending}
use Rattle.journal_world.specs.Engine.{Engine, IsBatch}
use Rattle.journal_world.specs.Sound.{IsPlain}
use Rattle.journal_world.proofs.Elements.{all-at}

-- the value of an element is a value of the map
pub contains-map : {X Y : Type 0} (f : X → Y) (xs : List X) (x : X) → Contains xs x → Contains (map f xs) (f x)
contains-map f [] x m = absurd (contains-none x m)
contains-map f (y ∷ xs) x m =
    elim (contains-cases y xs x m) [
      | inl same ↦ contains-first (f y) (map f xs) (f x) (ap f same)
      | inr behind ↦ contains-behind (f y) (map f xs) (f x) (contains-map f xs x behind)
    ]

-- entries of different blocks have one entry for each block
one-entry : (es : List (ℕ × Entry)) (b : ℕ) (x y : Entry) → IsDistinct nat_eq (map (λ p. p.0) es) → Contains es (b, x) → Contains es (b, y) → x ≡ y
one-entry es b x y once one other =
    same_Some x y (sym (lookup-from_Contains nat_eq_equiv b x es once one) ∙ lookup-from_Contains nat_eq_equiv b y es once other)

-- entries of different blocks have one copy of each
one-copy : (es : List (ℕ × Entry)) (b : ℕ) (v w : List ℕ) → IsDistinct nat_eq (map (λ p. p.0) es) → Contains es (b, Copy v) → Contains es (b, Copy w) → v ≡ w
one-copy es b v w once one other = same_Copy v w (one-entry es b (Copy v) (Copy w) once one other)
  where
    same_Copy : (v w : List ℕ) → ◌≡◌ {A = Entry} (Copy v) (Copy w) → v ≡ w
    same_Copy v w same = cc

-- no newest copy of a block comes before another copy of it
none-before : (e : Engine) (i j b : ℕ) (v w : List ℕ) → IsNewestCopy e i b v → HasCommittedCopy e j b w → i < j → ⊥
none-before e i j b v w newest copy before =
    newest.last j copy.batch before copy.committed copy.stands (contains-map (λ p. p.0) copy.batch.entries (b, Copy w) copy.copy)

-- a block has one newest copy
pub newest-one : (e : Engine) (i j b : ℕ) (v w : List ℕ) → IsNewestCopy e i b v → IsNewestCopy e j b w → i ≡ j
newest-one e i j b v w one other =
    elim (cases_lt i j) [
      | inl before ↦ absurd (none-before e i j b v w one other.copy before)
      | inr after ↦
          elim (cases_lt j i) [
            | inl before ↦ absurd (none-before e j i b w v other one.copy before)
            | inr same ↦ omega arith
          ]
    ]

-- one transaction has one copy of a block
copy-one : (e : Engine) (i b : ℕ) (v w : List ℕ) → IsPlain e → HasCommittedCopy e i b v → HasCommittedCopy e i b w → v ≡ w
copy-one e i b v w plain one other =
    let same : other.batch ≡ one.batch = same_Some other.batch one.batch (sym other.stands ∙ one.stands) in
    let batch : IsBatch e.layout e.shape one.batch = all-at (IsBatch e.layout e.shape) e.accepted i one.batch plain.batches one.stands in
    one-copy one.batch.entries b v w batch.once one.copy (subst (λ (c : Batch). Contains c.entries (b, Copy w)) same other.copy)

-- the newest copy of a block has one value
pub newest-bytes : (e : Engine) (i j b : ℕ) (v w : List ℕ) → IsPlain e → IsNewestCopy e i b v → IsNewestCopy e j b w → v ≡ w
newest-bytes e i j b v w plain one other =
    let same : i ≡ j = newest-one e i j b v w one other in
    copy-one e i b v w plain one.copy (subst (λ n. HasCommittedCopy e n b w) (sym same) other.copy)

-- an engine with the same transactions, and no fewer committed, has the same committed copies
pub copy-of : (e f : Engine) (i b : ℕ) (v : List ℕ) → f.accepted ≡ e.accepted → e.committed ≤ f.committed → HasCommittedCopy e i b v → HasCommittedCopy f i b v
copy-of e f i b v accepted committed copy = record {
  batch = copy.batch;
  committed = let below : i < e.committed = copy.committed in omega arith;
  stands = ap (λ (bs : List Batch). slice_get bs i) accepted ∙ copy.stands;
  copy = copy.copy;
}

-- an engine with as many committed has the same newest copies
pub newest-of : (e f : Engine) (i b : ℕ) (v : List ℕ) → f.accepted ≡ e.accepted → f.committed ≡ e.committed → IsNewestCopy e i b v → IsNewestCopy f i b v
newest-of e f i b v accepted committed newest = record {
  copy = copy-of e f i b v accepted (omega arith) newest.copy;
  last = λ j later behind below stands has.
      newest.last j later behind (omega arith) (ap (λ (bs : List Batch). slice_get bs j) (sym accepted) ∙ stands) has;
}

-- an engine with as many released has the same pending copies
pub pending-of : (e f : Engine) (i b : ℕ) (v : List ℕ) → f.accepted ≡ e.accepted → f.committed ≡ e.committed → f.released ≡ e.released →
    IsPending e i b v → IsPending f i b v
pending-of e f i b v accepted committed released pending = record {
  newest = newest-of e f i b v accepted committed pending.newest;
  unreleased = let least : e.released ≤ i = pending.unreleased in omega arith;
}
