-- What a read answers: the front's copy, else what the engine reads, is the block's last effect on home.
use Rattle.std.proofs.Common.{◌≡◌, inl, inr, ℕ, zero, suc, ◌<◌, ◌≤◌, List, [], ◌∷◌, ◌++◌, length, take, drop, Option, Some, None, Ok, arith, refl, sym, ap, ap₂, subst, ◌∙◌}
use Rattle.std.specs.Cmp.{nat_eq_equiv}
use Rattle.std.specs.List.{Contains, slice_get}
use Rattle.std.proofs.Math.Seq.{drop-append_seam, take-append_seam}
use Rattle.std.proofs.lemmas.Bool.{cases_lt}
use Rattle.std.proofs.lemmas.List.{length-take, take-append-le}
use Rattle.std.proofs.lemmas.List.Elements.{All-contains}
use Rattle.std.proofs.lemmas.Map.Views.{lookup-from_Contains}
use Rattle.std.proofs.lemmas.Option.{none-some, same_Some, slice_get_within}
use Rattle.journal_model.proofs.Effects.{later-later, later-none}
use Rattle.journal_model.proofs.ListElements.{contains-filter_map, option-known}
use Rattle.journal_model.specs.declared.entry.Batch.{Batch}
use Rattle.journal_model.specs.declared.entry.Entry.{Entry}
use Rattle.journal_model.specs.declared.entry.Entry.TheVariants.{Copy, Revoke}
use Rattle.journal_model.specs.declared.number.Area.TheVariants.{Home}
use Rattle.journal_model.specs.Disk.{Disk}
use Rattle.journal_model.specs.Reading.{answer_of, seen}
use Rattle.journal_model.specs.Transaction.{History, copied, copy_of, effect, last_effect, later}
use Rattle.journal_world.specs.Checkpoint.{IsNewestCopy, IsPending, IsRead}
use Rattle.journal_world.specs.Engine.{Engine, AreBatchesOf, IsBatch}
use Rattle.journal_world.specs.Journal.{Journal}
use Rattle.journal_world.specs.Sound.{IsPlain}
use Rattle.journal_world.proofs.Batches.{batches-take, same-length}
use Rattle.journal_world.proofs.Elements.{all-at}
use Rattle.journal_world.proofs.Lasts.{IsLastIn, last-in, none-in}
use Rattle.journal_world.proofs.Pending.{contains-map}
use Rattle.journal_world.proofs.Positions.{committed-few}
use Rattle.journal_world.proofs.Suffixes.{get-take}
use Rattle.journal_world.specs.Front.{finished_count, transactions, unfinished}
use Rattle.journal_steps.specs.Journal.{Agrees, HasCopyKept}
use Rattle.journal_steps.specs.Journal.HasCopyKept.{OfPending, OfUnfinished}
use Rattle.journal_steps.proofs.Sealing.{copy-good}

-- a read of the block should answer these bytes
abbrev pub IsSeen : Journal → Disk → ℕ → List ℕ → Type 0
IsSeen j disk b v = seen (transactions j.front) (finished_count j.front) b (disk Home b).reads ≡ Ok v

-- the last effect of transactions is the first ones', then the others'
pub last-from : (b r : ℕ) (ts : History) → last_effect b ts ≡ later (last_effect b (take r ts)) (last_effect b (drop r ts))
last-from b zero ts = sym (later-none (last_effect b ts))
last-from b (suc r) [] = refl
last-from b (suc r) (t ∷ ts) =
    ap (later (effect b t.steps)) (last-from b r ts) ∙ sym (later-later (effect b t.steps) (last_effect b (take r ts)) (last_effect b (drop r ts)))

-- an element of the first n stands below n
take-below : {X : Type 0} (n k : ℕ) (xs : List X) (x : X) → slice_get (take n xs) k ≡ Some x → k < n
take-below n k xs x there =
    let within : k < length (take n xs) = slice_get_within (take n xs) k x there in
    let size = length-take n xs in
    omega arith

module _ (e : Engine) (ts : History) (b : ℕ) (plain : IsPlain e) (are : AreBatchesOf ts e.accepted) where
  -- the committed transactions' batches are the first ones accepted
  taken : AreBatchesOf (take e.committed ts) (take e.committed e.accepted)
  taken = batches-take e.committed ts e.accepted are

  -- if these have no effect on a block, it has no newest copy
  none-newest : last_effect b (take e.committed ts) ≡ None → (i : ℕ) (w : List ℕ) → IsNewestCopy e i b w → ⊥
  none-newest none i w newest =
      none-in b (take e.committed ts) (take e.committed e.accepted) taken none i newest.copy.batch
      (get-take e.committed e.accepted i newest.copy.committed ∙ newest.copy.stands)
      (contains-map (λ p. p.0) newest.copy.batch.entries (b, Copy w) newest.copy.copy)

  -- if the last entry is a copy, it is the newest
  pub last-newest : (i : ℕ) (v : List ℕ) → IsLastIn (take e.committed e.accepted) b i (Copy v) → IsNewestCopy e i b v
  last-newest i v l =
      let below : i < e.committed = take-below e.committed i e.accepted l.batch l.stands in
      record {
        copy = record { batch = l.batch; committed = below; stands = sym (get-take e.committed e.accepted i below) ∙ l.stands; copy = l.entry };
        last = λ j other low high stands has. l.last j other low (get-take e.committed e.accepted j high ∙ stands) has;
      }

  -- a batch has one entry of a block
  one-entry : (i : ℕ) (c : Batch) (x y : Entry) → slice_get e.accepted i ≡ Some c → Contains c.entries (b, x) → Contains c.entries (b, y) → x ≡ y
  one-entry i c x y stands one other =
      let batch : IsBatch e.layout e.shape c = all-at (IsBatch e.layout e.shape) e.accepted i c plain.batches stands in
      same_Some x y (sym (lookup-from_Contains nat_eq_equiv b x c.entries batch.once one) ∙ lookup-from_Contains nat_eq_equiv b y c.entries batch.once other)

  -- if the last entry is a revoke, there is no newest copy
  pub revoked-newest : (i : ℕ) → IsLastIn (take e.committed e.accepted) b i Revoke → (j : ℕ) (w : List ℕ) → IsNewestCopy e j b w → ⊥
  revoked-newest i l j w newest =
      let below : i < e.committed = take-below e.committed i e.accepted l.batch l.stands in
      let stands : slice_get e.accepted i ≡ Some l.batch = sym (get-take e.committed e.accepted i below) ∙ l.stands in
      elim (cases_lt i j) [
        | inl behind ↦
            l.last j newest.copy.batch behind (get-take e.committed e.accepted j newest.copy.committed ∙ newest.copy.stands)
            (contains-map (λ p. p.0) newest.copy.batch.entries (b, Copy w) newest.copy.copy)
        | inr low ↦
            elim (cases_lt j i) [
              | inl before ↦ newest.last i l.batch before below stands (contains-map (λ p. p.0) l.batch.entries (b, Revoke) l.entry)
              | inr high ↦
                  let same : i ≡ j = omega arith in
                  let one : l.batch ≡ newest.copy.batch =
                  same_Some l.batch newest.copy.batch (sym stands ∙ ap (slice_get e.accepted) same ∙ newest.copy.stands) in
                  apart w
                  (one-entry i l.batch Revoke (Copy w) stands l.entry
                  (subst (λ (c : Batch). Contains c.entries (b, Copy w)) (sym one) newest.copy.copy))
            ]
      ]
    where
      apart : (w : List ℕ) → ◌≡◌ {A = Entry} Revoke (Copy w) → ⊥
      apart w same = cc

  -- what the engine reads is what the committed transactions make of home
  read-answers : (disk : Disk) (v : List ℕ) → IsRead e disk b v →
      answer_of (last_effect b (take e.committed ts)) None (disk Home b).reads ≡ Ok v
  read-answers disk v read =
      elim (option-known (last_effect b (take e.committed ts))) [
        | inl none ↦
            ap (λ (o : Option Entry). answer_of o None (disk Home b).reads) none ∙ ap Ok (sym (read.other (none-newest none)))
        | inr (f, some) ↦
            let last = last-in b (take e.committed ts) (take e.committed e.accepted) f taken some in
            ap (λ (o : Option Entry). answer_of o None (disk Home b).reads) some ∙ by-entry f last.0 last.1
      ]
    where
      by-entry : (f : Entry) (i : ℕ) → IsLastIn (take e.committed e.accepted) b i f → answer_of (Some f) None (disk Home b).reads ≡ Ok v
      by-entry (Copy w) i l = ap Ok (sym (read.copied i w (last-newest i w l)))
      by-entry Revoke i l = ap Ok (sym (read.other (revoked-newest i l)))

module _ (j : Journal) (agrees : Agrees j) (plain : IsPlain j.engine) where
  -- as many transactions are finished as committed
  pub finished-is : finished_count j.front ≡ j.engine.committed
  finished-is =
      let same = same-length j.front.sealed j.engine.accepted agrees.batches in
      let number = agrees.number in
      let told = agrees.finished in
      omega arith

  -- the committed ones are among the sealed ones
  pub few : j.engine.committed ≤ length j.front.sealed
  few =
      let same = same-length j.front.sealed j.engine.accepted agrees.batches in
      let least = committed-few j.engine j.engine.stage plain.stage in
      omega arith

  -- all transactions
  abbrev pub all : History
  all = transactions j.front

  -- the unfinished transactions' last effect on a block is that of all
  pub last-of : (b : ℕ) (e : Entry) → last_effect b (unfinished j.front) ≡ Some e → last_effect b all ≡ Some e
  last-of b e made =
      last-from b (finished_count j.front) all ∙ ap (later (last_effect b (take (finished_count j.front) all))) made

  -- if it is a copy, a read answers that
  pub seen-kept : (disk : Disk) (b : ℕ) (v : List ℕ) → last_effect b (unfinished j.front) ≡ Some (Copy v) → IsSeen j disk b v
  seen-kept disk b v made =
      ap (λ (o : Option Entry). answer_of o (last_effect b (unfinished j.front)) (disk Home b).reads) (last-of b (Copy v) made)

  -- if they have none, a read answers what the engine reads
  pub seen-read : (disk : Disk) (b : ℕ) (v : List ℕ) → last_effect b (unfinished j.front) ≡ None → IsRead j.engine disk b v → IsSeen j disk b v
  seen-read disk b v none read =
      let first : take (finished_count j.front) all ≡ take j.engine.committed j.front.sealed =
      ap (λ (n : ℕ). take n all) finished-is ∙ take-append-le j.engine.committed j.front.sealed (j.front.running ∷ []) few in
      let whole : last_effect b all ≡ last_effect b (take j.engine.committed j.front.sealed) =
      last-from b (finished_count j.front) all ∙ ap₂ later (ap (last_effect b) first) none in
      ap₂ (λ (o u : Option Entry). answer_of o u (disk Home b).reads) whole none
      ∙ read-answers j.engine j.front.sealed b plain agrees.batches disk v read

-- a copy among entries is one of their copies
copied-there : (es : List (ℕ × Entry)) (b : ℕ) (v : List ℕ) → Contains es (b, Copy v) → Contains (copied es) (b, v)
copied-there es b v m = contains-filter_map (λ p. copy_of p.0 p.1) es (b, Copy v) (b, v) m refl

-- a copy that is the sealed transactions' last effect is a whole block
sealed-whole : (e : Engine) (ts : History) (b : ℕ) (v : List ℕ) → IsPlain e → AreBatchesOf ts e.accepted → last_effect b ts ≡ Some (Copy v) →
    length v ≡ e.shape.block_size
sealed-whole e ts b v plain are made =
    let last = last-in b ts e.accepted (Copy v) are made in
    let l = last.1 in
    let batch : IsBatch e.layout e.shape l.batch = all-at (IsBatch e.layout e.shape) e.accepted last.0 l.batch plain.batches l.stands in
    All-contains (λ c. length c.1 ≡ e.shape.block_size) (copied l.batch.entries) (b, v) batch.whole (copied-there l.batch.entries b v l.entry)

-- so is one that the front keeps
pub kept-whole : (j : Journal) (b : ℕ) (v : List ℕ) → Agrees j → IsPlain j.engine → last_effect b (unfinished j.front) ≡ Some (Copy v) →
    length v ≡ j.engine.shape.block_size
kept-whole j b v agrees plain made =
    let f = j.front in
    let whole : last_effect b (f.sealed ++ f.running ∷ []) ≡ Some (Copy v) = last-of j agrees plain b (Copy v) made in
    let split : last_effect b (f.sealed ++ f.running ∷ []) ≡ later (last_effect b f.sealed) (effect b f.running.steps) =
    last-from b (length f.sealed) (f.sealed ++ f.running ∷ [])
    ∙ ap₂ (λ (ts us : History). later (last_effect b ts) (last_effect b us)) (take-append_seam f.sealed (f.running ∷ []))
    (drop-append_seam f.sealed (f.running ∷ [])) in
    elim (option-known (effect b f.running.steps)) [
      | inl none ↦
          sealed-whole j.engine f.sealed b v plain agrees.batches
          (sym (ap (later (last_effect b f.sealed)) none) ∙ sym split ∙ whole)
      | inr (e, some) ↦
          copy-good j.engine.layout j.engine.shape b f.running.steps v agrees.steps
          (some ∙ sym (ap (later (last_effect b f.sealed)) some) ∙ sym split ∙ whole)
    ]

-- a kept copy is pending, if no unfinished transaction has an entry
pub kept-pending : (j : Journal) (b : ℕ) (P : Type 0) → last_effect b (unfinished j.front) ≡ None →
    ((i : ℕ) (v : List ℕ) → IsPending j.engine i b v → P) → HasCopyKept j b → P
kept-pending j b P none pending (OfUnfinished v some) = absurd (none-some (Copy v) (sym none ∙ some))
kept-pending j b P none pending (OfPending i v is) = pending i v is
