-- Batches of different blocks are those of some transactions.
use Rattle.std.proofs.Common.{refl, sym, ◌∙◌, ap, subst, arith, inl, inr}
use Rattle.std.specs.Prelude.{◌≡◌, ℕ, nat_eq, false, List, [], ◌∷◌, ◌++◌, map, Some, None, Contains}
use Rattle.std.specs.List.{AllByRecursion, IsDistinct}
use Rattle.std.proofs.lemmas.Bool.Decides.{nat_tests}
use Rattle.std.proofs.lemmas.List.{append_assoc, append-nil, map-append}
use Rattle.std.proofs.lemmas.Map.Keys.{IsDistinct-head, IsDistinct-tail}
use Rattle.journal_model.proofs.Effects.{effect-entries, entries-push_new}
use Rattle.journal_model.proofs.ListElements.{contains-cases, contains-none, option-known}
use Rattle.journal_model.specs.declared.entry.Batch.{Batch}
use Rattle.journal_model.specs.declared.entry.Entry.{Entry}
use Rattle.journal_model.specs.declared.entry.Entry.TheVariants.{Copy, Revoke}
use Rattle.journal_model.specs.declared.transaction.Op.{Op}
use Rattle.journal_model.specs.declared.transaction.Op.TheVariants.{Write, Revoke as RevokeOp}
use Rattle.journal_model.specs.declared.transaction.Step.{Step}
use Rattle.journal_model.specs.Transaction.{History, Transaction, effect, entries, entry_of}
use Rattle.journal_world.specs.Engine.{AreBatchesOf}
use Rattle.journal_world.proofs.Lasts.{entry-block}

-- the operation that leaves an entry
op_of : Entry → Op
op_of (Copy v) = Write v
op_of Revoke = RevokeOp

op-leaves : (e : Entry) → entry_of (op_of e) ≡ Some e
unfolding op_of
op-leaves (Copy v) = refl
op-leaves Revoke = refl

-- what holds of all elements holds of the one after the first ones
all-behind : (P : ℕ → Type 0) (xs : List ℕ) (y : ℕ) (zs : List ℕ) → AllByRecursion P (xs ++ y ∷ zs) → P y
all-behind P [] y zs all = all.0
all-behind P (x ∷ xs) y zs all = all-behind P xs y zs all.1

-- in a list of different numbers, none stands before itself
none-again : (xs : List ℕ) (y : ℕ) (zs : List ℕ) → IsDistinct nat_eq (xs ++ y ∷ zs) → Contains xs y → ⊥
none-again [] y zs once m = contains-none y m
none-again (x ∷ xs) y zs once m =
    elim (contains-cases x xs y m) [
      | inl same ↦
          let apart : nat_eq x y ≡ false = all-behind (λ z. nat_eq x z ≡ false) xs y zs (IsDistinct-head nat_eq x (xs ++ y ∷ zs) once) in
          grind (arith, nat_tests, same, apart)
      | inr behind ↦ none-again xs y zs (IsDistinct-tail nat_eq x (xs ++ y ∷ zs) once) behind
    ]

-- a block whose entry is still to come has no effect yet
none-yet : (ss : List Step) (done : List (ℕ × Entry)) (p : ℕ × Entry) (rest : List (ℕ × Entry)) → entries ss ≡ done →
    IsDistinct nat_eq (map (λ q. q.0) (done ++ p ∷ rest)) → effect p.0 ss ≡ None
none-yet ss done p rest is once =
    elim (option-known (effect p.0 ss)) [
      | inl none ↦ none
      | inr (e, some) ↦
          let block : ℕ × Entry → ℕ = λ q. q.0 in
          let before : Contains (map block done) p.0 =
          entry-block done p.0 e (subst (λ (es : List (ℕ × Entry)). Contains es (p.0, e)) is (effect-entries ss p.0 e some)) in
          absurd (none-again (map block done) p.0 (map block rest) (subst (IsDistinct nat_eq) (map-append block done (p ∷ rest)) once) before)
    ]

-- some steps leave these entries
steps-of : (done rest : List (ℕ × Entry)) (ss : List Step) → entries ss ≡ done → IsDistinct nat_eq (map (λ q. q.0) (done ++ rest)) →
    (all : List Step) × (entries all ≡ done ++ rest)
steps-of done [] ss is once = (ss, is ∙ sym (append-nil done))
steps-of done (p ∷ rest) ss is once =
    let step : Step = record { handle = 0; block = p.0; op = op_of p.1 } in
    let more : entries (ss ++ step ∷ []) ≡ done ++ p ∷ [] =
    entries-push_new ss step p.1 (op-leaves p.1) (none-yet ss done p rest is once) ∙ ap (λ (es : List (ℕ × Entry)). es ++ p ∷ []) is in
    let again : (done ++ p ∷ []) ++ rest ≡ done ++ p ∷ rest = append_assoc done (p ∷ []) rest in
    let (all, are) = steps-of (done ++ p ∷ []) rest (ss ++ step ∷ []) more (subst (λ (es : List (ℕ × Entry)). IsDistinct nat_eq (map (λ q. q.0) es)) (sym again) once) in
    (all, are ∙ again)

-- one more transaction has one more batch
batches-more : (ts : History) (bs : List Batch) (t : Transaction) (b : Batch) → b.tid ≡ t.tid → b.entries ≡ entries t.steps → AreBatchesOf ts bs →
    AreBatchesOf (ts ++ t ∷ []) (bs ++ b ∷ [])
batches-more [] [] t b number same are = (number, same, tt)
batches-more [] (c ∷ bs) t b number same are = absurd are
batches-more (u ∷ ts) [] t b number same are = absurd are
batches-more (u ∷ ts) (c ∷ bs) t b number same are = (are.0, are.1, batches-more ts bs t b number same are.2)

-- one more batch of different blocks is that of some transaction
pub history-more : (ts : History) (bs : List Batch) (b : Batch) → IsDistinct nat_eq (map (λ q. q.0) b.entries) → AreBatchesOf ts bs →
    (more : History) × AreBatchesOf more (bs ++ b ∷ [])
history-more ts bs b once are =
    let (steps, made) = steps-of [] b.entries [] refl once in
    let t : Transaction = record { tid = b.tid; handles = []; steps = steps } in
    (ts ++ t ∷ [], batches-more ts bs t b refl (sym made) are)
