-- Batches and transactions after the first n.
use Rattle.std.proofs.Common.{◌≡◌, ℕ, zero, suc, ◌+◌, ◌<◌, List, [], ◌∷◌, ◌++◌, take, drop, arith, refl, sym, ◌∙◌, subst, ap}
use Rattle.std.specs.List.{AllByRecursion, slice_get}
use Rattle.std.proofs.Math.Seq.{take-add}
use Rattle.journal_model.proofs.Effects.{later-later, later-none}
use Rattle.journal_model.specs.declared.entry.Batch.{Batch}
use Rattle.journal_model.specs.Transaction.{History, effect, last_effect, later}
use Rattle.journal_world.specs.Engine.{AreBatchesOf}
use Rattle.journal_world.specs.Sound.{AreNumberedFrom}

-- an element among the first n is one of the whole list
pub get-take : {X : Type 0} (n : ℕ) (xs : List X) (k : ℕ) → k < n → slice_get (take n xs) k ≡ slice_get xs k
get-take zero xs k below = absurd (omega arith)
get-take (suc n) [] k below = refl
get-take (suc n) (x ∷ xs) zero below = refl
get-take (suc n) (x ∷ xs) (suc k) below = get-take n xs k (omega arith)

-- an element after the first n is one of the whole list
pub get-drop : {X : Type 0} (n : ℕ) (xs : List X) (k : ℕ) → slice_get (drop n xs) k ≡ slice_get xs (n + k)
get-drop zero xs k = ap (slice_get xs) (omega arith)
get-drop (suc n) [] k = refl
get-drop (suc n) (x ∷ xs) k =
    let place : suc (n + k) ≡ suc n + k = omega arith in
    get-drop n xs k ∙ ap (slice_get (x ∷ xs)) place

-- a fact of each element holds of each after the first n
pub all-drop : {X : Type 0} (P : X → Type 0) (n : ℕ) (xs : List X) → AllByRecursion P xs → AllByRecursion P (drop n xs)
all-drop P zero xs all = all
all-drop P (suc n) [] all = tt
all-drop P (suc n) (x ∷ xs) all = all-drop P n xs all.1

-- the batches after the first n keep their numbers
pub numbered-drop : (first n : ℕ) (bs : List Batch) → AreNumberedFrom first bs → AreNumberedFrom (first + n) (drop n bs)
numbered-drop first zero bs are = subst (λ s. AreNumberedFrom s bs) (omega arith) are
numbered-drop first (suc n) [] are = tt
numbered-drop first (suc n) (b ∷ bs) are = subst (λ s. AreNumberedFrom s (drop n bs)) (omega arith) (numbered-drop (suc first) n bs are.1)

-- they are the batches of the transactions after the first n
pub batches-drop : (n : ℕ) (ts : History) (bs : List Batch) → AreBatchesOf ts bs → AreBatchesOf (drop n ts) (drop n bs)
batches-drop zero ts bs are = are
batches-drop (suc n) [] [] are = tt
batches-drop (suc n) [] (b ∷ bs) are = absurd are
batches-drop (suc n) (t ∷ ts) [] are = absurd are
batches-drop (suc n) (t ∷ ts) (b ∷ bs) are = batches-drop n ts bs are.2

-- the last effect of joined transactions
last-append : (b : ℕ) (ts us : History) → last_effect b (ts ++ us) ≡ later (last_effect b ts) (last_effect b us)
last-append b [] us = sym (later-none (last_effect b us))
last-append b (t ∷ ts) us =
    ap (later (effect b t.steps)) (last-append b ts us) ∙ sym (later-later (effect b t.steps) (last_effect b ts) (last_effect b us))

-- the last effect of r + m transactions is that of r, then of m
pub last-split : (b r m : ℕ) (ts : History) →
    last_effect b (take (r + m) ts) ≡ later (last_effect b (take r ts)) (last_effect b (take m (drop r ts)))
last-split b r m ts = ap (last_effect b) (take-add r m ts) ∙ last-append b (take r ts) (take m (drop r ts))
