-- Lemmas: last entries with one more step or transaction.
use Rattle.std.proofs.Common.{◌≡◌, ℕ, ◌+◌, ◌<◌, List, [], ◌∷◌, ◌++◌, length, take, get_or, Option, sym, ◌∙◌, ap}
use Rattle.journal_model.specs.declared.entry.Entry.{Entry}
use Rattle.journal_model.specs.declared.transaction.Step.{Step}
use Rattle.journal_model.specs.declared.transaction.Sealed.{Sealed}
use Rattle.journal_model.specs.Transaction.{later, effect, last_effect}
use Rattle.journal_model.proofs.Effects.{later-none, later-later, effect-push}
use Rattle.journal_model.proofs.ListElements.{take-more_read}

-- the last entry of the first i + 1 steps after older ones, by that of the first i
pub effect-more : (b : ℕ) (ss : List Step) (i : ℕ) (s : Step) (old : Option Entry) → i < length ss → s ≡ get_or ss i s →
    later old (effect b (take (i + 1) ss)) ≡ later (later old (effect b (take i ss))) (effect b (s ∷ []))
effect-more b ss i s old below read =
    ap (later old) (ap (effect b) (take-more_read ss i s below read) ∙ effect-push b (take i ss) s)
    ∙ sym (later-later old (effect b (take i ss)) (effect b (s ∷ [])))

last_effect-append : (b : ℕ) (xs ys : List Sealed) → last_effect b (xs ++ ys) ≡ later (last_effect b xs) (last_effect b ys)
last_effect-append b [] ys = sym (later-none (last_effect b ys))
last_effect-append b (x ∷ xs) ys =
    ap (later (effect b x.steps)) (last_effect-append b xs ys) ∙ sym (later-later (effect b x.steps) (last_effect b xs) (last_effect b ys))

-- the last entry of the first i + 1 transactions, by that of the first i
pub last_effect-more : (b : ℕ) (ts : List Sealed) (i : ℕ) (t : Sealed) → i < length ts → t ≡ get_or ts i t →
    last_effect b (take (i + 1) ts) ≡ later (last_effect b (take i ts)) (effect b t.steps)
last_effect-more b ts i t below read = ap (last_effect b) (take-more_read ts i t below read) ∙ last_effect-append b (take i ts) (t ∷ [])
