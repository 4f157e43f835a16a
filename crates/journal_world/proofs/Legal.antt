-- The record of steps stays legal with each step of a handle.
use Rattle.std.proofs.Common.{refl, sym, ap, subst, ◌∙◌, inl, inr, arith, length-append}
use Rattle.std.specs.Prelude.{◌≡◌, ◌⊎◌, ℕ, List, [], ◌∷◌, ◌++◌, length, drop, Some, Result, Ok, Err}
use Rattle.std.proofs.lemmas.List.{append-nil, append_assoc, same_from_push}
use Rattle.std.proofs.lemmas.List.Concat.{flat_map-append}
use Rattle.std.proofs.lemmas.Option.{none-some}
use Rattle.journal_model.proofs.Effects.{later-later, later-none}
use Rattle.journal_model.specs.declared.entry.Entry.{Entry}
use Rattle.journal_model.specs.declared.entry.Entry.TheVariants.{Copy}
use Rattle.journal_model.specs.declared.transaction.Op.{Op}
use Rattle.journal_model.specs.declared.refusal.JournalError.{JournalError}
use Rattle.journal_model.specs.declared.transaction.Op.TheVariants.{Write, Revoke, Read}
use Rattle.journal_model.specs.declared.transaction.Step.{Step}
use Rattle.journal_model.specs.Reading.{answer_of, seen}
use Rattle.journal_model.specs.Record.{IsLegal, steps_of}
use Rattle.journal_model.specs.Transaction.{History, Transaction, effect, entry_of, last_effect, later}
use Rattle.journal_world.specs.Front.{empty_transaction}

-- each read of a block that these steps wrote gave the last write's bytes
abbrev AreLegal : List Step → Type 0
AreLegal ss =
    (before rest : List Step) (h b : ℕ) (v w : List ℕ) →
    ss ≡ before ++ record { handle = h; block = b; op = Read v } ∷ rest →
    effect b before ≡ Some (Copy w) → v ≡ w

-- the step is such a read, or no read
abbrev IsLegalStep : List Step → Step → Type 0
IsLegalStep ss s = (v w : List ℕ) → s.op ≡ Read v → effect s.block ss ≡ Some (Copy w) → v ≡ w

-- the bytes that a read hands out
abbrev bytes_of : Op → List ℕ
bytes_of (Read v) = v
bytes_of (Write v) = []
bytes_of Revoke = []

-- the bytes that are answered
abbrev answered : Result (List ℕ) JournalError → List ℕ
answered (Ok v) = v
answered (Err e) = []

-- a list is empty, or has a last element
split-last : {X : Type 0} (xs : List X) → (xs ≡ []) ⊎ ((more : List X) × (x : X) × (xs ≡ more ++ x ∷ []))
split-last [] = inl refl
split-last (x ∷ xs) =
    elim (split-last xs) [
      | inl none ↦ inr ([], x, ap (λ l. x ∷ l) none)
      | inr (more, y, is) ↦ inr (x ∷ more, y, ap (λ l. x ∷ l) is)
    ]

-- one more legal step keeps steps legal
legal-push : (ss : List Step) (s : Step) → AreLegal ss → IsLegalStep ss s → AreLegal (ss ++ s ∷ [])
legal-push ss s legal last before rest h b v w split written = by (split-last rest)
  where
    read : Step
    read = record { handle = h; block = b; op = Read v }

    by : (rest ≡ []) ⊎ ((more : List Step) × (x : Step) × (rest ≡ more ++ x ∷ [])) → v ≡ w
    by (inl none) =
        let same = same_from_push ss before s read (split ∙ ap (λ l. before ++ read ∷ l) none) in
        last v w (ap (λ (x : Step). x.op) same.1)
        (ap (λ (x : Step). effect x.block ss) same.1 ∙ ap (effect b) same.0 ∙ written)
    by (inr (more, x, is)) =
        let same = same_from_push ss (before ++ read ∷ more) s x
        (split ∙ ap (λ l. before ++ read ∷ l) is ∙ sym (append_assoc before (read ∷ more) (x ∷ []))) in
        legal before more h b v w same.0 written

-- the effect of joined steps
effect-append : (b : ℕ) (xs ys : List Step) → effect b (xs ++ ys) ≡ later (effect b xs) (effect b ys)
effect-append b [] ys = sym (later-none (effect b ys))
effect-append b (x ∷ xs) ys =
    ap (later (effect b (x ∷ []))) (effect-append b xs ys) ∙ sym (later-later (effect b (x ∷ [])) (effect b xs) (effect b ys))

-- the last effect in transactions is that of all their steps
last-steps : (b : ℕ) (ts : History) → effect b (steps_of ts) ≡ last_effect b ts
last-steps b [] = refl
last-steps b (t ∷ ts) = effect-append b t.steps (steps_of ts) ∙ ap (later (effect b t.steps)) (last-steps b ts)

-- the steps of a history and of a last transaction
steps-last : (ts : History) (t : Transaction) → steps_of (ts ++ t ∷ []) ≡ steps_of ts ++ t.steps
steps-last ts t = flat_map-append (λ x. x.steps) ts (t ∷ []) ∙ ap (λ ss. steps_of ts ++ ss) (append-nil t.steps)

-- the steps of a history with one more step at its end
steps-more : (ts : History) (t : Transaction) (s : Step) →
    steps_of (ts ++ record t { steps = t.steps ++ s ∷ [] } ∷ []) ≡ steps_of (ts ++ t ∷ []) ++ s ∷ []
steps-more ts t s =
    steps-last ts (record t { steps = t.steps ++ s ∷ [] })
    ∙ sym (append_assoc (steps_of ts) t.steps (s ∷ []))
    ∙ ap (λ ss. ss ++ s ∷ []) (sym (steps-last ts t))

-- one transaction without steps is legal
pub legal-empty : (n : ℕ) → IsLegal (empty_transaction n ∷ [])
legal-empty n before rest h b v w split written =
    let read : Step = record { handle = h; block = b; op = Read v } in
    let long = length-append before (read ∷ rest) in
    let none : 0 ≡ length (before ++ read ∷ rest) = ap (λ (ss : List Step). length ss) split in
    absurd (omega arith)

-- an empty transaction may follow the others
pub legal-begin : (ts : History) (n : ℕ) → IsLegal ts → IsLegal (ts ++ empty_transaction n ∷ [])
legal-begin ts n legal = subst AreLegal (sym (steps-last ts (empty_transaction n) ∙ append-nil (steps_of ts))) legal

-- a history stays legal if its last transaction has the same steps
pub legal-same : (ts : History) (t u : Transaction) → u.steps ≡ t.steps → IsLegal (ts ++ t ∷ []) → IsLegal (ts ++ u ∷ [])
legal-same ts t u same legal =
    subst AreLegal (steps-last ts t ∙ ap (λ ss. steps_of ts ++ ss) (sym same) ∙ sym (steps-last ts u)) legal

-- a history stays legal if a handle writes or revokes a block
pub legal-touch : (ts : History) (t : Transaction) (s : Step) (e : Entry) → entry_of s.op ≡ Some e → IsLegal (ts ++ t ∷ []) →
    IsLegal (ts ++ record t { steps = t.steps ++ s ∷ [] } ∷ [])
legal-touch ts t s e leaves legal =
    subst AreLegal (sym (steps-more ts t s)) (legal-push (steps_of (ts ++ t ∷ [])) s legal
    (λ v w is written. absurd (none-some e (sym (ap entry_of is) ∙ leaves))))

-- a history stays legal if a handle reads the right bytes
pub legal-read : (ts : History) (t : Transaction) (h b finished : ℕ) (v home : List ℕ) → seen (ts ++ t ∷ []) finished b home ≡ Ok v →
    IsLegal (ts ++ t ∷ []) → IsLegal (ts ++ record t { steps = t.steps ++ record { handle = h; block = b; op = Read v } ∷ [] } ∷ [])
legal-read ts t h b finished v home sees legal =
    let s : Step = record { handle = h; block = b; op = Read v } in
    subst AreLegal (sym (steps-more ts t s)) (legal-push (steps_of (ts ++ t ∷ [])) s legal right)
  where
    right : IsLegalStep (steps_of (ts ++ t ∷ [])) (record { handle = h; block = b; op = Read v })
    right u w is written =
        let last : last_effect b (ts ++ t ∷ []) ≡ Some (Copy w) = sym (last-steps b (ts ++ t ∷ [])) ∙ written in
        let copy : Ok w ≡ Ok v = sym (ap (λ o. answer_of o (last_effect b (drop finished (ts ++ t ∷ []))) home) last) ∙ sees in
        sym (ap bytes_of is) ∙ sym (ap answered copy)

-- a history stays legal without its last transaction
pub legal-less : (ts : History) (t : Transaction) → IsLegal (ts ++ t ∷ []) → IsLegal ts
legal-less ts t legal before rest h b v w split written =
    let read : Step = record { handle = h; block = b; op = Read v } in
    legal before (rest ++ t.steps) h b v w
    (steps-last ts t ∙ ap (λ ss. ss ++ t.steps) split ∙ append_assoc before (read ∷ rest) t.steps) written
