-- The steps of a front's record, and what steps leave of a block.
use Rattle.std.proofs.Common.{inl, inr, refl, sym, ◌∙◌, ap, subst, arith, append-nil}
use Rattle.std.specs.Prelude.{◌≡◌, ◌<◌, ◌==◌, ℕ, zero, suc, Bool, true, false, if◌then◌else◌, List, [], ◌∷◌, ◌++◌, take, slice_get, Option, Some, None, Contains}
use Rattle.std.proofs.lemmas.Bool.{cases_eq}
use Rattle.std.proofs.lemmas.Bool.Decides.{nat_tests}
use Rattle.std.proofs.lemmas.List.{append_assoc}
use Rattle.std.proofs.lemmas.List.Concat.{flat_map-append}
use Rattle.std.proofs.lemmas.List.Elements.{Contains-append_left, Contains-append_right}
use Rattle.std.proofs.lemmas.Option.{none-some, same_Some}
use Rattle.journal_model.proofs.Effects.{later-later, later-none}
use Rattle.journal_model.proofs.ListElements.{contains-behind, contains-first}
use Rattle.journal_model.specs.declared.entry.Entry.{Entry}
use Rattle.journal_model.specs.declared.entry.Entry.TheVariants.{Copy}
use Rattle.journal_model.specs.declared.transaction.Op.{Op}
use Rattle.journal_model.specs.declared.transaction.Op.TheVariants.{Write, Revoke as RevokeOp, Read}
use Rattle.journal_model.specs.declared.transaction.Step.{Step}
use Rattle.journal_model.specs.Record.{steps_of}
use Rattle.journal_model.specs.Transaction.{History, Transaction, effect, entry_of, last_effect, later}
use Rattle.journal_world.specs.Front.{Front, transactions, write_step}

-- the steps of a history and of a last transaction
pub steps-last : (ts : History) (t : Transaction) → steps_of (ts ++ t ∷ []) ≡ steps_of ts ++ t.steps
steps-last ts t = flat_map-append (λ x. x.steps) ts (t ∷ []) ∙ ap (λ ss. steps_of ts ++ ss) (append-nil t.steps)

-- the steps of a front whose running transaction has one more
pub steps-more : (old new : Front) (s : Step) → new.sealed ≡ old.sealed → new.running.steps ≡ old.running.steps ++ s ∷ [] →
    steps_of (transactions new) ≡ steps_of (transactions old) ++ s ∷ []
steps-more old new s sealed steps =
    steps-last new.sealed new.running
    ∙ (ap (λ (ts : History). steps_of ts ++ new.running.steps) sealed
    ∙ (ap (λ (ss : List Step). steps_of old.sealed ++ ss) steps
    ∙ (sym (append_assoc (steps_of old.sealed) old.running.steps (s ∷ []))
    ∙ ap (λ (ss : List Step). ss ++ s ∷ []) (sym (steps-last old.sealed old.running)))))

-- those of a front whose transactions have the same ones
pub steps-same : (old new : Front) → new.sealed ≡ old.sealed → new.running.steps ≡ old.running.steps →
    steps_of (transactions new) ≡ steps_of (transactions old)
steps-same old new sealed steps =
    steps-last new.sealed new.running
    ∙ (ap (λ (ts : History). steps_of ts ++ new.running.steps) sealed
    ∙ (ap (λ (ss : List Step). steps_of old.sealed ++ ss) steps ∙ sym (steps-last old.sealed old.running)))

-- those of a front that has sealed a transaction
pub steps-sealed : (old new : Front) → new.sealed ≡ old.sealed ++ old.running ∷ [] → new.running.steps ≡ [] →
    steps_of (transactions new) ≡ steps_of (transactions old)
steps-sealed old new sealed none =
    steps-last new.sealed new.running
    ∙ (ap (λ (ss : List Step). steps_of new.sealed ++ ss) none ∙ (append-nil (steps_of new.sealed) ∙ ap steps_of sealed))

-- the effect of joined steps
pub effect-joined : (b : ℕ) (xs ys : List Step) → effect b (xs ++ ys) ≡ later (effect b xs) (effect b ys)
effect-joined b [] ys = sym (later-none (effect b ys))
effect-joined b (x ∷ xs) ys =
    ap (later (effect b (x ∷ []))) (effect-joined b xs ys) ∙ sym (later-later (effect b (x ∷ [])) (effect b xs) (effect b ys))

-- the last effect in transactions is that of all their steps
pub last-steps : (b : ℕ) (ts : History) → effect b (steps_of ts) ≡ last_effect b ts
last-steps b [] = refl
last-steps b (t ∷ ts) = effect-joined b t.steps (steps_of ts) ∙ ap (later (effect b t.steps)) (last-steps b ts)

-- an operation that leaves a copy is a write of it
write-of : (op : Op) (v : List ℕ) → entry_of op ≡ Some (Copy v) → op ≡ Write v
write-of (Write w) v is = let same : w ≡ v = cc in ap (λ (x : List ℕ). Write x) same
write-of RevokeOp v is = absurd cc
write-of (Read w) v is = absurd cc

-- a copy is that of one of the steps
pub copy-step : (b : ℕ) (v : List ℕ) (ss : List Step) → effect b ss ≡ Some (Copy v) → (h : ℕ) × Contains ss (write_step h b v)
copy-step b v [] is = absurd (none-some (Copy v) is)
copy-step b v (s ∷ ss) is = go (λ made. copy-step b v ss made) (effect b ss) refl
  where
    here : s.block ≡ b → entry_of s.op ≡ Some (Copy v) → (h : ℕ) × Contains (s ∷ ss) (write_step h b v)
    here block made =
        let same : s ≡ write_step s.handle b v =
        ap (λ (n : ℕ). record s { block = n }) block
        ∙ ap (λ (o : Op). record { handle = s.handle; block = b; op = o }) (write-of s.op v made) in
        (s.handle, contains-first s ss (write_step s.handle b v) same)

    first : (if s.block == b then entry_of s.op else None) ≡ Some (Copy v) → (h : ℕ) × Contains (s ∷ ss) (write_step h b v)
    first made =
        elim (cases_eq s.block b) [
          | inl block ↦
              let yes_ : (s.block == b) ≡ true = grind (arith, nat_tests) in
              here block (sym (ap (λ (c : Bool). if c then entry_of s.op else None) yes_) ∙ made)
          | inr other ↦
              let no_ : (s.block == b) ≡ false = grind (arith, nat_tests) in
              absurd (none-some (Copy v) (sym (ap (λ (c : Bool). if c then entry_of s.op else None) no_) ∙ made))
        ]

    go : (effect b ss ≡ Some (Copy v) → (h : ℕ) × Contains ss (write_step h b v)) → (e : Option Entry) → effect b ss ≡ e →
        (h : ℕ) × Contains (s ∷ ss) (write_step h b v)
    go more None none = first (sym (ap (later (if s.block == b then entry_of s.op else None)) none) ∙ is)
    go more (Some e) some =
        let same : Some e ≡ Some (Copy v) = sym (ap (later (if s.block == b then entry_of s.op else None)) some) ∙ is in
        let rest : (h : ℕ) × Contains ss (write_step h b v) = more (some ∙ same) in
        (rest.0, contains-behind s ss (write_step rest.0 b v) rest.1)

-- a step of one of the first transactions is one of theirs
pub first-steps : (n i : ℕ) (ts : History) (t : Transaction) (s : Step) → i < n → slice_get ts i ≡ Some t → Contains t.steps s →
    Contains (steps_of (take n ts)) s
first-steps zero i ts t s low at has = absurd (omega arith)
first-steps (suc n) i [] t s low at has = absurd (none-some t at)
first-steps (suc n) zero (u ∷ us) t s low at has =
    Contains-append_left u.steps (steps_of (take n us)) s (subst (λ (x : Transaction). Contains x.steps s) (sym (same_Some u t at)) has)
first-steps (suc n) (suc i) (u ∷ us) t s low at has =
    let less : i < n = omega arith in
    Contains-append_right u.steps (steps_of (take n us)) s (first-steps n i us t s less at has)
