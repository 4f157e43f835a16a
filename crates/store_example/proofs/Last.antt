-- What transactions leave of a block, with two more writes, and with one more transaction begun.
use Rattle.std.proofs.Common.{◌≡◌, ◌≢◌, ℕ, ◌==◌, false, List, [], ◌∷◌, ◌++◌, Option, Some, None, refl, sym, ◌∙◌, ap, eq-eqb, arith}
use Rattle.std.proofs.lemmas.Bool.Decides.{nat_tests}
use Rattle.keelsoursop.specs.journal_model.declared.entry.Entry.{Entry}
use Rattle.keelsoursop.specs.journal_model.declared.entry.Entry.TheVariants.{Copy}
use Rattle.keelsoursop.specs.journal_model.declared.transaction.Step.{Step}
use Rattle.keelsoursop.specs.journal_model.Transaction.{History, effect, last_effect, later}
use Rattle.keelsoursop.specs.journal_world.Front.{Front, transactions, sealing, write_step}

-- nothing before changes nothing
later-none : (o : Option Entry) → later None o ≡ o
later-none None = refl
later-none (Some e) = refl

-- the last of three effects counts, however they are grouped
later-later : (x y z : Option Entry) → later (later x y) z ≡ later x (later y z)
later-later x y None = refl
later-later x y (Some e) = refl

-- the effect of joined steps
effect-append : (b : ℕ) (xs ys : List Step) → effect b (xs ++ ys) ≡ later (effect b xs) (effect b ys)
effect-append b [] ys = sym (later-none (effect b ys))
effect-append b (x ∷ xs) ys =
    ap (later (effect b (x ∷ []))) (effect-append b xs ys) ∙ sym (later-later (effect b (x ∷ [])) (effect b xs) (effect b ys))

-- the last effect of joined transactions
last-append : (b : ℕ) (ts us : History) → last_effect b (ts ++ us) ≡ later (last_effect b ts) (last_effect b us)
last-append b [] us = sym (later-none (last_effect b us))
last-append b (t ∷ ts) us =
    ap (later (effect b t.steps)) (last-append b ts us) ∙ sym (later-later (effect b t.steps) (last_effect b ts) (last_effect b us))

-- what steps of the running transaction leave counts
pub last-running : (b : ℕ) (f : Front) (e : Entry) → effect b f.running.steps ≡ Some e → last_effect b (transactions f) ≡ Some e
last-running b f e made = last-append b f.sealed (f.running ∷ []) ∙ ap (later (last_effect b f.sealed)) made

-- a seal changes no effect
pub last-sealing : (b : ℕ) (f : Front) → last_effect b (transactions (sealing f)) ≡ last_effect b (transactions f)
last-sealing b f = last-append b (f.sealed ++ f.running ∷ []) _

-- the last two steps write these blocks
pub effect-two : (b h slot : ℕ) (value index : List ℕ) (ss : List Step) (e : Entry) →
    effect b (write_step h slot value ∷ write_step h 0 index ∷ []) ≡ Some e → effect b (ss ++ write_step h slot value ∷ write_step h 0 index ∷ []) ≡ Some e
effect-two b h slot value index ss e made =
    effect-append b ss (write_step h slot value ∷ write_step h 0 index ∷ []) ∙ ap (later (effect b ss)) made

pub effect-slot : (h slot : ℕ) (value index : List ℕ) → slot ≢ 0 → effect slot (write_step h slot value ∷ write_step h 0 index ∷ []) ≡ Some (Copy value)
effect-slot h slot value index other =
    let apart : (0 == slot) ≡ false = grind (arith, nat_tests) in
    rw (eq-eqb slot slot refl, apart)

pub effect-index : (h slot : ℕ) (value index : List ℕ) → effect 0 (write_step h slot value ∷ write_step h 0 index ∷ []) ≡ Some (Copy index)
effect-index h slot value index = refl
