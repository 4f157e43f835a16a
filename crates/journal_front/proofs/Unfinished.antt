-- The unfinished transactions: their last effect on a block, from the entries that the front keeps.
use Rattle.std.proofs.Common.{◌≡◌, ℕ, ◌+◌, ◌-◌, ◌<◌, List, [], ◌∷◌, ◌++◌, length, drop, Option, refl, sym, ap, ap₂, subst, ◌∙◌, arith, nat_eq, append_assoc, length-append}
use Rattle.std.specs.Map.{lookup}
use Rattle.std.proofs.Math.Seq.{drop-append_seam}
use Rattle.journal_model.specs.declared.entry.Entry.{Entry}
use Rattle.journal_model.specs.Transaction.{History, Transaction, effect, entries, last_effect, later}
use Rattle.journal_model.proofs.Effects.{later-none}
use Rattle.journal_world.specs.Front.{Front, unfinished}
use Rattle.journal_front.specs.FrontView.{AreCommitting}
use Rattle.journal_front.specs.FrontView.AreCommitting.{AllFinished, LastUnfinished}
use Rattle.journal_front.proofs.EntriesOfSteps.{lookup-effect}

-- if all sealed transactions are finished, only the running one is left
left-one : (f : Front) → f.finished + 1 ≡ f.running.tid → unfinished f ≡ f.running ∷ []
left-one f told =
    ap (λ (n : ℕ). drop n (f.sealed ++ f.running ∷ [])) {x = f.finished + 1 + length f.sealed - f.running.tid} {y = length f.sealed} (omega arith)
    ∙ drop-append_seam f.sealed (f.running ∷ [])

-- else the last sealed one is left too
left-two : (f : Front) (before : History) (last : Transaction) → f.sealed ≡ before ++ last ∷ [] → f.finished + 2 ≡ f.running.tid →
    unfinished f ≡ last ∷ f.running ∷ []
left-two f before last are told =
    let size : length f.sealed ≡ length before + 1 = ap length are ∙ length-append before (last ∷ []) in
    ap₂ (λ (n : ℕ) (ts : History). drop n ts) {x = f.finished + 1 + length f.sealed - f.running.tid} {y = length before} (omega arith)
    (ap (λ (ts : History). ts ++ f.running ∷ []) are ∙ append_assoc before (last ∷ []) (f.running ∷ []))
    ∙ drop-append_seam before (last ∷ f.running ∷ [])

-- the kept entries give their last effect on a block
pub unfinished-effect : (f : Front) (es : List (ℕ × Entry)) (b : ℕ) → AreCommitting f.sealed f.finished f.running.tid es →
    last_effect b (unfinished f) ≡ later (lookup (nat_eq b) es) (effect b f.running.steps)
unfinished-effect f es b (AllFinished told) = ap (last_effect b) (left-one f told) ∙ sym (later-none (effect b f.running.steps))
unfinished-effect f es b (LastUnfinished before last are told) =
    ap (last_effect b) (left-two f before last are told)
    ∙ ap (λ (o : Option Entry). later o (effect b f.running.steps)) (sym (lookup-effect last.steps b))

-- if all are finished, no entries need be kept
pub committing-none : (sealed : History) (finished running : ℕ) (es : List (ℕ × Entry)) → es ≡ [] → finished + 1 ≡ running → AreCommitting sealed finished running es
committing-none sealed finished running es none told = subst (AreCommitting sealed finished running) (sym none) (AllFinished told)

-- after a seal, the sealed transaction's entries are kept
pub committing-sealed : (old sealed : History) (t : Transaction) (finished running : ℕ) (es : List (ℕ × Entry)) → sealed ≡ old ++ t ∷ [] → es ≡ entries t.steps →
    finished + 2 ≡ running → AreCommitting sealed finished running es
committing-sealed old sealed t finished running es are same told = subst (AreCommitting sealed finished running) (sym same) (LastUnfinished old t are told)

-- at most one sealed transaction is not finished
pub one-untold : (sealed : History) (finished running : ℕ) (es : List (ℕ × Entry)) → AreCommitting sealed finished running es → finished + 1 < running → finished + 2 ≡ running
one-untold sealed finished running es (AllFinished told) less = absurd (omega arith)
one-untold sealed finished running es (LastUnfinished before last are told) less = told

-- if all are finished, no entries are kept
pub all-told : (sealed : History) (finished running : ℕ) (es : List (ℕ × Entry)) → AreCommitting sealed finished running es → finished + 1 ≡ running → es ≡ []
all-told sealed finished running es (AllFinished told) all = refl
all-told sealed finished running es (LastUnfinished before last are told) all = absurd (omega arith)
