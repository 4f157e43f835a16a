-- How many entries are copies, and how many revokes.
use Rattle.std.proofs.Common.{◌≡◌, ℕ, ◌+◌, ◌-◌, ◌≤◌, List, [], ◌∷◌, length, refl, arith, ap, ◌∙◌}
use Rattle.journal_model.specs.declared.entry.Entry.{Entry}
use Rattle.journal_model.specs.declared.entry.Entry.TheVariants.{Copy, Revoke}
use Rattle.journal_model.specs.Transaction.{copied, revoked}

-- each entry is a copy or a revoke
counted : (es : List (ℕ × Entry)) → length (copied es) + length (revoked es) ≡ length es
counted [] = refl
counted ((b, Copy v) ∷ es) = omega (arith, counted es)
counted ((b, Revoke) ∷ es) = omega (arith, counted es)

-- a copy counts one
head-copy : (b : ℕ) (e : Entry) (v : List ℕ) (es : List (ℕ × Entry)) → e ≡ Copy v → length (copied ((b, e) ∷ es)) ≡ length (copied es) + 1
head-copy b (Copy w) v es is = omega arith
head-copy b Revoke v es is = absurd cc

-- a revoke counts none
head-revoke : (b : ℕ) (e : Entry) (es : List (ℕ × Entry)) → e ≡ Revoke → length (copied ((b, e) ∷ es)) ≡ length (copied es)
head-revoke b (Copy w) es is = absurd cc
head-revoke b Revoke es is = refl

-- a count that begins at 0 has all left
pub none-yet : (n all : ℕ) → n ≡ all → 0 + n ≡ all
none-yet n all is = omega arith

-- counting a copy keeps the total
pub counts-copy : (left rest : List (ℕ × Entry)) (b : ℕ) (e : Entry) (v : List ℕ) (n all : ℕ) → left ≡ (b, e) ∷ rest → e ≡ Copy v →
    n + length (copied left) ≡ all → n + 1 + length (copied rest) ≡ all
counts-copy left rest b e v n all is copy count =
    let one : length (copied left) ≡ length (copied rest) + 1 = ap (λ (es : List (ℕ × Entry)). length (copied es)) is ∙ head-copy b e v rest copy in omega arith

-- passing a revoke keeps the total
pub counts-revoke : (left rest : List (ℕ × Entry)) (b : ℕ) (e : Entry) (n all : ℕ) → left ≡ (b, e) ∷ rest → e ≡ Revoke →
    n + length (copied left) ≡ all → n + length (copied rest) ≡ all
counts-revoke left rest b e n all is revoke count =
    let same : length (copied left) ≡ length (copied rest) = ap (λ (es : List (ℕ × Entry)). length (copied es)) is ∙ head-revoke b e rest revoke in omega arith

-- if no entry is left, all copies are counted
pub all-copies : (left : List (ℕ × Entry)) (n all : ℕ) → left ≡ [] → n + length (copied left) ≡ all → n ≡ all
all-copies left n all none count =
    let empty : length (copied left) ≡ 0 = ap (λ (es : List (ℕ × Entry)). length (copied es)) none in omega arith

-- no more copies are counted than there are entries
pub few-copies : (es : List (ℕ × Entry)) (n left : ℕ) → n + left ≡ length (copied es) → n + left ≤ length es
few-copies es n left count = omega (arith, counted es)

-- all other entries are revokes
pub other-revokes : (es : List (ℕ × Entry)) (n : ℕ) → n ≡ length (copied es) → length es - n ≡ length (revoked es)
other-revokes es n count = omega (arith, counted es)
