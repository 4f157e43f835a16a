-- The choice of copies, by one text, piece or copy more.
use Rattle.std.proofs.Common.{sym, ◌∙◌, ap, arith, append_assoc, get_or}
use Rattle.std.specs.Prelude.{◌≡◌, ℕ, suc, ◌+◌, ◌<◌, Bool, true, false, if◌then◌else◌, List, [], ◌∷◌, ◌++◌, length, take}
use Rattle.std.specs.List.{flat_map}
use Rattle.std.proofs.lemmas.Grind.{flat_map-append}
use Rattle.std.proofs.lemmas.List.{append-nil, length-append, length-take}
use Rattle.journal_model.proofs.ListElements.{take-more_read}
use Rattle.log_model.specs.declared.log.Piece.{Piece}
use Rattle.log_model.specs.declared.log.Text.{Text}
use Rattle.log_model.specs.Text.{piece_copies, text_copies}
use Rattle.block_tables.specs.Copies.{copies_of}
use Rattle.block_tables.specs.Revokes.{BlockTable}
use Rattle.recovery.specs.Choice.{chosen, chosen_all, goes_by}
use Rattle.recovery.proofs.LastCopies.{BlockCopies}

-- a copy in front, chosen or not, stays in front
one-more : (goes : Bool) (c : ℕ × List ℕ) (zs xs ys : BlockCopies) → zs ≡ xs ++ ys → (if goes then c ∷ zs else zs) ≡ (if goes then c ∷ xs else xs) ++ ys
one-more true c zs xs ys same = ap (λ (l : BlockCopies). c ∷ l) same
one-more false c zs xs ys same = same

-- the choice of joined copies is joined
pub chosen-append : (revokes places : BlockTable) (tid place : ℕ) (xs ys : BlockCopies) →
    chosen revokes places tid place (xs ++ ys) ≡ chosen revokes places tid place xs ++ chosen revokes places tid (place + length xs) ys
chosen-append revokes places tid place [] ys = ap (λ (p : ℕ). chosen revokes places tid p ys) {x = place} {y = place + 0} (omega arith)
chosen-append revokes places tid place (x ∷ xs) ys =
    let next : suc place + length xs ≡ place + suc (length xs) = omega arith in
    one-more (goes_by revokes places tid place x.0) x (chosen revokes places tid (suc place) (xs ++ ys)) (chosen revokes places tid (suc place) xs)
    (chosen revokes places tid (place + suc (length xs)) ys)
    (chosen-append revokes places tid (suc place) xs ys
    ∙ ap (λ (p : ℕ). chosen revokes places tid (suc place) xs ++ chosen revokes places tid p ys) next)

-- the choice of joined texts is joined
pub chosen_all-append : (revokes places : BlockTable) (tid place : ℕ) (xs ys : List Text) →
    chosen_all revokes places tid place (xs ++ ys)
    ≡ chosen_all revokes places tid place xs ++ chosen_all revokes places (tid + length xs) (place + length (copies_of xs)) ys
chosen_all-append revokes places tid place [] ys =
    ap (λ (n : ℕ). chosen_all revokes places n place ys) {x = tid} {y = tid + 0} (omega arith)
    ∙ ap (λ (p : ℕ). chosen_all revokes places (tid + 0) p ys) {x = place} {y = place + 0} (omega arith)
chosen_all-append revokes places tid place (t ∷ xs) ys =
    let own : BlockCopies = chosen revokes places tid place (text_copies t) in
    let behind : ℕ = place + length (text_copies t) in
    let number : suc tid + length xs ≡ tid + suc (length xs) = omega arith in
    let next : behind + length (copies_of xs) ≡ place + length (text_copies t ++ copies_of xs) =
    omega (arith, length-append (text_copies t) (copies_of xs)) in
    ap (λ (x : BlockCopies). own ++ x)
    (chosen_all-append revokes places (suc tid) behind xs ys
    ∙ ap (λ (n : ℕ). chosen_all revokes places (suc tid) behind xs ++ chosen_all revokes places n (behind + length (copies_of xs)) ys) number
    ∙ ap (λ (p : ℕ). chosen_all revokes places (suc tid) behind xs ++ chosen_all revokes places (tid + suc (length xs)) p ys) next)
    ∙ sym
    (append_assoc own (chosen_all revokes places (suc tid) behind xs)
    (chosen_all revokes places (tid + suc (length xs)) (place + length (text_copies t ++ copies_of xs)) ys))

-- one more text adds its choice
pub chosen_all-push : (revokes places : BlockTable) (tid place : ℕ) (texts : List Text) (t : Text) →
    chosen_all revokes places tid place (texts ++ t ∷ [])
    ≡ chosen_all revokes places tid place texts ++ chosen revokes places (tid + length texts) (place + length (copies_of texts)) (text_copies t)
chosen_all-push revokes places tid place texts t =
    chosen_all-append revokes places tid place texts (t ∷ [])
    ∙ ap (λ (x : BlockCopies). chosen_all revokes places tid place texts ++ x)
    (append-nil (chosen revokes places (tid + length texts) (place + length (copies_of texts)) (text_copies t)))

-- so does the next text of a list
pub chosen_all-more : (revokes places : BlockTable) (tid place i : ℕ) (texts : List Text) (t : Text) → i < length texts → t ≡ get_or texts i t →
    chosen_all revokes places tid place (take (i + 1) texts)
    ≡ chosen_all revokes places tid place (take i texts) ++ chosen revokes places (tid + i) (place + length (copies_of (take i texts))) (text_copies t)
chosen_all-more revokes places tid place i texts t below read =
    let count : tid + length (take i texts) ≡ tid + i = omega (arith, length-take i texts) in
    ap (chosen_all revokes places tid place) (take-more_read texts i t below read)
    ∙ chosen_all-push revokes places tid place (take i texts) t
    ∙ ap
    (λ (n : ℕ). chosen_all revokes places tid place (take i texts) ++ chosen revokes places n (place + length (copies_of (take i texts))) (text_copies t)) count

-- one more piece adds its copies
pub pieces-push : (pieces : List Piece) (piece : Piece) → flat_map piece_copies (pieces ++ piece ∷ []) ≡ flat_map piece_copies pieces ++ piece_copies piece
pieces-push pieces piece =
    flat_map-append piece_copies pieces (piece ∷ []) ∙ ap (λ (x : BlockCopies). flat_map piece_copies pieces ++ x) (append-nil (piece_copies piece))

-- and its choice
pub chosen-push : (revokes places : BlockTable) (tid place : ℕ) (pieces : List Piece) (piece : Piece) →
    chosen revokes places tid place (flat_map piece_copies (pieces ++ piece ∷ []))
    ≡ chosen revokes places tid place (flat_map piece_copies pieces)
    ++ chosen revokes places tid (place + length (flat_map piece_copies pieces)) (piece_copies piece)
chosen-push revokes places tid place pieces piece =
    ap (chosen revokes places tid place) (pieces-push pieces piece)
    ∙ chosen-append revokes places tid place (flat_map piece_copies pieces) (piece_copies piece)

-- so does the next piece of a list
pub chosen-more : (revokes places : BlockTable) (tid place i : ℕ) (pieces : List Piece) (piece : Piece) → i < length pieces → piece ≡ get_or pieces i piece →
    chosen revokes places tid place (flat_map piece_copies (take (i + 1) pieces))
    ≡ chosen revokes places tid place (flat_map piece_copies (take i pieces))
    ++ chosen revokes places tid (place + length (flat_map piece_copies (take i pieces))) (piece_copies piece)
chosen-more revokes places tid place i pieces piece below read =
    ap (λ (ps : List Piece). chosen revokes places tid place (flat_map piece_copies ps)) (take-more_read pieces i piece below read)
    ∙ chosen-push revokes places tid place (take i pieces) piece
