-- A chain's tables after one more piece of its last, unfinished text.
use Rattle.std.proofs.Common.{refl, sym, ◌∙◌, ap, arith, append_assoc, get_or}
use Rattle.std.specs.Prelude.{◌≡◌, ℕ, suc, ◌+◌, ◌<◌, List, [], ◌∷◌, ◌++◌, length, take}
use Rattle.std.specs.FinMap.{empty, insert}
use Rattle.std.specs.List.{flat_map}
use Rattle.std.proofs.lemmas.Grind.{flat_map-append}
use Rattle.std.proofs.lemmas.List.{append-nil, length-append, length-take, map-append}
use Rattle.journal_model.proofs.ListElements.{take-more_read}
use Rattle.log_model.specs.declared.log.Piece.{Piece}
use Rattle.log_model.specs.declared.log.Piece.TheVariants.{Copies, Revokes}
use Rattle.log_model.specs.declared.log.Tag.{Tag}
use Rattle.log_model.specs.declared.log.Text.{Text}
use Rattle.log_model.specs.Text.{piece_copies, piece_revokes, text_copies, text_revokes}
use Rattle.block_tables.specs.Copies.{copies_of, copy_notes, placed_all, places_of}
use Rattle.block_tables.specs.Revokes.{BlockTable, noted, noted_all, notes_of, revoke_notes, revokes_of}
use Rattle.recovery.specs.Choice.{unfinished}
use Rattle.recovery.proofs.ChoiceSteps.{pieces-push}
use Rattle.recovery.proofs.Choosing.{copies-more}
use Rattle.recovery.proofs.LastCopies.{BlockCopies}
use Rattle.recovery.proofs.PlaceNotes.{copy_notes-append, joined-notes, placed-append}

-- joined texts have joined revokes
revoke_notes-append : (first : ℕ) (xs ys : List Text) → revoke_notes first (xs ++ ys) ≡ revoke_notes first xs ++ revoke_notes (first + length xs) ys
revoke_notes-append first [] ys = ap (λ (n : ℕ). revoke_notes n ys) {x = first} {y = first + 0} (omega arith)
revoke_notes-append first (t ∷ xs) ys =
    let own : List (ℕ × ℕ) = notes_of first (text_revokes t) in
    let number : suc first + length xs ≡ first + suc (length xs) = omega arith in
    ap (λ (ns : List (ℕ × ℕ)). own ++ ns)
    (revoke_notes-append (suc first) xs ys ∙ ap (λ (n : ℕ). revoke_notes (suc first) xs ++ revoke_notes n ys) number)
    ∙ sym (append_assoc own (revoke_notes (suc first) xs) (revoke_notes (first + suc (length xs)) ys))

-- joined notes are noted in order
pub noted-append : (table : BlockTable) (ms ns : List (ℕ × ℕ)) → noted_all table (ms ++ ns) ≡ noted_all (noted_all table ms) ns
noted-append table [] ns = refl
noted-append table (m ∷ ms) ns = noted-append (noted table m.0 m.1) ms ns

-- one more text adds its revokes to the table
pub revokes-push : (first : ℕ) (texts : List Text) (t : Text) →
    revokes_of first (texts ++ t ∷ []) ≡ noted_all (revokes_of first texts) (notes_of (first + length texts) (text_revokes t))
revokes-push first texts t =
    let own : List (ℕ × ℕ) = notes_of (first + length texts) (text_revokes t) in
    ap (noted_all empty) (revoke_notes-append first texts (t ∷ []))
    ∙ noted-append empty (revoke_notes first texts) (own ++ [])
    ∙ ap (noted_all (revokes_of first texts)) (append-nil own)

-- more copies are placed after the others
places-joined : (xs ys : BlockCopies) → placed_all empty (copy_notes 0 (xs ++ ys)) ≡ placed_all (placed_all empty (copy_notes 0 xs)) (copy_notes (length xs) ys)
places-joined xs ys =
    joined-notes empty 0 xs ys
    ∙ ap (λ (p : ℕ). placed_all (placed_all empty (copy_notes 0 xs)) (copy_notes p ys)) {x = 0 + length xs} {y = length xs} (omega arith)

-- so are those of one more text
pub places-push : (texts : List Text) (t : Text) → places_of (texts ++ t ∷ []) ≡ placed_all (places_of texts) (copy_notes (length (copies_of texts)) (text_copies t))
places-push texts t = ap (λ (x : BlockCopies). placed_all empty (copy_notes 0 x)) (copies-more texts t) ∙ places-joined (copies_of texts) (text_copies t)

-- one more piece adds its revokes
revokes-pieces : (pieces : List Piece) (piece : Piece) → flat_map piece_revokes (pieces ++ piece ∷ []) ≡ flat_map piece_revokes pieces ++ piece_revokes piece
revokes-pieces pieces piece =
    flat_map-append piece_revokes pieces (piece ∷ []) ∙ ap (λ (x : List ℕ). flat_map piece_revokes pieces ++ x) (append-nil (piece_revokes piece))

-- one more piece of the last text notes its revokes
pub revokes-piece : (first : ℕ) (texts : List Text) (pieces : List Piece) (piece : Piece) →
    revokes_of first (texts ++ unfinished (pieces ++ piece ∷ []) ∷ [])
    ≡ noted_all (revokes_of first (texts ++ unfinished pieces ∷ [])) (notes_of (first + length texts) (piece_revokes piece))
revokes-piece first texts pieces piece =
    let tid : ℕ = first + length texts in
    let before : BlockTable = revokes_of first texts in
    let olds : List ℕ = flat_map piece_revokes pieces in
    revokes-push first texts (unfinished (pieces ++ piece ∷ []))
    ∙ ap (λ (rs : List ℕ). noted_all before (notes_of tid rs)) (revokes-pieces pieces piece)
    ∙ ap (noted_all before) (map-append (λ (b : ℕ). (b, tid)) olds (piece_revokes piece))
    ∙ noted-append before (notes_of tid olds) (notes_of tid (piece_revokes piece))
    ∙ ap (λ (table : BlockTable). noted_all table (notes_of tid (piece_revokes piece))) (sym (revokes-push first texts (unfinished pieces)))

-- and adds its copies
pub copies-piece : (texts : List Text) (pieces : List Piece) (piece : Piece) →
    copies_of (texts ++ unfinished (pieces ++ piece ∷ []) ∷ []) ≡ copies_of (texts ++ unfinished pieces ∷ []) ++ piece_copies piece
copies-piece texts pieces piece =
    copies-more texts (unfinished (pieces ++ piece ∷ []))
    ∙ ap (λ (x : BlockCopies). copies_of texts ++ x) (pieces-push pieces piece)
    ∙ sym (append_assoc (copies_of texts) (flat_map piece_copies pieces) (piece_copies piece))
    ∙ ap (λ (x : BlockCopies). x ++ piece_copies piece) (sym (copies-more texts (unfinished pieces)))

-- and their count
pub copies-piece_count : (texts : List Text) (pieces : List Piece) (piece : Piece) →
    length (copies_of (texts ++ unfinished (pieces ++ piece ∷ []) ∷ [])) ≡ length (copies_of (texts ++ unfinished pieces ∷ [])) + length (piece_copies piece)
copies-piece_count texts pieces piece =
    ap length (copies-piece texts pieces piece) ∙ length-append (copies_of (texts ++ unfinished pieces ∷ [])) (piece_copies piece)

-- and places them
pub places-piece : (texts : List Text) (pieces : List Piece) (piece : Piece) →
    places_of (texts ++ unfinished (pieces ++ piece ∷ []) ∷ [])
    ≡ placed_all (places_of (texts ++ unfinished pieces ∷ [])) (copy_notes (length (copies_of (texts ++ unfinished pieces ∷ []))) (piece_copies piece))
places-piece texts pieces piece =
    ap (λ (x : BlockCopies). placed_all empty (copy_notes 0 x)) (copies-piece texts pieces piece)
    ∙ places-joined (copies_of (texts ++ unfinished pieces ∷ [])) (piece_copies piece)

-- a revoke block notes its numbers
pub revokes-revokes : (first : ℕ) (texts : List Text) (pieces : List Piece) (block numbers : List ℕ) →
    revokes_of first (texts ++ unfinished (pieces ++ Revokes block numbers ∷ []) ∷ [])
    ≡ noted_all (revokes_of first (texts ++ unfinished pieces ∷ [])) (notes_of (first + length texts) numbers)
revokes-revokes first texts pieces block numbers = revokes-piece first texts pieces (Revokes block numbers)

-- and places no copy
pub places-revokes : (texts : List Text) (pieces : List Piece) (block numbers : List ℕ) →
    places_of (texts ++ unfinished (pieces ++ Revokes block numbers ∷ []) ∷ []) ≡ places_of (texts ++ unfinished pieces ∷ [])
places-revokes texts pieces block numbers = places-piece texts pieces (Revokes block numbers)

-- a descriptor notes no revoke
pub revokes-copies : (first : ℕ) (texts : List Text) (pieces : List Piece) (block : List ℕ) (tags : List Tag) (copies : List (List ℕ)) →
    revokes_of first (texts ++ unfinished (pieces ++ Copies block tags copies ∷ []) ∷ []) ≡ revokes_of first (texts ++ unfinished pieces ∷ [])
revokes-copies first texts pieces block tags copies = revokes-piece first texts pieces (Copies block tags copies)

-- and places its copies
pub places-copies : (texts : List Text) (pieces : List Piece) (block : List ℕ) (tags : List Tag) (copies : List (List ℕ)) →
    places_of (texts ++ unfinished (pieces ++ Copies block tags copies ∷ []) ∷ [])
    ≡ placed_all (places_of (texts ++ unfinished pieces ∷ []))
    (copy_notes (length (copies_of (texts ++ unfinished pieces ∷ []))) (piece_copies (Copies block tags copies)))
places-copies texts pieces block tags copies = places-piece texts pieces (Copies block tags copies)

-- a text without pieces adds no revoke
pub revokes-begun : (first : ℕ) (texts : List Text) → revokes_of first (texts ++ unfinished [] ∷ []) ≡ revokes_of first texts
revokes-begun first texts = revokes-push first texts (unfinished [])

-- nor a copy
pub copies-begun : (texts : List Text) → copies_of (texts ++ unfinished [] ∷ []) ≡ copies_of texts
copies-begun texts = copies-more texts (unfinished []) ∙ append-nil (copies_of texts)

-- nor a place
pub places-begun : (texts : List Text) → places_of (texts ++ unfinished [] ∷ []) ≡ places_of texts
places-begun texts = places-push texts (unfinished [])

-- a finished text has its pieces' revokes
pub revokes-finished : (first : ℕ) (texts : List Text) (t : Text) → revokes_of first (texts ++ t ∷ []) ≡ revokes_of first (texts ++ unfinished t.pieces ∷ [])
revokes-finished first texts t = revokes-push first texts t ∙ sym (revokes-push first texts (unfinished t.pieces))

-- and their copies
pub copies-finished : (texts : List Text) (t : Text) → copies_of (texts ++ t ∷ []) ≡ copies_of (texts ++ unfinished t.pieces ∷ [])
copies-finished texts t = copies-more texts t ∙ sym (copies-more texts (unfinished t.pieces))

-- and their places
pub places-finished : (texts : List Text) (t : Text) → places_of (texts ++ t ∷ []) ≡ places_of (texts ++ unfinished t.pieces ∷ [])
places-finished texts t = places-push texts t ∙ sym (places-push texts (unfinished t.pieces))

-- noting one more of a transaction's revokes
pub noted-more : (table : BlockTable) (tid i number : ℕ) (numbers : List ℕ) → i < length numbers → number ≡ get_or numbers i number →
    noted_all table (notes_of tid (take (i + 1) numbers)) ≡ noted (noted_all table (notes_of tid (take i numbers))) number tid
noted-more table tid i number numbers below read =
    ap (λ (ns : List ℕ). noted_all table (notes_of tid ns)) (take-more_read numbers i number below read)
    ∙ ap (noted_all table) (map-append (λ (b : ℕ). (b, tid)) (take i numbers) (number ∷ []))
    ∙ noted-append table (notes_of tid (take i numbers)) ((number, tid) ∷ [])

-- placing one more copy
pub placed-more : (table : BlockTable) (place i : ℕ) (copies : BlockCopies) (c : ℕ × List ℕ) → i < length copies → c ≡ get_or copies i c →
    placed_all table (copy_notes place (take (i + 1) copies)) ≡ insert (placed_all table (copy_notes place (take i copies))) c.0 (place + i)
placed-more table place i copies c below read =
    let at : place + length (take i copies) ≡ place + i = omega (arith, length-take i copies) in
    ap (λ (cs : BlockCopies). placed_all table (copy_notes place cs)) (take-more_read copies i c below read)
    ∙ ap (placed_all table) (copy_notes-append place (take i copies) (c ∷ []))
    ∙ placed-append table (copy_notes place (take i copies)) (copy_notes (place + length (take i copies)) (c ∷ []))
    ∙ ap (insert (placed_all table (copy_notes place (take i copies))) c.0) at
