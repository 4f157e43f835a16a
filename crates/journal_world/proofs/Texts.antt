-- The log blocks of the due transaction, and of one more committed one.
use Rattle.std.proofs.Common.{inl, inr, sym, ◌∙◌, ap, subst, arith, length-append}
use Rattle.std.specs.Prelude.{◌≡◌, ℕ, ◌+◌, ◌<◌, ◌≤◌, List, [], ◌∷◌, ◌++◌, length, map, take, unwrap_or, slice_get, Option, Some}
use Rattle.std.proofs.lemmas.Bool.{cases_lt}
use Rattle.std.proofs.lemmas.Grind.{flat_map-append}
use Rattle.std.proofs.lemmas.List.{append-nil, map-append}
use Rattle.std.proofs.lemmas.Option.{none-some, slice_get_past}
use Rattle.journal_model.specs.declared.entry.Batch.{Batch}
use Rattle.log_model.specs.declared.log.Text.{Text}
use Rattle.log_model.specs.Chain.{texts_blocks}
use Rattle.log_model.specs.Text.{pieces_blocks, text_blocks}
use Rattle.journal_world.specs.Engine.{Engine, block_at, blocks_if, committed_texts, due_blocks, text_of}
use Rattle.journal_model.proofs.ListElements.{get-behind, get-front}
use Rattle.journal_world.proofs.Elements.{get-within, take-one_more}

-- a text has at least its commit block
pub text-some : (t : Text) → 0 < length (text_blocks t)
text-some t = omega (arith, length-append (pieces_blocks t.pieces) (t.commit ∷ []))

-- the blocks of texts with one more after them
pub texts-more : (ts : List Text) (t : Text) → texts_blocks (ts ++ t ∷ []) ≡ texts_blocks ts ++ text_blocks t
texts-more ts t = flat_map-append text_blocks ts (t ∷ []) ∙ ap (λ bs. texts_blocks ts ++ bs) (append-nil (text_blocks t))

-- a batch is due if more are accepted than are committed
pub due-batch : (e : Engine) → e.committed < length e.accepted → (b : Batch) × (slice_get e.accepted e.committed ≡ Some b)
due-batch e more = there e.accepted e.committed more
  where
    there : (bs : List Batch) (k : ℕ) → k < length bs → (b : Batch) × (slice_get bs k ≡ Some b)
    there [] k below = absurd (omega arith)
    there (b ∷ bs) k below = (_, get-within (b ∷ bs) b k below)

-- its blocks are the due ones
pub due-of : (e : Engine) (b : Batch) → slice_get e.accepted e.committed ≡ Some b → due_blocks e ≡ text_blocks (text_of e b)
due-of e b there = ap (blocks_if e) there

-- so there is a due block
pub due-some : (e : Engine) → length e.accepted ≡ e.committed + 1 → 0 < length (due_blocks e)
due-some e one =
    let due = due-batch e (omega arith) in
    subst (λ (bs : List (List ℕ)). 0 < length bs) (sym (due-of e due.0 due.1)) (text-some (text_of e due.0))

-- no block is due if all are committed
pub due-none : (e : Engine) → length e.accepted ≤ e.committed → due_blocks e ≡ []
due-none e all = ap (blocks_if e) (slice_get_past e.accepted e.committed all)

-- if a block is due, more are accepted than are committed
pub due-more : (e : Engine) (i : ℕ) (v : List ℕ) → slice_get (due_blocks e) i ≡ Some v → e.committed < length e.accepted
due-more e i v stands =
    elim (cases_lt e.committed (length e.accepted)) [
      | inl more ↦ more
      | inr all ↦ absurd (none-some v (sym (ap (λ (bs : List (List ℕ)). slice_get bs i) (due-none e all)) ∙ stands))
    ]

-- the blocks of the committed texts, with one more committed
pub committed-more : (e : Engine) → e.committed < length e.accepted →
    texts_blocks (map (text_of e) (take (e.committed + 1) e.accepted)) ≡ texts_blocks (committed_texts e) ++ due_blocks e
committed-more e more =
    let due = due-batch e more in
    ap (λ (bs : List Batch). texts_blocks (map (text_of e) bs)) (take-one_more e.accepted e.committed due.0 due.1)
    ∙ ap texts_blocks (map-append (text_of e) (take e.committed e.accepted) (due.0 ∷ []))
    ∙ texts-more (committed_texts e) (text_of e due.0)
    ∙ ap (λ (bs : List (List ℕ)). texts_blocks (committed_texts e) ++ bs) (sym (due-of e due.0 due.1))

-- there is a block at each place below the length
pub block-there : (blocks : List (List ℕ)) (k : ℕ) → k < length blocks → slice_get blocks k ≡ Some (block_at blocks k)
block-there blocks k below = get-within blocks [] k below

-- a block of the first of two joined lists
pub block-front : (xs ys : List (List ℕ)) (k : ℕ) → k < length xs → block_at (xs ++ ys) k ≡ block_at xs k
block-front xs ys k below = ap (λ (o : Option (List ℕ)). unwrap_or o []) (get-front xs ys k below)

-- a block of the second of two joined lists
pub block-behind : (xs ys : List (List ℕ)) (k j : ℕ) → k ≡ length xs + j → block_at (xs ++ ys) k ≡ block_at ys j
block-behind xs ys k j place = ap (λ (o : Option (List ℕ)). unwrap_or o []) (get-behind xs ys k j place)
