-- Notes in the tables, in order.
use Rattle.std.proofs.Common.{refl, sym, ◌∙◌, ap, arith}
use Rattle.std.specs.Prelude.{◌≡◌, ℕ, suc, ◌+◌, ◌<◌, List, [], ◌∷◌, ◌++◌, length, take, get_or}
use Rattle.std.specs.FinMap.{insert}
use Rattle.std.proofs.lemmas.List.{length-take-le, map-append}
use Rattle.log_model.specs.declared.log.Tag.{Tag}
use Rattle.journal_model.proofs.ListElements.{take-more_read}
use Rattle.block_tables.specs.Copies.{placed_all}
use Rattle.block_tables.specs.Revokes.{BlockTable, noted, noted_all, notes_of}
use Rattle.recovery.specs.Gather.{tag_notes}

-- one more revoke is noted last
noted-more : (table : BlockTable) (ns : List (ℕ × ℕ)) (b t : ℕ) → noted_all table (ns ++ (b, t) ∷ []) ≡ noted (noted_all table ns) b t
noted-more table [] b t = refl
noted-more table (n ∷ ns) b t = noted-more (noted table n.0 n.1) ns b t

-- so it is for notes of copies
placed-more : (table : BlockTable) (ns : List (ℕ × ℕ)) (b p : ℕ) → placed_all table (ns ++ (b, p) ∷ []) ≡ insert (placed_all table ns) b p
placed-more table [] b p = refl
placed-more table (n ∷ ns) b p = placed-more (insert table n.0 n.1) ns b p

-- one more block is revoked
pub revokes-more : (old table new : BlockTable) (t : ℕ) (numbers : List ℕ) (i n : ℕ) → i < length numbers → n ≡ get_or numbers i n →
    table ≡ noted_all old (notes_of t (take i numbers)) → new ≡ noted table n t → new ≡ noted_all old (notes_of t (take (i + 1) numbers))
revokes-more old table new t numbers i n below is so more =
    more ∙ ap (λ (x : BlockTable). noted x n t) so ∙ sym (noted-more old (notes_of t (take i numbers)) n t)
    ∙ ap (noted_all old) (sym (ap (notes_of t) (take-more_read numbers i n below is) ∙ map-append (λ (b : ℕ). (b, t)) (take i numbers) (n ∷ [])))

-- one more tag is noted last
tags-more : (p : ℕ) (tags : List Tag) (tag : Tag) → tag_notes p (tags ++ tag ∷ []) ≡ tag_notes p tags ++ (tag.block, p + length tags) ∷ []
tags-more p [] tag = ap (λ (n : ℕ). (tag.block, n) ∷ []) (omega arith)
tags-more p (t ∷ tags) tag =
    ap (λ (ns : List (ℕ × ℕ)). (t.block, p) ∷ ns)
    (tags-more (suc p) tags tag ∙ ap (λ (n : ℕ). tag_notes (suc p) tags ++ (tag.block, n) ∷ []) (omega arith))

-- one more copy is placed
pub copies-more : (old table new : BlockTable) (p : ℕ) (tags : List Tag) (k : ℕ) (tag : Tag) → k < length tags → tag ≡ get_or tags k tag →
    table ≡ placed_all old (tag_notes p (take k tags)) → new ≡ insert table tag.block (p + k) → new ≡ placed_all old (tag_notes p (take (k + 1) tags))
copies-more old table new p tags k tag below is so more =
    more ∙ ap (λ (x : BlockTable). insert x tag.block (p + k)) so ∙ sym (placed-more old (tag_notes p (take k tags)) tag.block (p + k))
    ∙ ap (placed_all old)
    (sym (ap (tag_notes p) (take-more_read tags k tag below is) ∙ tags-more p (take k tags) tag
    ∙ ap (λ (n : ℕ). tag_notes p (take k tags) ++ (tag.block, p + n) ∷ []) (length-take-le k tags (omega arith))))
