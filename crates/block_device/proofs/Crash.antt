-- After a crash each block has its last surviving write.
use Rattle.std.proofs.Common.{◌≡◌, ◌⊎◌, ℕ, suc, subst, inl, inr, ⊎_elim, ◌+◌, ◌<◌, ◌≤◌, Bool, true, false, List, [], ◌∷◌, ◌++◌, Option, Some, None, refl, sym, ◌∙◌, ap, append_assoc, arith}
use Rattle.std.specs.Prelude.{if◌then◌else◌, ◌&&◌, ◌||◌, ◌==◌, nat_le, option_map, unwrap_or, replicate, map, filter, IsSome, is_some, ⊤}
use Rattle.std.specs.List.{fold, list_any, AllByRecursion}
use Rattle.std.proofs.lemmas.List.{append-nil}
use Rattle.std.proofs.lemmas.List.Sums.{fold_push}
use Rattle.journal_model.specs.declared.number.Area.{Area}
use Rattle.journal_model.specs.declared.number.Area.TheVariants.{Log, Home}
use Rattle.journal_model.specs.Disk.{IsOneOf, Cell, Disk, same_area, held}
use Rattle.block_device.specs.Memory.{counted, writes_of, Moments, after_call, after_calls, blank, unflushed, unflushed_after, durable, oldest, kept_value}
use Rattle.block_device.specs.MemInvariant.{wrote_block, newest_from, newest, or_else, unnumbered, survivors, survives_crash, is_kept, flushed_in, FillsBlock, Indexes, IsNumbered, NumberedFrom, IsLeft, flushed_after, flushed_number, Forgets, Remembers, renoted}
use Rattle.block_device.specs.MemIndex.{noted_in}
use Rattle.block_device.specs.declared.memory_index.MemIndex.{MemIndex}
use Rattle.block_device.specs.declared.memory.Write.{Write}
use Rattle.block_device.specs.declared.memory.Call.{Call}
use Rattle.block_device.specs.declared.memory.Call.TheVariants.{Wrote, Flushed}
use Rattle.std.proofs.lemmas.Bool.{false≢true, eqb-true, le-leb, lt-leb}
use Rattle.block_device.proofs.Calls.{left_disk, new_disk, last_bytes, one_of, not_zero, counted_left, counted_new, counts_agree, reads_last, flushed_number-flush, flushed_number-write}

-- induction over calls, from the last one
module _ (P : List Call → Type 0) (step : (xs : List Call) (x : Call) → P xs → P (xs ++ x ∷ [])) where
  grows : (xs ys : List Call) → P xs → P (xs ++ ys)
  grows xs [] p = subst P (sym (append-nil xs)) p
  grows xs (y ∷ ys) p = subst P (append_assoc xs (y ∷ []) ys) (grows (xs ++ y ∷ []) ys (step xs y p))

  pub call_by_call : P [] → (xs : List Call) → P xs
  call_by_call p xs = grows [] xs p

-- the calls that survive are writes without a number
pub survivors_left : (keep : List ℕ) (l h : ℕ) (cs : List Call) → AllByRecursion IsLeft (survivors keep l h cs)
survivors_left keep l h [] = tt
survivors_left keep l h (Flushed a ∷ cs) = survivors_left keep l h cs
survivors_left keep l h (Wrote w ∷ cs) =
    elim (survives_crash keep l h (Wrote w)) as (λ b. AllByRecursion IsLeft (map unnumbered (if b then Wrote w ∷ filter (survives_crash keep l h) cs else filter (survives_crash keep l h) cs)))
    [ true ↦ (refl, survivors_left keep l h cs) | false ↦ survivors_left keep l h cs ]

-- a write with number 0 is one that a crash left
after_left : (m : Moments) (w : Write) → w.number ≡ 0 → after_call m (Wrote w) ≡ left_disk m w
after_left m w e = ap (λ k. if k == 0 then left_disk m w else new_disk m w) e

after_new : (m : Moments) (w : Write) (k : ℕ) → w.number ≡ suc k → after_call m (Wrote w) ≡ new_disk m w
after_new m w k e = ap (λ i. if i == 0 then left_disk m w else new_disk m w) e ∙ ap (λ b. if b then left_disk m w else new_disk m w) (not_zero k)

-- writes that a crash left add no moment
pub left_past : (cs : List Call) (m : Moments) → AllByRecursion IsLeft cs → (fold after_call m cs).past ≡ m.past
left_past [] m all = refl
left_past (Wrote w ∷ cs) m all = left_past cs (after_call m (Wrote w)) all.1 ∙ ap (λ x. x.past) (after_left m w all.0)
left_past (Flushed a ∷ cs) m all = absurd all.0

-- they add no count
pub left_count : (cs : List Call) (n : ℕ) → AllByRecursion IsLeft cs → fold counted n cs ≡ n
left_count [] n all = refl
left_count (Wrote w ∷ cs) n all = left_count cs (counted n (Wrote w)) all.1 ∙ counted_left n w all.0
left_count (Flushed a ∷ cs) n all = absurd all.0

-- they add no flush
pub left_flushed : (a : Area) (cs : List Call) (p : ℕ × ℕ) → AllByRecursion IsLeft cs → (fold (flushed_after a) p cs).1 ≡ p.1
left_flushed a [] p all = refl
left_flushed a (Wrote w ∷ cs) p all = left_flushed a cs (counted p.0 (Wrote w), p.1) all.1
left_flushed a (Flushed area ∷ cs) p all = absurd all.0

-- they are in order
pub left_numbered : (cs : List Call) → AllByRecursion IsLeft cs → IsNumbered cs
left_numbered [] all = tt
left_numbered (Wrote w ∷ cs) all = inl (all.0, left_numbered cs all.1)
left_numbered (Flushed a ∷ cs) all = absurd all.0

-- a block that a crash left holds nothing else
settled_cell : (b : Bool) (v : List ℕ) (c : Cell) → c.others ≡ [] → (if b then record { reads = v; others = [] } else c).others ≡ []
settled_cell true v c e = refl
settled_cell false v c e = e

pub left_others : (cs : List Call) (m : Moments) (a : Area) (n : ℕ) → AllByRecursion IsLeft cs → (m.disk a n).others ≡ [] → ((fold after_call m cs).disk a n).others ≡ []
left_others [] m a n all e = e
left_others (Wrote w ∷ cs) m a n all e =
    left_others cs (after_call m (Wrote w)) a n all.1
    (ap (λ x. (x.disk a n).others) (after_left m w all.0) ∙ settled_cell (same_area a w.area && (n == w.block)) w.bytes (m.disk a n) e)
left_others (Flushed area ∷ cs) m a n all e = absurd all.0

-- each call that survives fills its block
pub survivors_fill : (size : ℕ) (keep : List ℕ) (l h : ℕ) (cs : List Call) → AllByRecursion (FillsBlock size) cs → AllByRecursion (FillsBlock size) (survivors keep l h cs)
survivors_fill size keep l h [] all = tt
survivors_fill size keep l h (Flushed a ∷ cs) all = survivors_fill size keep l h cs all.1
survivors_fill size keep l h (Wrote w ∷ cs) all =
    elim (survives_crash keep l h (Wrote w)) as (λ b. AllByRecursion (FillsBlock size) (map unnumbered (if b then Wrote w ∷ filter (survives_crash keep l h) cs else filter (survives_crash keep l h) cs)))
    [ true ↦ (all.0, survivors_fill size keep l h cs all.1) | false ↦ survivors_fill size keep l h cs all.1 ]

-- whether some call wrote a block
abbrev pub any_wrote : Area → ℕ → List Call → Bool
any_wrote a n [] = false
any_wrote a n (c ∷ cs) = any_wrote a n cs || wrote_block a n c

is_some_or : (o : Option ℕ) (b : Bool) (k : ℕ) → is_some (or_else o (if b then Some k else None)) ≡ (is_some o || b)
is_some_or None true k = refl
is_some_or None false k = refl
is_some_or (Some i) true k = refl
is_some_or (Some i) false k = refl

pub newest_any : (a : Area) (n k : ℕ) (cs : List Call) → is_some (newest_from a n k cs) ≡ any_wrote a n cs
newest_any a n k [] = refl
newest_any a n k (c ∷ cs) = is_some_or (newest_from a n (suc k) cs) (wrote_block a n c) k ∙ ap (λ b. b || wrote_block a n c) (newest_any a n (suc k) cs)

-- what survives was written before
or_first : (b c d : Bool) → (b ≡ true → d ≡ true) → (b || c) ≡ true → (d || c) ≡ true
or_first true c d h e = ap (λ x. x || c) (h refl)
or_first false true true h e = refl
or_first false true false h e = refl
or_first false false d h e = absurd (false≢true e)

or_later : (b c : Bool) → b ≡ true → (b || c) ≡ true
or_later b c e = ap (λ x. x || c) e

pub survivors_wrote : (a : Area) (n : ℕ) (keep : List ℕ) (l h : ℕ) (cs : List Call) → any_wrote a n (survivors keep l h cs) ≡ true → any_wrote a n cs ≡ true
survivors_wrote a n keep l h [] e = e
survivors_wrote a n keep l h (Flushed area ∷ cs) e = or_later (any_wrote a n cs) false (survivors_wrote a n keep l h cs e)
survivors_wrote a n keep l h (Wrote w ∷ cs) e =
    (elim (survives_crash keep l h (Wrote w)) as (λ b. any_wrote a n (map unnumbered (if b then Wrote w ∷ filter (survives_crash keep l h) cs else filter (survives_crash keep l h) cs)) ≡ true → (any_wrote a n cs || wrote_block a n (Wrote w)) ≡ true) [
      | true ↦ or_first (any_wrote a n (survivors keep l h cs)) (wrote_block a n (Wrote w)) (any_wrote a n cs) (survivors_wrote a n keep l h cs)
      | false ↦ (λ f. or_later (any_wrote a n cs) (wrote_block a n (Wrote w)) (survivors_wrote a n keep l h cs f))
    ]) e

-- the last surviving write of a block, if its area was flushed up to this number
abbrev pub surviving_by : List ℕ → ℕ → Area → ℕ → Call → Option (List ℕ)
surviving_by keep f a n (Wrote w) = if same_area a w.area && (n == w.block) then (if nat_le w.number f || is_kept keep w.number then Some w.bytes else None) else None
surviving_by keep f a n (Flushed area) = None

abbrev pub last_surviving : List ℕ → ℕ → Area → ℕ → List Call → Option (List ℕ)
last_surviving keep f a n [] = None
last_surviving keep f a n (c ∷ cs) = one_of (last_surviving keep f a n cs) (surviving_by keep f a n c)

-- within one area, that area's flush counts
same_flush : (l h : ℕ) (a b : Area) (c : Bool) → (same_area a b && c) ≡ true → flushed_in l h b ≡ flushed_in l h a
same_flush l h Log Log c e = refl
same_flush l h Home Home c e = refl
same_flush l h Log Home c e = absurd (false≢true e)
same_flush l h Home Log c e = absurd (false≢true e)

-- the last of the survivors is the last that survives
one_survives : (here lives : Bool) (rest : Option (List ℕ)) (w : Write) → (if lives then one_of rest (if here then Some w.bytes else None) else rest) ≡ one_of rest (if here then (if lives then Some w.bytes else None) else None)
one_survives true true rest w = refl
one_survives true false None w = refl
one_survives true false (Some v) w = refl
one_survives false true rest w = refl
one_survives false false None w = refl
one_survives false false (Some v) w = refl

same_lives : (here : Bool) (f g number : ℕ) (kept : Bool) (w : Write) → (here ≡ true → f ≡ g) → (if here then (if nat_le number f || kept then Some w.bytes else None) else None) ≡ (if here then (if nat_le number g || kept then Some w.bytes else None) else None)
same_lives true f g number kept w e = ap (λ k. if nat_le number k || kept then Some w.bytes else None) (e refl)
same_lives false f g number kept w e = refl

pub survivors_last : (keep : List ℕ) (l h : ℕ) (a : Area) (n : ℕ) (cs : List Call) → last_bytes a n (survivors keep l h cs) ≡ last_surviving keep (flushed_in l h a) a n cs
survivors_last keep l h a n [] = refl
survivors_last keep l h a n (Flushed area ∷ cs) = survivors_last keep l h a n cs ∙ one_none (last_surviving keep (flushed_in l h a) a n cs)
  where
    one_none : (o : Option (List ℕ)) → o ≡ one_of o None
    one_none None = refl
    one_none (Some v) = refl
survivors_last keep l h a n (Wrote w ∷ cs) =
    let here : Bool = same_area a w.area && (n == w.block) in
    let lives : Bool = nat_le w.number (flushed_in l h w.area) || is_kept keep w.number in
    last_kept lives w cs
    ∙ one_survives here lives (last_bytes a n (survivors keep l h cs)) w
    ∙ ap (λ o. one_of o (if here then (if lives then Some w.bytes else None) else None)) (survivors_last keep l h a n cs)
    ∙ ap (one_of (last_surviving keep (flushed_in l h a) a n cs)) (same_lives here (flushed_in l h w.area) (flushed_in l h a) w.number (is_kept keep w.number) w (same_flush l h a w.area (n == w.block)))
  where
    last_kept : (b : Bool) (w : Write) (cs : List Call) →
        last_bytes a n (map unnumbered (if b then Wrote w ∷ filter (survives_crash keep l h) cs else filter (survives_crash keep l h) cs))
        ≡ (if b then one_of (last_bytes a n (survivors keep l h cs)) (if same_area a w.area && (n == w.block) then Some w.bytes else None) else last_bytes a n (survivors keep l h cs))
    last_kept true w cs = refl
    last_kept false w cs = refl

-- one more call is the last to survive, if it survives
one_of_assoc : (a b c : Option (List ℕ)) → one_of a (one_of b c) ≡ one_of (one_of a b) c
one_of_assoc None b c = refl
one_of_assoc (Some v) b c = refl

one_of_none : (o : Option (List ℕ)) → one_of o None ≡ o
one_of_none None = refl
one_of_none (Some v) = refl

last_surviving-push : (keep : List ℕ) (f : ℕ) (a : Area) (n : ℕ) (cs : List Call) (c : Call) → last_surviving keep f a n (cs ++ c ∷ []) ≡ one_of (surviving_by keep f a n c) (last_surviving keep f a n cs)
last_surviving-push keep f a n [] c = sym (one_of_none (surviving_by keep f a n c))
last_surviving-push keep f a n (x ∷ cs) c =
    ap (λ o. one_of o (surviving_by keep f a n x)) (last_surviving-push keep f a n cs c)
    ∙ sym (one_of_assoc (surviving_by keep f a n c) (last_surviving keep f a n cs) (surviving_by keep f a n x))

-- calls without the last one stay in order
numbered_from-front : (k : ℕ) (cs : List Call) (c : Call) → NumberedFrom k (cs ++ c ∷ []) → NumberedFrom k cs
numbered_from-front k [] c h = tt
numbered_from-front k (Wrote w ∷ cs) c h = (h.0, numbered_from-front (suc k) cs c h.1)
numbered_from-front k (Flushed a ∷ cs) c h = numbered_from-front k cs c h

numbered-front : (cs : List Call) (c : Call) → IsNumbered (cs ++ c ∷ []) → IsNumbered cs
numbered-front [] c h = tt
numbered-front (Wrote w ∷ cs) c h = ⊎_elim (λ left. inl (left.0, numbered-front cs c left.1)) (λ new. inr (numbered_from-front 0 (Wrote w ∷ cs) c new)) h
numbered-front (Flushed a ∷ cs) c h = numbered_from-front 0 cs c h

-- the last write is left by a crash, or has the next number
numbered_from-last : (k : ℕ) (cs : List Call) (w : Write) → NumberedFrom k (cs ++ Wrote w ∷ []) → w.number ≡ suc (fold counted k cs)
numbered_from-last k [] w h = h.0
numbered_from-last k (Wrote x ∷ cs) w h = numbered_from-last (suc k) cs w h.1 ∙ ap (λ n. suc (fold counted n cs)) (sym (counted_new k k x h.0))
numbered_from-last k (Flushed a ∷ cs) w h = numbered_from-last k cs w h

numbered-last : (cs : List Call) (w : Write) → IsNumbered (cs ++ Wrote w ∷ []) → (w.number ≡ 0) ⊎ (w.number ≡ suc (writes_of cs))
numbered-last [] w h = ⊎_elim (λ left. inl left.0) (λ new. inr new.0) h
numbered-last (Wrote x ∷ cs) w h = ⊎_elim
    (λ left. ⊎_elim inl (λ e. inr (e ∙ ap (λ n. suc (fold counted n cs)) (sym (counted_left 0 x left.0)))) (numbered-last cs w left.1))
    (λ new. inr (numbered_from-last 0 (Wrote x ∷ cs) w new)) h
numbered-last (Flushed a ∷ cs) w h = inr (numbered_from-last 0 cs w h)

-- no number is above the count
abbrev pub NumberAtMost : ℕ → Call → Type 0
NumberAtMost m (Wrote w) = w.number ≤ m
NumberAtMost m (Flushed a) = ⊤

counted_grows : (n : ℕ) (c : Call) → n ≤ counted n c
counted_grows n (Flushed a) = omega arith
counted_grows n (Wrote w) = elim (w.number == 0) as (λ b. n ≤ (if b then n else n + 1)) [ true ↦ omega arith | false ↦ omega arith ]

counts_grow : (n : ℕ) (cs : List Call) → n ≤ fold counted n cs
counts_grow n [] = omega arith
counts_grow n (c ∷ cs) = let one = counted_grows n c in let rest = counts_grow (counted n c) cs in omega arith

numbered_from-bound : (k : ℕ) (cs : List Call) → NumberedFrom k cs → AllByRecursion (NumberAtMost (fold counted k cs)) cs
numbered_from-bound k [] h = tt
numbered_from-bound k (Wrote w ∷ cs) h =
    let next = counted_new k k w h.0 in
    let grown = counts_grow (counted k (Wrote w)) cs in
    let number = h.0 in
    (omega arith, subst (λ n. AllByRecursion (NumberAtMost (fold counted n cs)) cs) (sym next) (numbered_from-bound (suc k) cs h.1))
numbered_from-bound k (Flushed a ∷ cs) h = (tt, numbered_from-bound k cs h)

numbered-bound : (cs : List Call) → IsNumbered cs → AllByRecursion (NumberAtMost (writes_of cs)) cs
numbered-bound [] h = tt
numbered-bound (Wrote w ∷ cs) h = ⊎_elim
    (λ left. let number = left.0 in (omega arith, subst (λ n. AllByRecursion (NumberAtMost (fold counted n cs)) cs) (sym (counted_left 0 w left.0)) (numbered-bound cs left.1)))
    (λ new. numbered_from-bound 0 (Wrote w ∷ cs) new) h
numbered-bound (Flushed a ∷ cs) h = (tt, numbered_from-bound 0 cs h)

-- what was flushed was counted
flushed_le : (a : Area) (cs : List Call) (p : ℕ × ℕ) → p.1 ≤ p.0 → (fold (flushed_after a) p cs).1 ≤ (fold (flushed_after a) p cs).0
flushed_le a [] p h = h
flushed_le a (Wrote w ∷ cs) p h = let grown = counted_grows p.0 (Wrote w) in flushed_le a cs (counted p.0 (Wrote w), p.1) (omega arith)
flushed_le a (Flushed area ∷ cs) p h = flushed_le a cs (p.0, if same_area a area then p.0 else p.1) (elim (same_area a area) as (λ b. (if b then p.0 else p.1) ≤ p.0) [ true ↦ omega arith | false ↦ h ])

flushed_at_most : (a : Area) (cs : List Call) → flushed_number a cs ≤ writes_of cs
flushed_at_most a cs = let le = flushed_le a cs (0, 0) (omega arith) in let e = counts_agree a cs (0, 0) in omega arith

-- if each write was flushed, each survives
all_survive : (keep : List ℕ) (m : ℕ) (a : Area) (n : ℕ) (cs : List Call) → AllByRecursion (NumberAtMost m) cs → last_surviving keep m a n cs ≡ last_bytes a n cs
all_survive keep m a n [] all = refl
all_survive keep m a n (Wrote w ∷ cs) all =
    ap (λ o. one_of o (surviving_by keep m a n (Wrote w))) (all_survive keep m a n cs all.1)
    ∙ ap (λ b. one_of (last_bytes a n cs) (if same_area a w.area && (n == w.block) then (if b || is_kept keep w.number then Some w.bytes else None) else None)) (le-leb w.number m all.0)
all_survive keep m a n (Flushed area ∷ cs) all = ap (λ o. one_of o None) (all_survive keep m a n cs all.1)

-- the block asked for is the block written
same_place : (a b : Area) (n m : ℕ) → (same_area a b && (n == m)) ≡ true → (a ≡ b) × (n ≡ m)
same_place Log Log n m e = (refl, eqb-true n m e)
same_place Home Home n m e = (refl, eqb-true n m e)
same_place Log Home n m e = absurd (false≢true e)
same_place Home Log n m e = absurd (false≢true e)

-- what a crash leaves of a block, by its cell and unflushed writes
abbrev pub left_of_cell : List ℕ → Cell → List (ℕ × List ℕ) → List ℕ
left_of_cell keep cell ws = kept_value keep (durable cell) ws

-- one more write that a crash left
left_step : (keep : List ℕ) (here : Bool) (v z : List ℕ) (rest : Option (List ℕ)) (cell : Cell) (ws : List (ℕ × List ℕ)) →
    unwrap_or rest z ≡ left_of_cell keep cell ws →
    unwrap_or (one_of (if here then Some v else None) rest) z ≡ left_of_cell keep (if here then record { reads = v; others = [] } else cell) (if here then [] else ws)
left_step keep true v z rest cell ws h = refl
left_step keep false v z rest cell ws h = h

-- one more write of the running device survives if it is kept
kept_step : (keep : List ℕ) (kept : Bool) (number : ℕ) (v z : List ℕ) (rest : Option (List ℕ)) (d : List ℕ) (ws : List (ℕ × List ℕ)) →
    unwrap_or rest z ≡ kept_value keep d ws → is_kept keep number ≡ kept →
    unwrap_or (one_of (if kept then Some v else None) rest) z ≡ kept_value keep d (ws ++ (number, v) ∷ [])
kept_step keep kept number v z rest d ws h e =
    cases kept
    ∙ ap (λ b. if b then v else kept_value keep d ws) (sym e)
    ∙ sym (fold_push (λ u w. if list_any (λ k. k == w.0) keep then w.1 else u) d ws (number, v))
  where
    cases : (b : Bool) → unwrap_or (one_of (if b then Some v else None) rest) z ≡ (if b then v else kept_value keep d ws)
    cases true = refl
    cases false = h

new_step : (keep : List ℕ) (here : Bool) (number : ℕ) (v z : List ℕ) (rest : Option (List ℕ)) (cell : Cell) (ws : List (ℕ × List ℕ)) →
    unwrap_or rest z ≡ left_of_cell keep cell ws →
    unwrap_or (one_of (if here then (if is_kept keep number then Some v else None) else None) rest) z
    ≡ left_of_cell keep (if here then record { reads = v; others = held cell } else cell) (if here then ws ++ (number, v) ∷ [] else ws)
new_step keep true number v z rest cell ws h = kept_step keep (is_kept keep number) number v z rest (durable cell) ws h refl
new_step keep false number v z rest cell ws h = h

-- a flush of the area makes what is read durable
flush_step : (keep : List ℕ) (here : Bool) (f g : ℕ) (z : List ℕ) (rest : ℕ → Option (List ℕ)) (cell : Cell) (ws : List (ℕ × List ℕ)) →
    unwrap_or (rest g) z ≡ left_of_cell keep cell ws → unwrap_or (rest f) z ≡ cell.reads →
    unwrap_or (rest (if here then f else g)) z ≡ left_of_cell keep (if here then record { reads = cell.reads; others = [] } else cell) (if here then [] else ws)
flush_step keep true f g z rest cell ws h e = e
flush_step keep false f g z rest cell ws h e = h

-- what a write above the flushed number adds
surviving_new : (keep : List ℕ) (f : ℕ) (a : Area) (n : ℕ) (w : Write) → f < w.number →
    surviving_by keep f a n (Wrote w) ≡ (if same_area a w.area && (n == w.block) then (if is_kept keep w.number then Some w.bytes else None) else None)
surviving_new keep f a n w over = ap (λ b. if same_area a w.area && (n == w.block) then (if b || is_kept keep w.number then Some w.bytes else None) else None) (lt-leb w.number f over)

-- what a write that a crash left adds
surviving_left : (keep : List ℕ) (f : ℕ) (a : Area) (n : ℕ) (w : Write) → w.number ≡ 0 →
    surviving_by keep f a n (Wrote w) ≡ (if same_area a w.area && (n == w.block) then Some w.bytes else None)
surviving_left keep f a n w e = ap (λ b. if same_area a w.area && (n == w.block) then (if b || is_kept keep w.number then Some w.bytes else None) else None) (le-leb w.number f (omega arith))

-- the unflushed writes after one more call
unflushed-push : (a : Area) (n : ℕ) (cs : List Call) (c : Call) → unflushed a n (cs ++ c ∷ []) ≡ unflushed_after a n (unflushed a n cs) c
unflushed-push a n cs c = fold_push (unflushed_after a n) [] cs c

after_calls-push : (size : ℕ) (cs : List Call) (c : Call) → after_calls size (cs ++ c ∷ []) ≡ after_call (after_calls size cs) c
after_calls-push size cs c = fold_push after_call (blank size) cs c

place_path : {x y : Area} {i j : ℕ} → x ≡ y → i ≡ j → ◌≡◌ {A = Area × ℕ} (y, j) (x, i)
place_path {x} {y} {i} {j} p q = ap (λ (z : Area). (z, j)) (sym p) ∙ ap (λ (k : ℕ). (x, k)) (sym q)

-- what the written block holds, the block asked for holds
held_here : (disk : Disk) (a b : Area) (n m : ℕ) (v : List ℕ) → (if same_area a b && (n == m) then record { reads = v; others = held (disk b m) } else disk a n) ≡ (if same_area a b && (n == m) then record { reads = v; others = held (disk a n) } else disk a n)
held_here disk a b n m v = go (same_area a b && (n == m)) refl
  where
    go : (here : Bool) → (same_area a b && (n == m)) ≡ here → (if here then record { reads = v; others = held (disk b m) } else disk a n) ≡ (if here then record { reads = v; others = held (disk a n) } else disk a n)
    go true e = let p = same_place a b n m e in ap (λ (x : Area × ℕ). record { reads = v; others = held (disk x.0 x.1) }) (place_path p.0 p.1)
    go false e = refl

module _ (keep : List ℕ) (size : ℕ) (a : Area) (n : ℕ) where
  -- what survives of a block is what the crash leaves
  abbrev pub LeavesBlock : List Call → Type 0
  LeavesBlock cs = IsNumbered cs →
      unwrap_or (last_surviving keep (flushed_number a cs) a n cs) (replicate size 0)
      ≡ left_of_cell keep ((after_calls size cs).disk a n) (unflushed a n cs)

  step_flush : (cs : List Call) (area : Area) → LeavesBlock cs → LeavesBlock (cs ++ Flushed area ∷ [])
  step_flush cs area before numbered =
      let inner = numbered-front cs (Flushed area) numbered in
      ap (λ f. unwrap_or (last_surviving keep f a n (cs ++ Flushed area ∷ [])) (replicate size 0)) (flushed_number-flush a area cs)
      ∙ ap (λ (o : Option (List ℕ)). unwrap_or o (replicate size 0)) (last_surviving-push keep (if same_area a area then writes_of cs else flushed_number a cs) a n cs (Flushed area))
      ∙ flush_step keep (same_area a area) (writes_of cs) (flushed_number a cs) (replicate size 0) (λ f. last_surviving keep f a n cs) ((after_calls size cs).disk a n) (unflushed a n cs) (before inner)
      (ap (λ (o : Option (List ℕ)). unwrap_or o (replicate size 0)) (all_survive keep (writes_of cs) a n cs (numbered-bound cs inner)) ∙ sym (reads_last size cs a n))
      ∙ ap (λ (m : Moments). left_of_cell keep (m.disk a n) (if same_area a area then [] else unflushed a n cs)) (sym (after_calls-push size cs (Flushed area)))
      ∙ ap (left_of_cell keep ((after_calls size (cs ++ Flushed area ∷ [])).disk a n)) (sym (unflushed-push a n cs (Flushed area)))

  -- what survives after one more write, by what it adds
  surviving_write : (cs : List Call) (w : Write) (added : Option (List ℕ)) → surviving_by keep (flushed_number a cs) a n (Wrote w) ≡ added →
      unwrap_or (last_surviving keep (flushed_number a (cs ++ Wrote w ∷ [])) a n (cs ++ Wrote w ∷ [])) (replicate size 0)
      ≡ unwrap_or (one_of added (last_surviving keep (flushed_number a cs) a n cs)) (replicate size 0)
  surviving_write cs w added adds =
      ap (λ f. unwrap_or (last_surviving keep f a n (cs ++ Wrote w ∷ [])) (replicate size 0)) (flushed_number-write a cs w)
      ∙ ap (λ (o : Option (List ℕ)). unwrap_or o (replicate size 0)) (last_surviving-push keep (flushed_number a cs) a n cs (Wrote w))
      ∙ ap (λ (o : Option (List ℕ)). unwrap_or (one_of o (last_surviving keep (flushed_number a cs) a n cs)) (replicate size 0)) adds

  step_left : (cs : List Call) (w : Write) → w.number ≡ 0 → LeavesBlock cs → LeavesBlock (cs ++ Wrote w ∷ [])
  step_left cs w e before numbered =
      let here : Bool = same_area a w.area && (n == w.block) in
      let ws : List (ℕ × List ℕ) = unflushed a n cs in
      let cell : Cell = (after_calls size cs).disk a n in
      surviving_write cs w (if here then Some w.bytes else None) (surviving_left keep (flushed_number a cs) a n w e)
      ∙ left_step keep here w.bytes (replicate size 0) (last_surviving keep (flushed_number a cs) a n cs) cell ws (before (numbered-front cs (Wrote w) numbered))
      ∙ ap (λ (m : Moments). left_of_cell keep (m.disk a n) (if here then [] else ws)) (sym (after_left (after_calls size cs) w e) ∙ sym (after_calls-push size cs (Wrote w)))
      ∙ ap (left_of_cell keep ((after_calls size (cs ++ Wrote w ∷ [])).disk a n))
      (ap (λ b. if here then (if b then [] else ws ++ (w.number, w.bytes) ∷ []) else ws) (sym (ap (λ k. k == 0) e)) ∙ sym (unflushed-push a n cs (Wrote w)))

  step_new : (cs : List Call) (w : Write) → w.number ≡ suc (writes_of cs) → LeavesBlock cs → LeavesBlock (cs ++ Wrote w ∷ [])
  step_new cs w e before numbered =
      let here : Bool = same_area a w.area && (n == w.block) in
      let ws : List (ℕ × List ℕ) = unflushed a n cs in
      let disk : Disk = (after_calls size cs).disk in
      let below = flushed_at_most a cs in
      surviving_write cs w (if here then (if is_kept keep w.number then Some w.bytes else None) else None) (surviving_new keep (flushed_number a cs) a n w (omega arith))
      ∙ new_step keep here w.number w.bytes (replicate size 0) (last_surviving keep (flushed_number a cs) a n cs) (disk a n) ws (before (numbered-front cs (Wrote w) numbered))
      ∙ ap (λ (c : Cell). left_of_cell keep c (if here then ws ++ (w.number, w.bytes) ∷ [] else ws)) (sym (held_here disk a w.area n w.block w.bytes))
      ∙ ap (λ (m : Moments). left_of_cell keep (m.disk a n) (if here then ws ++ (w.number, w.bytes) ∷ [] else ws)) (sym (after_new (after_calls size cs) w (writes_of cs) e) ∙ sym (after_calls-push size cs (Wrote w)))
      ∙ ap (left_of_cell keep ((after_calls size (cs ++ Wrote w ∷ [])).disk a n))
      (ap (λ b. if here then (if b then [] else ws ++ (w.number, w.bytes) ∷ []) else ws) (sym (ap (λ k. k == 0) e ∙ not_zero (writes_of cs))) ∙ sym (unflushed-push a n cs (Wrote w)))

  step_write : (cs : List Call) (w : Write) → LeavesBlock cs → LeavesBlock (cs ++ Wrote w ∷ [])
  step_write cs w before numbered = ⊎_elim (λ e. step_left cs w e before numbered) (λ e. step_new cs w e before numbered) (numbered-last cs w numbered)

  step_call : (cs : List Call) (c : Call) → LeavesBlock cs → LeavesBlock (cs ++ c ∷ [])
  step_call cs (Wrote w) = step_write cs w
  step_call cs (Flushed area) = step_flush cs area

  pub survivors_leave : (cs : List Call) → LeavesBlock cs
  survivors_leave cs = call_by_call LeavesBlock step_call (λ _. refl) cs

-- the oldest of some values is one of them
oldest_is_one : (v : List ℕ) (ws : List (List ℕ)) → IsOneOf (v ∷ ws) (oldest v ws)
oldest_is_one v [] = inl refl
oldest_is_one v (w ∷ ws) = inr (oldest_is_one w ws)

-- a kept value is held, if all writes and the older value are
kept_is_one : (keep : List ℕ) (vs : List (List ℕ)) (v : List ℕ) (ws : List (ℕ × List ℕ)) → IsOneOf vs v → AllByRecursion (λ w. IsOneOf vs w.1) ws → IsOneOf vs (kept_value keep v ws)
kept_is_one keep vs v [] h all = h
kept_is_one keep vs v (w ∷ ws) h all =
    kept_is_one keep vs (if list_any (λ k. k == w.0) keep then w.1 else v) ws
    (elim (list_any (λ k. k == w.0) keep) as (λ b. IsOneOf vs (if b then w.1 else v)) [ true ↦ all.0 | false ↦ h ]) all.1

-- each unflushed write of a block is held there
abbrev pub AllHeld : Cell → List (ℕ × List ℕ) → Type 0
AllHeld c ws = AllByRecursion (λ w. IsOneOf (held c) w.1) ws

held_more : (vs : List (List ℕ)) (v : List ℕ) (k : ℕ) (ws : List (ℕ × List ℕ)) → AllByRecursion (λ w. IsOneOf vs w.1) ws → AllByRecursion (λ w. IsOneOf (v ∷ vs) w.1) (ws ++ (k, v) ∷ [])
held_more vs v k [] all = (inl refl, tt)
held_more vs v k (w ∷ ws) all = (inr all.0, held_more vs v k ws all.1)

held_flush : (here : Bool) (c : Cell) (ws : List (ℕ × List ℕ)) → AllHeld c ws → AllHeld (if here then record { reads = c.reads; others = [] } else c) (if here then [] else ws)
held_flush true c ws all = tt
held_flush false c ws all = all

held_left : (here : Bool) (v : List ℕ) (c : Cell) (ws : List (ℕ × List ℕ)) → AllHeld c ws → AllHeld (if here then record { reads = v; others = [] } else c) (if here then [] else ws)
held_left true v c ws all = tt
held_left false v c ws all = all

held_new : (here : Bool) (v : List ℕ) (k : ℕ) (c : Cell) (ws : List (ℕ × List ℕ)) → AllHeld c ws → AllHeld (if here then record { reads = v; others = held c } else c) (if here then ws ++ (k, v) ∷ [] else ws)
held_new true v k c ws all = held_more (held c) v k ws all
held_new false v k c ws all = all

-- one more call keeps that each unflushed write is held
held_call : (a : Area) (n : ℕ) (m : Moments) (ws : List (ℕ × List ℕ)) (c : Call) → AllHeld (m.disk a n) ws → AllHeld ((after_call m c).disk a n) (unflushed_after a n ws c)
held_call a n m ws (Flushed area) all = held_flush (same_area a area) (m.disk a n) ws all
held_call a n m ws (Wrote w) all =
    let here : Bool = same_area a w.area && (n == w.block) in
    let added : List (ℕ × List ℕ) = ws ++ (w.number, w.bytes) ∷ [] in
    elim (w.number == 0) as (λ b. AllHeld ((if b then left_disk m w else new_disk m w).disk a n) (if here then (if b then [] else added) else ws)) [
      | true ↦ held_left here w.bytes (m.disk a n) ws all
      | false ↦ subst (λ (c : Cell). AllHeld c (if here then added else ws)) (sym (held_here m.disk a w.area n w.block w.bytes)) (held_new here w.bytes w.number (m.disk a n) ws all)
    ]

pub unflushed_held : (a : Area) (n : ℕ) (m : Moments) (ws : List (ℕ × List ℕ)) (cs : List Call) → AllHeld (m.disk a n) ws → AllHeld ((fold after_call m cs).disk a n) (fold (unflushed_after a n) ws cs)
unflushed_held a n m ws [] all = all
unflushed_held a n m ws (c ∷ cs) all = unflushed_held a n (after_call m c) (unflushed_after a n ws c) cs (held_call a n m ws c all)

-- what a crash leaves of a block is held there
pub crash_leaves_held : (keep : List ℕ) (size : ℕ) (a : Area) (n : ℕ) (cs : List Call) → IsOneOf (held ((after_calls size cs).disk a n)) (left_of_cell keep ((after_calls size cs).disk a n) (unflushed a n cs))
crash_leaves_held keep size a n cs =
    let cell : Cell = (after_calls size cs).disk a n in
    kept_is_one keep (held cell) (durable cell) (unflushed a n cs) (oldest_is_one cell.reads cell.others) (unflushed_held a n (blank size) [] cs tt)

-- a written block's note is forgotten
forgot_written : (o : Option ℕ) (old : Option (Option ℕ)) → is_some o ≡ true → ((i : ℕ) → o ≡ Some i → IsSome old) → (if is_some o then option_map (λ _. None) old else old) ≡ Some None
forgot_written None old e h = absurd (false≢true e)
forgot_written (Some i) None e h = absurd (false≢true (h i refl))
forgot_written (Some i) (Some p) e h = refl

forgot_any : (o : Option ℕ) (old : Option (Option ℕ)) → unwrap_or old None ≡ o → unwrap_or (if is_some o then option_map (λ _. None) old else old) None ≡ None
forgot_any None old e = e
forgot_any (Some i) None e = refl
forgot_any (Some i) (Some p) e = refl

-- the device that a crash makes
module _ (keep : List ℕ) (size : ℕ) (index forgot new : MemIndex) (cs : List Call) (w l h : ℕ) (inv : Indexes size index cs w l h) (forgets : Forgets cs index forgot) (remembers : Remembers (survivors keep l h cs) forgot new) where
  lives : List Call
  lives = survivors keep l h cs

  -- a block that a survivor wrote is still noted
  noted_forgot : (a : Area) (n i : ℕ) → newest a n lives ≡ Some i → noted_in forgot a n ≡ Some None
  unfolding lives
  noted_forgot a n i e =
      let wrote : any_wrote a n cs ≡ true = survivors_wrote a n keep l h cs (sym (newest_any a n 0 (survivors keep l h cs)) ∙ ap is_some e) in
      forgets a n ∙ forgot_written (newest a n cs) (noted_in index a n) (newest_any a n 0 cs ∙ wrote) (inv.noted a n)

  indexed_anew : (a : Area) (n : ℕ) (o : Option ℕ) → newest a n lives ≡ o → unwrap_or (renoted o (noted_in forgot a n)) None ≡ o
  indexed_anew a n None e = ap (λ (p : Option (Option ℕ)). unwrap_or p None) (forgets a n) ∙ forgot_any (newest a n cs) (noted_in index a n) (inv.indexed a n)
  indexed_anew a n (Some i) e = ap (λ p. unwrap_or (renoted (Some i) p) None) (noted_forgot a n i e)

  pub crash_indexes : Indexes size new (survivors keep l h cs) 0 0 0
  unfolding lives
  crash_indexes = record {
    sizes = survivors_fill size keep l h cs inv.sizes;
    indexed = (λ a n. ap (λ (p : Option (Option ℕ)). unwrap_or p None) (remembers a n) ∙ indexed_anew a n (newest a n (survivors keep l h cs)) refl);
    noted = (λ a n i e. subst IsSome (sym (remembers a n ∙ ap (λ o. renoted o (noted_in forgot a n)) e ∙ ap (renoted (Some i)) (noted_forgot a n i e))) refl);
    counted_writes = sym (left_count (survivors keep l h cs) 0 (survivors_left keep l h cs));
    log_count = sym (left_flushed Log (survivors keep l h cs) (0, 0) (survivors_left keep l h cs));
    home_count = sym (left_flushed Home (survivors keep l h cs) (0, 0) (survivors_left keep l h cs));
    numbered = left_numbered (survivors keep l h cs) (survivors_left keep l h cs);
  }

-- the disk of the device that a crash makes
module _ (keep : List ℕ) (size : ℕ) (index : MemIndex) (cs : List Call) (w l h : ℕ) (inv : Indexes size index cs w l h) where
  flush_numbers : (a : Area) → flushed_in l h a ≡ flushed_number a cs
  flush_numbers Log = inv.log_count
  flush_numbers Home = inv.home_count

  -- each block is as the crash leaves it, and holds nothing else
  pub crash_disk : (a : Area) (n : ℕ) → (after_calls size (survivors keep l h cs)).disk a n ≡ record { reads = left_of_cell keep ((after_calls size cs).disk a n) (unflushed a n cs); others = [] }
  crash_disk a n =
      cell_path ((after_calls size (survivors keep l h cs)).disk a n)
      (reads_last size (survivors keep l h cs) a n
      ∙ ap (λ (o : Option (List ℕ)). unwrap_or o (replicate size 0)) (survivors_last keep l h a n cs)
      ∙ ap (λ f. unwrap_or (last_surviving keep f a n cs) (replicate size 0)) (flush_numbers a)
      ∙ survivors_leave keep size a n cs inv.numbered)
      (left_others (survivors keep l h cs) (blank size) a n (survivors_left keep l h cs) refl)
    where
      cell_path : {r : List ℕ} (c : Cell) → c.reads ≡ r → c.others ≡ [] → c ≡ record { reads = r; others = [] }
      cell_path {r} c p q = ap (λ (v : List ℕ). let x : Cell = record { reads = v; others = c.others } in x) p ∙ ap (λ (os : List (List ℕ)). let x : Cell = record { reads = r; others = os } in x) q
