-- How one more call changes a block's newest write, the counters, and what it reads.
use Rattle.std.proofs.Common.{◌≡◌, ℕ, suc, subst, inl, inr, ⊎_elim, take, drop, set, ◌+◌, ◌<◌, Bool, true, false, List, [], ◌∷◌, ◌++◌, length, get_or, Option, Some, None, refl, sym, ◌∙◌, ap, append_assoc, arith, add-one, zero-add, rules}
use Rattle.std.specs.Prelude.{if◌then◌else◌, ◌&&◌, ◌||◌, ◌==◌, option_map, unwrap_or, replicate, map, IsSome, is_some, ⊤}
use Rattle.std.specs.List.{fold, AllByRecursion}
use Rattle.std.proofs.lemmas.List.Sums.{fold_push}
use Rattle.std.proofs.lemmas.List.Elements.{All-from_recursion}
use Rattle.std.proofs.lemmas.List.{take_more, drop_more, length-map, length-take-le, map_push, set_at, get_or_at}
use Rattle.journal_model.specs.declared.number.Area.{Area}
use Rattle.journal_model.specs.declared.number.Area.TheVariants.{Log, Home}
use Rattle.journal_model.specs.Disk.{Cell, same_area, with_cell, written, held}
use Rattle.block_device.specs.Memory.{counted, writes_of, Moments, after_call, after_calls, blank}
use Rattle.block_device.specs.MemInvariant.{wrote_block, newest_from, newest, or_else, unnumbered, FillsBlock, Indexes, IsIndexed, IsNumbered, NumberedFrom, flushed_after, flushed_number, Forgets, Remembers, renoted}
use Rattle.block_device.specs.MemIndex.{noted_in, newest_in, NotesOnly}
use Rattle.block_device.specs.declared.memory_index.MemIndex.{MemIndex}
use Rattle.block_device.specs.declared.memory.Write.{Write}
use Rattle.block_device.specs.declared.memory.MemDevice.TheInside.{Inside}
use Rattle.block_device.specs.declared.memory.Call.{Call}
use Rattle.block_device.specs.declared.memory.Call.TheVariants.{Wrote, Flushed}

or_else_assoc : (a b c : Option ℕ) → or_else a (or_else b c) ≡ or_else (or_else a b) c
or_else_assoc None b c = refl
or_else_assoc (Some i) b c = refl

-- one more call is a block's newest write, if it wrote the block
pub newest_from-push : (a : Area) (n k : ℕ) (cs : List Call) (c : Call) → newest_from a n k (cs ++ c ∷ []) ≡ or_else (if wrote_block a n c then Some (k + length cs) else None) (newest_from a n k cs)
newest_from-push a n k [] c = elim (wrote_block a n c) as (λ b. (if b then Some k else None) ≡ or_else (if b then Some (k + 0) else None) None) [ true ↦ ap Some (omega arith) | false ↦ refl ]
newest_from-push a n k (x ∷ cs) c =
    let here : Option ℕ = if wrote_block a n x then Some k else None in
    let step : suc k + length cs ≡ k + suc (length cs) = omega arith in
    ap (λ o. or_else o here) (newest_from-push a n (suc k) cs c)
    ∙ sym (or_else_assoc (if wrote_block a n c then Some (suc k + length cs) else None) (newest_from a n (suc k) cs) here)
    ∙ ap (λ i. or_else (if wrote_block a n c then Some i else None) (or_else (newest_from a n (suc k) cs) here)) step

-- the bytes of a block's last write among these calls
abbrev pub one_of : Option (List ℕ) → Option (List ℕ) → Option (List ℕ)
one_of None other = other
one_of (Some v) other = Some v

abbrev pub bytes_by : Area → ℕ → Call → Option (List ℕ)
bytes_by a n (Wrote w) = if same_area a w.area && (n == w.block) then Some w.bytes else None
bytes_by a n (Flushed area) = None

abbrev pub last_bytes : Area → ℕ → List Call → Option (List ℕ)
last_bytes a n [] = None
last_bytes a n (c ∷ cs) = one_of (last_bytes a n cs) (bytes_by a n c)

-- the reads of a changed cell
pick_reads : (b : Bool) (v : List ℕ) (others : List (List ℕ)) (c : Cell) → (if b then record { reads = v; others = others } else c).reads ≡ unwrap_or (if b then Some v else None) c.reads
pick_reads true v others c = refl
pick_reads false v others c = refl

-- a flush changes nothing that is read
flush_reads : (b : Bool) (c : Cell) → (if b then record { reads = c.reads; others = [] } else c).reads ≡ c.reads
flush_reads true c = refl
flush_reads false c = refl

one_of_last : (o p : Option (List ℕ)) (v : List ℕ) → unwrap_or o (unwrap_or p v) ≡ unwrap_or (one_of o p) v
one_of_last None p v = refl
one_of_last (Some u) p v = refl

-- a write left by a crash is all that its block holds; a new one is written over it
abbrev pub left_disk : Moments → Write → Moments
left_disk m w = record { disk = with_cell m.disk w.area w.block (record { reads = w.bytes; others = [] }); past = m.past }

abbrev pub new_disk : Moments → Write → Moments
new_disk m w = record { disk = written m.disk w.area w.block w.bytes; past = m.disk ∷ m.past }

-- a call changes what a block reads to the bytes that it wrote
reads-after_call : (m : Moments) (c : Call) (a : Area) (n : ℕ) → ((after_call m c).disk a n).reads ≡ unwrap_or (bytes_by a n c) (m.disk a n).reads
reads-after_call m (Wrote w) a n =
    let at : Bool = same_area a w.area && (n == w.block) in
    elim (w.number == 0) as (λ z.
    ((if◌then◌else◌ {A = Moments} z (left_disk m w) (new_disk m w)).disk a n).reads
    ≡ unwrap_or (if at then Some w.bytes else None) (m.disk a n).reads) [
      | true ↦ pick_reads at w.bytes [] (m.disk a n)
      | false ↦ pick_reads at w.bytes (held (m.disk w.area w.block)) (m.disk a n)
    ]
reads-after_call m (Flushed area) a n = flush_reads (same_area a area) (m.disk a n)

-- a block reads its last write, or what it read before
pub reads-fold : (m : Moments) (cs : List Call) (a : Area) (n : ℕ) → ((fold after_call m cs).disk a n).reads ≡ unwrap_or (last_bytes a n cs) (m.disk a n).reads
reads-fold m [] a n = refl
reads-fold m (c ∷ cs) a n =
    reads-fold (after_call m c) cs a n
    ∙ ap (unwrap_or (last_bytes a n cs)) (reads-after_call m c a n)
    ∙ one_of_last (last_bytes a n cs) (bytes_by a n c) (m.disk a n).reads

-- a newest write has a place exactly if it has bytes, those of the call there (the first has index k)
abbrev pub AgreesWith : List Call → ℕ → Option ℕ → Option (List ℕ) → Type 0
AgreesWith cs k None None = ⊤
AgreesWith cs k None (Some v) = ⊥
AgreesWith cs k (Some i) None = ⊥
AgreesWith cs k (Some i) (Some v) =
    (w : Write) × (place : ℕ) × (i ≡ k + place) × (place < length cs) × ((d : Call) → get_or cs place d ≡ Wrote w) × (v ≡ w.bytes)

-- this holds of a first call alone
first_agrees : (a : Area) (n k : ℕ) (c : Call) (cs : List Call) → AgreesWith (c ∷ cs) k (if wrote_block a n c then Some k else None) (bytes_by a n c)
first_agrees a n k (Flushed area) cs = tt
first_agrees a n k (Wrote w) cs =
    elim (same_area a w.area && (n == w.block)) as (λ b. AgreesWith (Wrote w ∷ cs) k (if b then Some k else None) (if b then Some w.bytes else None))
    [ true ↦ (w, 0, omega arith, omega arith, (λ d. refl), refl) | false ↦ tt ]

-- it holds with a first call, if it holds of the later ones
later_agrees : (a : Area) (n k : ℕ) (c : Call) (cs : List Call) (o : Option ℕ) (p : Option (List ℕ)) → AgreesWith cs (suc k) o p → AgreesWith (c ∷ cs) k (or_else o (if wrote_block a n c then Some k else None)) (one_of p (bytes_by a n c))
later_agrees a n k c cs None None h = first_agrees a n k c cs
later_agrees a n k c cs None (Some v) h = absurd h
later_agrees a n k c cs (Some i) None h = absurd h
later_agrees a n k c cs (Some i) (Some v) h = let (w, place, e, low, stands, bytes) = h in (w, suc place, omega arith, omega arith, (λ d. stands d), bytes)

pub newest_agrees : (a : Area) (n k : ℕ) (cs : List Call) → AgreesWith cs k (newest_from a n k cs) (last_bytes a n cs)
newest_agrees a n k [] = tt
newest_agrees a n k (c ∷ cs) = later_agrees a n k c cs (newest_from a n (suc k) cs) (last_bytes a n cs) (newest_agrees a n (suc k) cs)

-- a note, forgotten if some call wrote the block
abbrev pub forgotten : Bool → Option (Option ℕ) → Option (Option ℕ)
forgotten true old = option_map (λ _. None) old
forgotten false old = old

forget_twice : (b c : Bool) (old : Option (Option ℕ)) → (if c then option_map (λ _. None) (forgotten b old) else forgotten b old) ≡ forgotten (c || b) old
forget_twice true true None = refl
forget_twice true true (Some o) = refl
forget_twice true false old = refl
forget_twice false true old = refl
forget_twice false false old = refl

pub is_forgotten : (b : Bool) (old : Option (Option ℕ)) → (if b then option_map (λ _. None) old else old) ≡ forgotten b old
is_forgotten true old = refl
is_forgotten false old = refl

some_or_else : (b : Bool) (i : ℕ) (o : Option ℕ) → is_some (or_else (if b then Some i else None) o) ≡ (b || is_some o)
some_or_else true i o = refl
some_or_else false i o = refl

-- one more write is forgotten
pub forgets-push : (cs : List Call) (w : Write) (old mid new : MemIndex) → Forgets cs old mid → NotesOnly mid new w.area w.block (option_map (λ _. None)) → Forgets (cs ++ Wrote w ∷ []) old new
forgets-push cs w old mid new h note a n =
    let here : Bool = same_area a w.area && (n == w.block) in
    let before : Bool = is_some (newest a n cs) in
    let mid_is : noted_in mid a n ≡ forgotten before (noted_in old a n) = h a n ∙ is_forgotten before (noted_in old a n) in
    note a n
    ∙ ap (λ o. if here then option_map (λ _. None) o else o) mid_is
    ∙ forget_twice before here (noted_in old a n)
    ∙ ap (λ b. forgotten b (noted_in old a n)) (sym (some_or_else here (length cs) (newest a n cs)) ∙ ap is_some (sym (newest_from-push a n 0 cs (Wrote w) ∙ ap (λ i. or_else (if here then Some i else None) (newest a n cs)) (zero-add (length cs)))))
    ∙ sym (is_forgotten (is_some (newest a n (cs ++ Wrote w ∷ []))) (noted_in old a n))

-- a flush is forgotten as no write
pub forgets-flush : (cs : List Call) (area : Area) (old mid : MemIndex) → Forgets cs old mid → Forgets (cs ++ Flushed area ∷ []) old mid
forgets-flush cs area old mid h a n = rw newest_from-push (h a n)

-- the note after one more write
renote_twice : (b : Bool) (i : ℕ) (o : Option ℕ) (old : Option (Option ℕ)) → (if b then option_map (λ _. Some i) (renoted o old) else renoted o old) ≡ renoted (or_else (if b then Some i else None) o) old
renote_twice true i None old = refl
renote_twice true i (Some j) None = refl
renote_twice true i (Some j) (Some o) = refl
renote_twice false i o old = refl

-- one more write is noted
pub remembers-push : (cs : List Call) (w : Write) (i : ℕ) (old mid new : MemIndex) → i ≡ length cs → Remembers cs old mid → NotesOnly mid new w.area w.block (option_map (λ _. Some i)) → Remembers (cs ++ Wrote w ∷ []) old new
remembers-push cs w i old mid new e h note a n =
    let here : Bool = same_area a w.area && (n == w.block) in
    note a n
    ∙ ap (λ o. if here then option_map (λ _. Some i) o else o) (h a n)
    ∙ renote_twice here i (newest a n cs) (noted_in old a n)
    ∙ ap (λ o. renoted o (noted_in old a n)) (ap (λ k. or_else (if here then Some k else None) (newest a n cs)) (e ∙ sym (zero-add (length cs))) ∙ sym (newest_from-push a n 0 cs (Wrote w)))

pub remembers-flush : (cs : List Call) (area : Area) (old mid : MemIndex) → Remembers cs old mid → Remembers (cs ++ Flushed area ∷ []) old mid
remembers-flush cs area old mid h a n = rw newest_from-push (h a n)

-- the calls so far with the one that a loop is at
pub take_call : (cs : List Call) (i : ℕ) (item c : Call) → i < length cs → item ≡ get_or cs i item → item ≡ c → take (i + 1) cs ≡ take i cs ++ c ∷ []
take_call cs i item c low at is = take_more cs i item low ∙ ap (λ x. take i cs ++ x ∷ []) (sym at ∙ is)

-- taking the number from one more call, which stands after those without one
module _ (now start : List Call) (i : ℕ) (item c : Call) (low : i < length start) (e : now ≡ map unnumbered (take i start) ++ drop i start) (at : item ≡ get_or now i item) (is : item ≡ c) where
  front : List Call
  front = map unnumbered (take i start)

  front_length : length front ≡ i
  unfolding front
  front_length = length-map (take i start) unnumbered ∙ length-take-le i start (omega arith)

  now_splits : now ≡ front ++ get_or start i item ∷ drop (i + 1) start
  unfolding front
  now_splits = e ∙ ap (λ xs. front ++ xs) (drop_more start i item low)

  is_next : get_or start i item ≡ c
  is_next = sym (get_or_at front (get_or start i item) (drop (i + 1) start) item i front_length) ∙ ap (λ xs. get_or xs i item) (sym now_splits) ∙ sym at ∙ is

  unnumbered_next : map unnumbered (take (i + 1) start) ++ drop (i + 1) start ≡ front ++ unnumbered c ∷ drop (i + 1) start
  unfolding front
  unnumbered_next =
      ap (λ xs. map unnumbered xs ++ drop (i + 1) start) (take_more start i item low ∙ ap (λ x. take i start ++ x ∷ []) is_next)
      ∙ ap (λ xs. xs ++ drop (i + 1) start) (map_push unnumbered (take i start) c)
      ∙ append_assoc front (unnumbered c ∷ []) (drop (i + 1) start)

  pub unnumber_call : set now i (unnumbered c) ≡ map unnumbered (take (i + 1) start) ++ drop (i + 1) start
  unnumber_call =
      ap (λ xs. set xs i (unnumbered c)) now_splits
      ∙ set_at front (get_or start i item) (drop (i + 1) start) (unnumbered c) i front_length
      ∙ sym unnumbered_next

-- the place of a block's newest write, and its bytes
pub record NewestWrite (a : Area) (n i : ℕ) (cs : List Call) : Type 0 where
  pub write : Write
  pub low : i < length cs
  pub stands : (d : Call) → get_or cs i d ≡ Wrote write
  pub bytes : last_bytes a n cs ≡ Some write.bytes

newest_by : (a : Area) (n i : ℕ) (cs : List Call) (o : Option (List ℕ)) → last_bytes a n cs ≡ o → AgreesWith cs 0 (Some i) o → NewestWrite a n i cs
newest_by a n i cs None e h = absurd h
newest_by a n i cs (Some v) e h =
    let (w, place, at, low, stands, bytes) = h in
    let same : place ≡ i = omega arith in
    record { write = w; low = omega arith; stands = (λ d. ap (λ k. get_or cs k d) (sym same) ∙ stands d); bytes = e ∙ ap Some bytes }

-- the newest write of a block that was written
pub newest_write : (a : Area) (n i : ℕ) (cs : List Call) → newest a n cs ≡ Some i → NewestWrite a n i cs
newest_write a n i cs e = newest_by a n i cs (last_bytes a n cs) refl (subst (λ o. AgreesWith cs 0 o (last_bytes a n cs)) e (newest_agrees a n 0 cs))

no_bytes : (cs : List Call) (o : Option (List ℕ)) → AgreesWith cs 0 None o → o ≡ None
no_bytes cs None h = refl
no_bytes cs (Some v) h = absurd h

-- an unwritten block has no bytes of its own
pub never_written : (a : Area) (n : ℕ) (cs : List Call) → newest a n cs ≡ None → last_bytes a n cs ≡ None
never_written a n cs e = no_bytes cs (last_bytes a n cs) (subst (λ o. AgreesWith cs 0 o (last_bytes a n cs)) e (newest_agrees a n 0 cs))

-- what a block reads, by its last write
pub reads_last : (size : ℕ) (cs : List Call) (a : Area) (n : ℕ) → ((after_calls size cs).disk a n).reads ≡ unwrap_or (last_bytes a n cs) (replicate size 0)
reads_last size cs a n = reads-fold (blank size) cs a n

pub reads_written : (size : ℕ) (cs : List Call) (a : Area) (n : ℕ) (v : List ℕ) → last_bytes a n cs ≡ Some v → ((after_calls size cs).disk a n).reads ≡ v
reads_written size cs a n v e = reads_last size cs a n ∙ ap (λ (o : Option (List ℕ)). unwrap_or o (replicate size 0)) e

pub reads_blank : (size : ℕ) (cs : List Call) (a : Area) (n : ℕ) → last_bytes a n cs ≡ None → ((after_calls size cs).disk a n).reads ≡ replicate size 0
reads_blank size cs a n e = reads_last size cs a n ∙ ap (λ (o : Option (List ℕ)). unwrap_or o (replicate size 0)) e

-- each write at any place fills a block
pub fills_at : (size : ℕ) (cs : List Call) (i : ℕ) (w : Write) → AllByRecursion (FillsBlock size) cs → i < length cs → ((d : Call) → get_or cs i d ≡ Wrote w) → length w.bytes ≡ size
fills_at size cs i w all low stands = subst (FillsBlock size) (stands (Wrote w)) (All-from_recursion (FillsBlock size) cs all i (Wrote w) low)

-- the index of a device in memory names the newest write
pub indexed_write : (d : Inside) → IsIndexed d → (a : Area) (n i : ℕ) → newest_in d.index a n ≡ Some i → NewestWrite a n i d.calls.items
indexed_write d inv a n i e = newest_write a n i d.calls.items (sym (inv.indexed a n) ∙ e)

-- the call read there is that write
pub same_write : (a : Area) (n i : ℕ) (cs : List Call) (found : NewestWrite a n i cs) (item : Call) (w : Write) → item ≡ get_or cs i item → item ≡ Wrote w → found.write ≡ w
same_write a n i cs found item w at is = let e : Wrote found.write ≡ Wrote w = sym (found.stands item) ∙ sym at ∙ is in cc

-- the counters after one more call
pub writes_of-push : (cs : List Call) (c : Call) → writes_of (cs ++ c ∷ []) ≡ counted (writes_of cs) c
writes_of-push cs c = fold_push counted 0 cs c

-- the count in `flushed_after` is that of the writes
pub counts_agree : (a : Area) (cs : List Call) (p : ℕ × ℕ) → (fold (flushed_after a) p cs).0 ≡ fold counted p.0 cs
counts_agree a [] p = refl
counts_agree a (Wrote w ∷ cs) p = counts_agree a cs (counted p.0 (Wrote w), p.1)
counts_agree a (Flushed area ∷ cs) p = counts_agree a cs (p.0, if same_area a area then p.0 else p.1)

pub flushed_number-write : (a : Area) (cs : List Call) (w : Write) → flushed_number a (cs ++ Wrote w ∷ []) ≡ flushed_number a cs
flushed_number-write a cs w = ap (λ p. p.1) (fold_push (flushed_after a) (0, 0) cs (Wrote w))

pub flushed_number-flush : (a area : Area) (cs : List Call) → flushed_number a (cs ++ Flushed area ∷ []) ≡ (if same_area a area then writes_of cs else flushed_number a cs)
flushed_number-flush a area cs =
    ap (λ p. p.1) (fold_push (flushed_after a) (0, 0) cs (Flushed area))
    ∙ ap (λ n. if same_area a area then n else flushed_number a cs) (counts_agree a cs (0, 0))

-- one more call fills its block
pub sizes-push : (size : ℕ) (cs : List Call) (c : Call) → AllByRecursion (FillsBlock size) cs → FillsBlock size c → AllByRecursion (FillsBlock size) (cs ++ c ∷ [])
sizes-push size [] c all fills = (fills, tt)
sizes-push size (x ∷ cs) c all fills = (all.0, sizes-push size cs c all.1 fills)

-- a write left by a crash is not counted; each other one is
pub counted_left : (n : ℕ) (w : Write) → w.number ≡ 0 → counted n (Wrote w) ≡ n
counted_left n w e = ap (λ k. if k == 0 then n else n + 1) e

pub not_zero : (k : ℕ) → (suc k == 0) ≡ false
not_zero k = search rules

pub counted_new : (n k : ℕ) (w : Write) → w.number ≡ suc k → counted n (Wrote w) ≡ suc n
counted_new n k w e = ap (λ i. if i == 0 then n else n + 1) e ∙ ap (λ b. if b then n else n + 1) (not_zero k) ∙ add-one n

-- one more call keeps the numbers in order
numbered_from-write : (k : ℕ) (cs : List Call) (w : Write) → NumberedFrom k cs → w.number ≡ suc (fold counted k cs) → NumberedFrom k (cs ++ Wrote w ∷ [])
numbered_from-write k [] w h e = (e, tt)
numbered_from-write k (Wrote x ∷ cs) w h e = (h.0, numbered_from-write (suc k) cs w h.1 (e ∙ ap (λ n. suc (fold counted n cs)) (counted_new k k x h.0)))
numbered_from-write k (Flushed a ∷ cs) w h e = numbered_from-write k cs w h e

numbered_from-flush : (k : ℕ) (cs : List Call) (a : Area) → NumberedFrom k cs → NumberedFrom k (cs ++ Flushed a ∷ [])
numbered_from-flush k [] a h = tt
numbered_from-flush k (Wrote x ∷ cs) a h = (h.0, numbered_from-flush (suc k) cs a h.1)
numbered_from-flush k (Flushed b ∷ cs) a h = numbered_from-flush k cs a h

pub numbered-write : (cs : List Call) (w : Write) → IsNumbered cs → w.number ≡ suc (writes_of cs) → IsNumbered (cs ++ Wrote w ∷ [])
numbered-write [] w h e = inr (e, tt)
numbered-write (Wrote x ∷ cs) w h e = ⊎_elim
    (λ left. inl (left.0, numbered-write cs w left.1 (e ∙ ap (λ n. suc (fold counted n cs)) (counted_left 0 x left.0))))
    (λ new. inr (numbered_from-write 0 (Wrote x ∷ cs) w new e)) h
numbered-write (Flushed a ∷ cs) w h e = numbered_from-write 0 cs w h e

pub numbered-flush : (cs : List Call) (a : Area) → IsNumbered cs → IsNumbered (cs ++ Flushed a ∷ [])
numbered-flush [] a h = tt
numbered-flush (Wrote x ∷ cs) a h = ⊎_elim
    (λ left. inl (left.0, numbered-flush cs a left.1))
    (λ new. inr (numbered_from-flush 0 (Wrote x ∷ cs) a new)) h
numbered-flush (Flushed b ∷ cs) a h = numbered_from-flush 0 cs a h

-- a flush leaves the index, and moves its area's counter
pub indexes-flush : (size : ℕ) (index : MemIndex) (calls : List Call) (w l h : ℕ) (area : Area) → Indexes size index calls w l h →
    Indexes size index (calls ++ Flushed area ∷ []) w (if same_area Log area then w else l) (if same_area Home area then w else h)
indexes-flush size index calls w l h area inv = record {
  sizes = sizes-push size calls (Flushed area) inv.sizes tt;
  indexed = (λ a n. inv.indexed a n ∙ sym (newest_from-push a n 0 calls (Flushed area)));
  noted = (λ a n i e. inv.noted a n i (sym (newest_from-push a n 0 calls (Flushed area)) ∙ e));
  counted_writes = inv.counted_writes ∙ sym (writes_of-push calls (Flushed area));
  log_count = flushed_count (same_area Log area) w l calls (flushed_number Log calls) inv.counted_writes inv.log_count ∙ sym (flushed_number-flush Log area calls);
  home_count = flushed_count (same_area Home area) w h calls (flushed_number Home calls) inv.counted_writes inv.home_count ∙ sym (flushed_number-flush Home area calls);
  numbered = numbered-flush calls area inv.numbered;
}
  where
    flushed_count : (b : Bool) (w l : ℕ) (calls : List Call) (m : ℕ) → w ≡ writes_of calls → l ≡ m → (if b then w else l) ≡ (if b then writes_of calls else m)
    flushed_count true w l calls m e f = e
    flushed_count false w l calls m e f = f

-- the note after one more write
hit_noted : (b : Bool) (i : ℕ) (old : Option (Option ℕ)) → unwrap_or (if b then Some (Some i) else old) None ≡ or_else (if b then Some i else None) (unwrap_or old None)
hit_noted true i old = refl
hit_noted false i old = refl

hit_is_some : (b : Bool) (i j : ℕ) (o : Option ℕ) (old : Option (Option ℕ)) → ((k : ℕ) → o ≡ Some k → IsSome old) → or_else (if b then Some i else None) o ≡ Some j → IsSome (if b then Some (Some i) else old)
hit_is_some true i j o old h e = refl
hit_is_some false i j o old h e = h j e

-- one more write is noted at its place
pub indexes-write : (size : ℕ) (index new : MemIndex) (calls : List Call) (w l h : ℕ) (write : Write) → Indexes size index calls w l h →
    length write.bytes ≡ size → write.number ≡ w + 1 → NotesOnly index new write.area write.block (λ _. Some (Some (length calls))) →
    Indexes size new (calls ++ Wrote write ∷ []) (w + 1) l h
indexes-write size index new calls w l h write inv fills number notes = record {
  sizes = sizes-push size calls (Wrote write) inv.sizes fills;
  indexed = (λ a n.
      let here : Bool = same_area a write.area && (n == write.block) in
      ap (λ (o : Option (Option ℕ)). unwrap_or o None) (notes a n) ∙ hit_noted here (length calls) (noted_in index a n)
      ∙ ap (or_else (if here then Some (length calls) else None)) (inv.indexed a n) ∙ sym (newest_push a n));
  noted = (λ a n i e.
      let here : Bool = same_area a write.area && (n == write.block) in
      subst IsSome (sym (notes a n)) (hit_is_some here (length calls) i (newest a n calls) (noted_in index a n) (inv.noted a n) (sym (newest_push a n) ∙ e)));
  counted_writes = ap (λ k. k + 1) inv.counted_writes ∙ sym (writes_of-push calls (Wrote write) ∙ counted_new (writes_of calls) w write (number ∙ add-one w) ∙ sym (add-one (writes_of calls)));
  log_count = inv.log_count ∙ sym (flushed_number-write Log calls write);
  home_count = inv.home_count ∙ sym (flushed_number-write Home calls write);
  numbered = numbered-write calls write inv.numbered (number ∙ add-one w ∙ ap suc inv.counted_writes);
}
  where
    newest_push : (a : Area) (n : ℕ) → newest a n (calls ++ Wrote write ∷ []) ≡ or_else (if same_area a write.area && (n == write.block) then Some (length calls) else None) (newest a n calls)
    newest_push a n = newest_from-push a n 0 calls (Wrote write) ∙ ap (λ k. or_else (if same_area a write.area && (n == write.block) then Some k else None) (newest a n calls)) (zero-add (length calls))
