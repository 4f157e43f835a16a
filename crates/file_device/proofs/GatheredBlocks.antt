-- Lemmas: what the writes of gathered blocks make of the disk.
use Rattle.std.proofs.Common.{◌≡◌, ℕ, zero, suc, ◌<◌, ◌≤◌, ◌*◌, ◌/◌, ◌+◌, Bool, true, false, List, [], ◌∷◌, ◌++◌, length, take, drop, ap, refl, sym, subst, ◌∙◌, inl, inr, ⊎_elim, arith, add-one, length-drop}
use Rattle.std.specs.Prelude.{◌⊎◌, ◌&&◌, ◌==◌, if◌then◌else◌, ⊤}
use Rattle.std.proofs.lemmas.Bool.{ne_eqb}
use Rattle.std.proofs.lemmas.Bool.Decides.{eqb_tells}
use Rattle.std.proofs.lemmas.List.{drop-append-le, take-append-le, take_all}
use Rattle.std.proofs.Math.Seq.{drop-append_seam}
use Rattle.std.proofs.Math.Nat.{add-mul, mul-div_cancel}
use Rattle.std.proofs.lemmas.Nat.{mul-le}
use Rattle.journal_model.specs.declared.number.Area.{Area}
use Rattle.journal_model.specs.declared.number.Area.TheVariants.{Log, Home}
use Rattle.journal_model.specs.Disk.{Cell, Disk, IsOneOf, held, same_area, written}
use Rattle.file_device.specs.Blocks.{block_of, writes_of}
use Rattle.file_device.specs.Calls.{FileCall, Wrote}
use Rattle.file_device.specs.Files.{AgreesEach, FileContents, FileMoments, after_call, after_calls}
use Rattle.file_device.specs.Gathered.{HoldsSame, IsApart, IsFreeOf, IsPushed, due_of}
use Rattle.file_device.specs.declared.gathered.Gathered.{Gathered}

-- the place of block n + k gives its number
pub place-of : (n k size : ℕ) → 0 < size → (n * size + k * size) / size ≡ n + k
place-of n k size some = ap (λ (p : ℕ). p / size) (sym (add-mul n k size)) ∙ mul-div_cancel (n + k) some

-- a number up to another is equal or below
pub either : (a b : ℕ) → a ≤ b → (a ≡ b) ⊎ (a < b)
either a b le = grind arith

-- a block within the first bytes is the same block of all
pub block-front : (size : ℕ) (front rest : List ℕ) (k : ℕ) → k * size + size ≤ length front → block_of size (front ++ rest) k ≡ block_of size front k
block-front size front rest k within =
    ap (take size) (drop-append-le (k * size) front rest (omega arith))
    ∙ take-append-le size (drop (k * size) front) rest (omega (arith, length-drop (k * size) front))

-- block k of `count` blocks lies within them
pub block-within : (k count size : ℕ) → k < count → k * size + size ≤ count * size
block-within k count size below =
    let one_more : (k + 1) * size ≡ k * size + 1 * size = add-mul k 1 size in
    omega (arith, one_more, mul-le (k + 1) size count size (omega arith) (omega arith))

-- if all reads agreed, the earlier ones did
pub agreed-before : (contents : FileContents) (size : ℕ) (more calls : List FileCall) → AgreesEach contents size (more ++ calls) → AgreesEach contents size calls
agreed-before contents size [] calls agrees = agrees
agreed-before contents size (c ∷ more) calls agrees = agreed-before contents size more calls agrees.1

-- writes keep the premise
pub writes-agree : (contents : FileContents) (area : Area) (at size : ℕ) (bytes : List ℕ) (count : ℕ) (calls : List FileCall) → AgreesEach contents size calls →
    AgreesEach contents size (writes_of area at size bytes count ++ calls)
writes-agree contents area at size bytes zero calls agrees = agrees
writes-agree contents area at size bytes (suc k) calls agrees = (tt, writes-agree contents area at size bytes k calls agrees)

-- the same calls over equal disks give equal disks
pub over-same : (contents : FileContents) (size : ℕ) (more xs ys : List FileCall) → after_calls contents size xs ≡ after_calls contents size ys →
    after_calls contents size (more ++ xs) ≡ after_calls contents size (more ++ ys)
over-same contents size [] xs ys same = same
over-same contents size (c ∷ more) xs ys same = ap (λ (m : FileMoments). after_call contents size m c) (over-same contents size more xs ys same)

and_false : (b : Bool) → (b && false) ≡ false
and_false true = refl
and_false false = refl

-- a number outside a range is not in it
off : (n first k : ℕ) → (n < first) ⊎ (first + suc k ≤ n) → n ≡ first + k → ⊥
off n first k (inl low) is = omega arith
off n first k (inr high) is = omega arith

-- a block apart is not the last one
misses : (a area : Area) (first k size n : ℕ) → 0 < size → (same_area a area ≡ false) ⊎ ((n < first) ⊎ (first + suc k ≤ n)) →
    (same_area a area && (n == (first * size + k * size) / size)) ≡ false
misses a area first k size n some (inl other) = ap (λ (b : Bool). b && (n == (first * size + k * size) / size)) other
misses a area first k size n some (inr away) =
    ap (λ (b : Bool). same_area a area && b) (ap (λ (p : ℕ). n == p) (place-of first k size some) ∙ ne_eqb n (first + k) (off n first k away))
    ∙ and_false (same_area a area)

-- and apart from those before it too
fewer : (n first k : ℕ) → (n < first) ⊎ (first + suc k ≤ n) → (n < first) ⊎ (first + k ≤ n)
fewer n first k (inl low) = inl low
fewer n first k (inr high) = inr (omega arith)

fewer_blocks : (b : Bool) (n first k : ℕ) → (b ≡ false) ⊎ ((n < first) ⊎ (first + suc k ≤ n)) → (b ≡ false) ⊎ ((n < first) ⊎ (first + k ≤ n))
fewer_blocks b n first k (inl other) = inl other
fewer_blocks b n first k (inr away) = inr (fewer n first k away)

-- a block outside the written ones is unchanged
pub apart-cell : (contents : FileContents) (size : ℕ) (calls : List FileCall) (area : Area) (first : ℕ) (bytes : List ℕ) (count : ℕ) → 0 < size → (a : Area) (n : ℕ) →
    (same_area a area ≡ false) ⊎ ((n < first) ⊎ (first + count ≤ n)) →
    (after_calls contents size (writes_of area (first * size) size bytes count ++ calls)).disk a n ≡ (after_calls contents size calls).disk a n
apart-cell contents size calls area first bytes zero some a n apart = refl
apart-cell contents size calls area first bytes (suc k) some a n apart =
    let before : FileMoments = after_calls contents size (writes_of area (first * size) size bytes k ++ calls) in
    let cell : Cell = record { reads = block_of size bytes k; others = held (before.disk area ((first * size + k * size) / size)) } in
    ap (λ (b : Bool). if b then cell else before.disk a n) (misses a area first k size n some apart)
    ∙ apart-cell contents size calls area first bytes k some a n (fewer_blocks (same_area a area) n first k apart)

-- the last written block is hit
hits : (a area : Area) (first k size n : ℕ) → 0 < size → same_area a area ≡ true → first + k ≡ n → (same_area a area && (n == (first * size + k * size) / size)) ≡ true
hits a area first k size n some whose place =
    ap (λ (b : Bool). b && (n == (first * size + k * size) / size)) whose
    ∙ ap (λ (p : ℕ). n == p) (place-of first k size some)
    ∙ ⊎_elim (λ is. is.0) (λ no. absurd (no.1 (sym place))) (eqb_tells n (first + k))

-- an earlier one is not
passes : (a area : Area) (first m k size n : ℕ) → 0 < size → k < m → first + k ≡ n → (same_area a area && (n == (first * size + m * size) / size)) ≡ false
passes a area first m k size n some below place =
    ap (λ (b : Bool). same_area a area && b) (ap (λ (p : ℕ). n == p) (place-of first m size some) ∙ ne_eqb n (first + m) (λ is. omega arith))
    ∙ and_false (same_area a area)

-- each written block reads as written
pub among-reads : (contents : FileContents) (size : ℕ) (calls : List FileCall) (area : Area) (first : ℕ) (bytes : List ℕ) (count : ℕ) → 0 < size → (a : Area) (n k : ℕ) →
    same_area a area ≡ true → k < count → first + k ≡ n →
    ((after_calls contents size (writes_of area (first * size) size bytes count ++ calls)).disk a n).reads ≡ block_of size bytes k
among-reads contents size calls area first bytes zero some a n k whose below place = absurd (omega arith)
among-reads contents size calls area first bytes (suc m) some a n k whose below place =
    let before : FileMoments = after_calls contents size (writes_of area (first * size) size bytes m ++ calls) in
    let cell : Cell = record { reads = block_of size bytes m; others = held (before.disk area ((first * size + m * size) / size)) } in
    ⊎_elim
    (λ (last : k ≡ m).
    ap (λ (b : Bool). (if b then cell else before.disk a n).reads) (hits a area first m size n some whose (ap (λ (j : ℕ). first + j) (sym last) ∙ place))
    ∙ ap (block_of size bytes) (sym last))
    (λ (less : k < m).
    ap (λ (b : Bool). (if b then cell else before.disk a n).reads) (passes a area first m k size n some less place)
    ∙ among-reads contents size calls area first bytes m some a n k whose less place)
    (either k m (omega arith))

-- equal blocks are written by equal calls
pub writes-same : (area : Area) (at size : ℕ) (one other : List ℕ) (count : ℕ) → ((k : ℕ) → k < count → block_of size one k ≡ block_of size other k) →
    writes_of area at size one count ≡ writes_of area at size other count
writes-same area at size one other zero same = refl
writes-same area at size one other (suc k) same =
    ap (λ (b : List ℕ). Wrote area (at + k * size) b ∷ writes_of area at size one k) (same k (omega arith))
    ∙ ap (λ (cs : List FileCall). Wrote area (at + k * size) (block_of size other k) ∷ cs) (writes-same area at size one other k (λ j below. same j (omega arith)))

-- the bytes of the gathered blocks are the due writes
pub handed-due : (size : ℕ) (g : Gathered) (bytes : List ℕ) → 0 < size → length g.bytes.items ≡ g.count * size → bytes ≡ g.bytes.items →
    writes_of g.area (g.first * size) size bytes (length bytes / size) ≡ due_of size g
handed-due size g bytes some whole are =
    ap (λ (b : List ℕ). writes_of g.area (g.first * size) size b (length b / size)) are
    ∙ ap (writes_of g.area (g.first * size) size g.bytes.items) (ap (λ (p : ℕ). p / size) whole ∙ mul-div_cancel g.count some)

-- true is not false
abbrev truth : Bool → Type 0
truth true = ⊤
truth false = ⊥

apart-truth : false ≡ true → ⊥
apart-truth is = subst truth (sym is) tt

pub same-is : (a b : Area) → same_area a b ≡ true → a ≡ b
same-is Log Log is = refl
same-is Home Home is = refl
same-is Log Home is = absurd (apart-truth is)
same-is Home Log is = absurd (apart-truth is)

-- the last of some blocks
last-block : (size : ℕ) (old bytes : List ℕ) (count : ℕ) → length bytes ≡ size → length old ≡ count * size → block_of size (old ++ bytes) count ≡ bytes
last-block size old bytes count long whole =
    ap (λ (p : ℕ). take size (drop p (old ++ bytes))) (sym whole)
    ∙ ap (take size) (drop-append_seam old bytes)
    ∙ take_all size bytes (omega (arith, long))

-- one more gathered block is one more due write
pub pushed-due : (size : ℕ) (old new : Gathered) (area : Area) (n : ℕ) (bytes : List ℕ) → length bytes ≡ size → length old.bytes.items ≡ old.count * size → IsPushed old new area n bytes →
    due_of size new ≡ Wrote area (n * size) bytes ∷ due_of size old
pushed-due size old new area n bytes long whole pushed =
    let at : ℕ = old.first * size in
    let all : List ℕ = old.bytes.items ++ bytes in
    let place : at + old.count * size ≡ n * size = sym (add-mul old.first old.count size) ∙ ap (λ (p : ℕ). p * size) (sym pushed.behind) in
    let kept : (k : ℕ) → k < old.count → block_of size all k ≡ block_of size old.bytes.items k = λ k below.
    block-front size old.bytes.items bytes k (rw whole (block-within k old.count size below)) in
    ap (due_of size) pushed.rest
    ∙ ap (λ (b : List ℕ). writes_of old.area at size b (old.count + 1)) pushed.items
    ∙ ap (writes_of old.area at size all) (add-one old.count)
    ∙ ap (λ (p : ℕ). Wrote old.area p (block_of size all old.count) ∷ writes_of old.area at size all old.count) place
    ∙ ap (λ (b : List ℕ). Wrote old.area (n * size) b ∷ writes_of old.area at size all old.count) (last-block size old.bytes.items bytes old.count long whole)
    ∙ ap (λ (cs : List FileCall). Wrote old.area (n * size) bytes ∷ cs) (writes-same old.area at size all old.bytes.items old.count kept)
    ∙ ap (λ (a : Area). Wrote a (n * size) bytes ∷ due_of size old) (sym (same-is area old.area pushed.whose))

-- the same blocks give the same due writes
pub same-due : (size : ℕ) (old new : Gathered) → HoldsSame old new → due_of size new ≡ due_of size old
same-due size old new same = ap (due_of size) same.rest ∙ ap (λ (b : List ℕ). writes_of old.area (old.first * size) size b old.count) same.items

-- an empty range holds no number
away : (n first count : ℕ) → count ≡ 0 → (n < first) ⊎ (first + count ≤ n)
away n first count none = grind arith

-- no block of an area that is free of gathered blocks is gathered
pub free-apart : (g : Gathered) (area : Area) (n : ℕ) → IsFreeOf g area → IsApart g area n
free-apart g area n (inl none) = inr (away n g.first g.count none)
free-apart g area n (inr other) = inl other

-- one of two cells
pick : (b : Bool) (x y : Cell) (u : List ℕ) → (b ≡ true → IsOneOf (held x) u) → IsOneOf (held y) u → IsOneOf (held (if b then x else y)) u
pick true x y u here there = here refl
pick false x y u here there = there

-- numbers that compare equal are equal
eqb_is : (n m : ℕ) → (n == m) ≡ true → n ≡ m
eqb_is n m is = ⊎_elim (λ yes. yes.1) (λ no. absurd (apart-truth (sym no.0 ∙ is))) (eqb_tells n m)

-- a value that a crash might leave before a write may be left after it
keeps-held : (disk : Disk) (area : Area) (m : ℕ) (v : List ℕ) (a : Area) (n : ℕ) (u : List ℕ) → IsOneOf (held (disk a n)) u → IsOneOf (held (written disk area m v a n)) u
keeps-held disk Log m v Home n u one = one
keeps-held disk Home m v Log n u one = one
keeps-held disk Log m v Log n u one =
    pick (n == m) (record { reads = v; others = held (disk Log m) }) (disk Log n) u
    (λ is. inr (subst (λ (k : ℕ). IsOneOf (held (disk Log k)) u) (eqb_is n m is) one)) one
keeps-held disk Home m v Home n u one =
    pick (n == m) (record { reads = v; others = held (disk Home m) }) (disk Home n) u
    (λ is. inr (subst (λ (k : ℕ). IsOneOf (held (disk Home k)) u) (eqb_is n m is) one)) one

pub writes-keep : (contents : FileContents) (size : ℕ) (calls : List FileCall) (area : Area) (at : ℕ) (bytes : List ℕ) (count : ℕ) (a : Area) (n : ℕ) (u : List ℕ) →
    IsOneOf (held ((after_calls contents size calls).disk a n)) u → IsOneOf (held ((after_calls contents size (writes_of area at size bytes count ++ calls)).disk a n)) u
writes-keep contents size calls area at bytes zero a n u one = one
writes-keep contents size calls area at bytes (suc k) a n u one =
    keeps-held (after_calls contents size (writes_of area at size bytes k ++ calls)).disk area ((at + k * size) / size) (block_of size bytes k) a n u
    (writes-keep contents size calls area at bytes k a n u one)
