-- Lemmas: blocks that were read ahead are what their area reads.
use Rattle.std.proofs.Common.{◌≡◌, ℕ, zero, suc, ◌<◌, ◌≤◌, ◌*◌, ◌/◌, ◌+◌, ◌-◌, List, [], ◌∷◌, ◌++◌, length, ap, refl, sym, subst, ◌∙◌, inl, inr, arith}
use Rattle.std.specs.Prelude.{◌⊎◌, ◌&&◌, ◌==◌, if◌then◌else◌, Bool, true, false, IsTrue, min, Result, Ok, Err, OnOk, OnErr}
use Rattle.block_device.specs.State.{DeviceState, Stays, blocks_in}
use Rattle.std.specs.List.{AllByRecursion}
use Rattle.std.proofs.lemmas.List.{append_assoc, length-append}
use Rattle.std.proofs.Math.Nat.{add-mul, div-mul-le_self, min-le_right, mul-div_cancel}
use Rattle.std.proofs.lemmas.Nat.{mul-le}
use Rattle.journal_model.specs.declared.number.Area.{Area}
use Rattle.journal_model.specs.declared.number.Area.TheVariants.{Log, Home}
use Rattle.file_device.specs.declared.ahead.Ahead.{Ahead}
use Rattle.journal_model.specs.Disk.{Cell, held, same_area}
use Rattle.file_device.specs.Ahead.{HasFailedRead, HasRead, IsForgotten, IsReading, KeepsAhead}
use Rattle.file_device.specs.Blocks.{block_of, reads_of, writes_of}
use Rattle.file_device.specs.Gathered.{HoldsSame, IsFreeOf, IsPushed, KeepsGathered, due_of}
use Rattle.file_device.specs.declared.gathered.Gathered.{Gathered}
use Rattle.file_device.proofs.GatheredBlocks.{agreed-before, apart-cell, block-within, either, free-apart, over-same, place-of, pushed-due, same-due, writes-agree}
use Rattle.file_device.specs.Calls.{FileCall, Measured, Read, ReadFailed, Wrote, WriteFailed, GatheredFailed, Synced, SyncFailed}
use Rattle.file_device.specs.Files.{AgreesEach, FileContents, FileMoments, FileState, HandsBlock, HasAgreed, KeepsBlocks, after_call, after_calls, asked_calls, bytes_in, counted, file_shape, file_state, files_disk}

-- a read leaves the disk
reading-leaves : (contents : FileContents) (size : ℕ) (m : FileMoments) (c : FileCall) → IsReading c → after_call contents size m c ≡ m
reading-leaves contents size m (Measured area length) is = absurd is
reading-leaves contents size m (Read area at bytes) is = refl
reading-leaves contents size m (ReadFailed area at) is = refl
reading-leaves contents size m (Wrote area at bytes) is = absurd is
reading-leaves contents size m (WriteFailed area at bytes) is = absurd is
reading-leaves contents size m (GatheredFailed area at bytes) is = absurd is
reading-leaves contents size m (Synced area) is = absurd is
reading-leaves contents size m (SyncFailed area) is = absurd is

-- and so do several
pub readings-leave : (contents : FileContents) (size : ℕ) (more calls : List FileCall) → AllByRecursion IsReading more →
    after_calls contents size (more ++ calls) ≡ after_calls contents size calls
readings-leave contents size [] calls all = refl
readings-leave contents size (c ∷ more) calls all =
    reading-leaves contents size (after_calls contents size (more ++ calls)) c all.0 ∙ readings-leave contents size more calls all.1

-- reading ahead only reads
pub reads-ask : (area : Area) (at size : ℕ) (bytes : List ℕ) (count : ℕ) → AllByRecursion IsReading (reads_of area at size bytes count)
reads-ask area at size bytes zero = tt
reads-ask area at size bytes (suc k) = (tt, reads-ask area at size bytes k)

-- the last block that was read ahead, or one before it
last-or-before : (contents : FileContents) (size : ℕ) (calls : List FileCall) (area : Area) (n : ℕ) (bytes : List ℕ) (m : ℕ) → 0 < size → (k : ℕ) →
    AgreesEach contents size (reads_of area (n * size) size bytes (suc m) ++ calls) →
    (k < m → block_of size bytes k ≡ ((after_calls contents size calls).disk area (n + k)).reads) →
    (k ≡ m) ⊎ (k < m) → block_of size bytes k ≡ ((after_calls contents size calls).disk area (n + k)).reads
last-or-before contents size calls area n bytes m some k agrees before (inl is) =
    let here : FileMoments = after_calls contents size (reads_of area (n * size) size bytes m ++ calls) in
    let same : here ≡ after_calls contents size calls = readings-leave contents size (reads_of area (n * size) size bytes m) calls (reads-ask area (n * size) size bytes m) in
    ap (block_of size bytes) is ∙ agrees.0
    ∙ ap (λ (p : ℕ). (here.disk area p).reads) (place-of n m size some ∙ ap (λ (j : ℕ). n + j) (sym is))
    ∙ ap (λ (x : FileMoments). (x.disk area (n + k)).reads) same
last-or-before contents size calls area n bytes m some k agrees before (inr less) = before less

-- if all reads agreed, each block that was read ahead is what its area reads
pub ahead-reads : (contents : FileContents) (size : ℕ) (calls : List FileCall) (area : Area) (n : ℕ) (bytes : List ℕ) (count : ℕ) → 0 < size → (k : ℕ) → k < count →
    AgreesEach contents size (reads_of area (n * size) size bytes count ++ calls) → block_of size bytes k ≡ ((after_calls contents size calls).disk area (n + k)).reads
ahead-reads contents size calls area n bytes zero some k none agrees = absurd (omega arith)
ahead-reads contents size calls area n bytes (suc m) some k below agrees =
    last-or-before contents size calls area n bytes m some k agrees (λ less. ahead-reads contents size calls area n bytes m some k less agrees.1) (either k m (omega arith))

-- kept blocks stay right after reads, whatever is gathered
pub kept-under : (contents : FileContents) (size : ℕ) (g : Gathered) (more calls : List FileCall) (a : Ahead) → AllByRecursion IsReading more → KeepsAhead contents size (due_of size g ++ calls) a →
    KeepsAhead contents size (due_of size g ++ (more ++ calls)) a
kept-under contents size g more calls a all keeps =
    let due : List FileCall = due_of size g in
    record {
      fits = keeps.fits;
      reads = λ k below agrees.
          keeps.reads k below (writes-agree contents g.area (g.first * size) size g.bytes.items g.count calls (agreed-before contents size more calls (agreed-before contents size due (more ++ calls) agrees)))
          ∙ ap (λ (x : FileMoments). (x.disk a.area (a.first + k)).reads) (sym (over-same contents size due (more ++ calls) calls (readings-leave contents size more calls all)));
    }

-- and also over gathered blocks of the other area
pub kept-over : (contents : FileContents) (size : ℕ) (g : Gathered) (calls : List FileCall) (a : Ahead) → 0 < size → IsFreeOf g a.area → KeepsAhead contents size calls a →
    KeepsAhead contents size (due_of size g ++ calls) a
kept-over contents size g calls a some free keeps = record {
  fits = keeps.fits;
  reads = λ k below agrees.
      keeps.reads k below (agreed-before contents size (due_of size g) calls agrees)
      ∙ ap (λ (c : Cell). c.reads) (sym (apart-cell contents size calls g.area g.first g.bytes.items g.count some a.area (a.first + k) (free-apart g a.area (a.first + k) free)));
}

-- a write to the other area, and a failed write of gathered blocks, keep them right
kept-other : (contents : FileContents) (size : ℕ) (calls : List FileCall) (a : Ahead) (area : Area) (at : ℕ) (bytes : List ℕ) → same_area a.area area ≡ false → KeepsAhead contents size calls a →
    KeepsAhead contents size (Wrote area at bytes ∷ calls) a
kept-other contents size calls a area at bytes other keeps =
    let before : FileMoments = after_calls contents size calls in
    let cell : Cell = record { reads = bytes; others = held (before.disk area (at / size)) } in
    record {
      fits = keeps.fits;
      reads = λ k below agrees.
          keeps.reads k below agrees.1
          ∙ ap (λ (b : Bool). (if b && (a.first + k == at / size) then cell else before.disk a.area (a.first + k)).reads) (sym other);
    }

pub kept-failed : (contents : FileContents) (size : ℕ) (g : Gathered) (calls : List FileCall) (a : Ahead) (area : Area) (at : ℕ) (bytes : List ℕ) → KeepsAhead contents size (due_of size g ++ calls) a →
    KeepsAhead contents size (due_of size g ++ (GatheredFailed area at bytes ∷ calls)) a
kept-failed contents size g calls a area at bytes keeps =
    let due : List FileCall = due_of size g in
    let failed : List FileCall = GatheredFailed area at bytes ∷ calls in
    record {
      fits = keeps.fits;
      reads = λ k below agrees.
          keeps.reads k below (writes-agree contents g.area (g.first * size) size g.bytes.items g.count calls (agreed-before contents size due failed agrees).1)
          ∙ ap (λ (x : FileMoments). (x.disk a.area (a.first + k)).reads) (sym (over-same contents size due failed calls refl));
    }

-- if none is kept, all kept blocks are right
pub kept-none : (contents : FileContents) (size : ℕ) (calls : List FileCall) (a : Ahead) → a.count ≡ 0 → KeepsAhead contents size calls a
kept-none contents size calls a none = record { fits = rw none (omega arith); reads = λ k below agrees. absurd (omega arith) }

-- kept blocks are right after a write, which drops those of its area
wrote-where : (contents : FileContents) (size : ℕ) (calls : List FileCall) (area : Area) (at : ℕ) (bytes : List ℕ) (old new : Ahead) (same : Bool) → same_area old.area area ≡ same →
    new ≡ (if same then record old { count = 0 } else old) → KeepsAhead contents size calls old → KeepsAhead contents size (Wrote area at bytes ∷ calls) new
wrote-where contents size calls area at bytes old new true whose is keeps =
    subst (KeepsAhead contents size (Wrote area at bytes ∷ calls)) (sym is) (kept-none contents size (Wrote area at bytes ∷ calls) (record old { count = 0 }) refl)
wrote-where contents size calls area at bytes old new false whose is keeps =
    subst (KeepsAhead contents size (Wrote area at bytes ∷ calls)) (sym is) (kept-other contents size calls old area at bytes whose keeps)

pub forgotten-wrote : (contents : FileContents) (size : ℕ) (calls : List FileCall) (area : Area) (at : ℕ) (bytes : List ℕ) (old new : Ahead) → IsForgotten area old new → KeepsAhead contents size calls old →
    KeepsAhead contents size (Wrote area at bytes ∷ calls) new
forgotten-wrote contents size calls area at bytes old new is keeps =
    wrote-where contents size calls area at bytes old new (same_area old.area area) refl is keeps

-- and without one
kept-where : (contents : FileContents) (size : ℕ) (calls : List FileCall) (old new : Ahead) (same : Bool) → new ≡ (if same then record old { count = 0 } else old) →
    KeepsAhead contents size calls old → KeepsAhead contents size calls new
kept-where contents size calls old new true is keeps = subst (KeepsAhead contents size calls) (sym is) (kept-none contents size calls (record old { count = 0 }) refl)
kept-where contents size calls old new false is keeps = subst (KeepsAhead contents size calls) (sym is) keeps

pub forgotten-kept : (contents : FileContents) (size : ℕ) (calls : List FileCall) (area : Area) (old new : Ahead) → IsForgotten area old new → KeepsAhead contents size calls old →
    KeepsAhead contents size calls new
forgotten-kept contents size calls area old new is keeps = kept-where contents size calls old new (same_area old.area area) is keeps

-- the end of a block fits in 64 bits
pub small-place : (area : Area) (size log home n : ℕ) → log < 18446744073709551616 → home < 18446744073709551616 →
    n < blocks_in (record { block_size = size; log_blocks = log / size; home_blocks = home / size }) area → n * size + size < 18446744073709551616
small-place Log size log home n few_log few_home there = omega (arith, block-within n (log / size) size there, div-mul-le_self log size)
small-place Home size log home n few_log few_home there = omega (arith, block-within n (home / size) size there, div-mul-le_self home size)

-- one more block is gathered, or none, and the kept blocks are right
pub gather-kept : (contents : FileContents) (size : ℕ) (calls : List FileCall) (g more : Gathered) (a b : Ahead) (area : Area) (n : ℕ) (bytes : List ℕ) (taken : Bool) → length bytes ≡ size → n * size + size < 18446744073709551616 →
    KeepsBlocks size (due_of size g ++ calls) → KeepsAhead contents size (due_of size g ++ calls) a → KeepsGathered size g → IsForgotten area a b →
    (IsTrue taken → IsPushed g more area n bytes) → (taken ≡ false → HoldsSame g more) →
    KeepsBlocks size (due_of size more ++ calls) × KeepsAhead contents size (due_of size more ++ calls) b × KeepsGathered size more
gather-kept contents size calls g more a b area n bytes true whole small keeps ahead room forgets pushes left =
    let pushed : IsPushed g more area n bytes = pushes refl in
    let due : due_of size more ≡ Wrote area (n * size) bytes ∷ due_of size g = pushed-due size g more area n bytes whole room.whole pushed in
    let blocks : KeepsBlocks size (Wrote area (n * size) bytes ∷ (due_of size g ++ calls)) = record { some = keeps.some; whole = (whole, keeps.whole) } in
    let kept : KeepsAhead contents size (Wrote area (n * size) bytes ∷ (due_of size g ++ calls)) b = forgotten-wrote contents size (due_of size g ++ calls) area (n * size) bytes a b forgets ahead in
    let first : more.first ≡ g.first = ap (λ (x : Gathered). x.first) pushed.rest in
    let count : more.count ≡ g.count + 1 = ap (λ (x : Gathered). x.count) pushed.rest in
    let one_more : (g.count + 1) * size ≡ g.count * size + 1 * size = add-mul g.count 1 size in
    let joined : (g.first + g.count) * size ≡ g.first * size + g.count * size = add-mul g.first g.count size in
    let place : n * size ≡ (g.first + g.count) * size = ap (λ (p : ℕ). p * size) pushed.behind in (
      subst (λ (cs : List FileCall). KeepsBlocks size (cs ++ calls)) (sym due) blocks,
      subst (λ (cs : List FileCall). KeepsAhead contents size (cs ++ calls) b) (sym due) kept,
      record {
        whole = rw count (ap (λ (b : List ℕ). length b) pushed.items ∙ omega (arith, length-append g.bytes.items bytes, room.whole, whole, one_more));
        few = rw count (subst (λ (long : ℕ). (g.count + 1) * long ≤ 65536) whole pushed.room);
        small = λ some. rw (first, count) (omega (arith, one_more, joined, place, small));
      },
    )
gather-kept contents size calls g more a b area n bytes false whole small keeps ahead room forgets pushes left =
    let same : HoldsSame g more = left refl in
    let due : due_of size more ≡ due_of size g = same-due size g more same in
    let first : more.first ≡ g.first = ap (λ (x : Gathered). x.first) same.rest in
    let count : more.count ≡ g.count = ap (λ (x : Gathered). x.count) same.rest in (
      subst (λ (cs : List FileCall). KeepsBlocks size (cs ++ calls)) (sym due) keeps,
      subst (λ (cs : List FileCall). KeepsAhead contents size (cs ++ calls) b) (sym due) (forgotten-kept contents size (due_of size g ++ calls) area a b forgets ahead),
      record { whole = rw count (ap (λ (b : List ℕ). length b) same.items ∙ room.whole); few = rw count room.few; small = rw (first, count) room.small },
    )

-- a read hands over nothing
reading-hands : (size : ℕ) (c : FileCall) → IsReading c → HandsBlock size c
reading-hands size (Measured area length) is = absurd is
reading-hands size (Read area at bytes) is = tt
reading-hands size (ReadFailed area at) is = tt
reading-hands size (Wrote area at bytes) is = absurd is
reading-hands size (WriteFailed area at bytes) is = absurd is
reading-hands size (GatheredFailed area at bytes) is = absurd is
reading-hands size (Synced area) is = absurd is
reading-hands size (SyncFailed area) is = absurd is

readings-hand : (size : ℕ) (more calls : List FileCall) → AllByRecursion IsReading more → AllByRecursion (HandsBlock size) calls → AllByRecursion (HandsBlock size) (more ++ calls)
readings-hand size [] calls all whole = whole
readings-hand size (c ∷ more) calls all whole = (reading-hands size c all.0, readings-hand size more calls all.1 whole)

pub hand-under : (size : ℕ) (due more calls : List FileCall) → AllByRecursion IsReading more → AllByRecursion (HandsBlock size) (due ++ calls) → AllByRecursion (HandsBlock size) (due ++ (more ++ calls))
hand-under size [] more calls all whole = readings-hand size more calls all whole
hand-under size (c ∷ due) more calls all whole = (whole.0, hand-under size due more calls all whole.1)

-- the invariant holds after a read
pub read-kept : (contents : FileContents) (size : ℕ) (g : Gathered) (calls cs : List FileCall) (a : Ahead) (call : FileCall) → IsReading call → cs ≡ call ∷ calls → KeepsBlocks size (due_of size g ++ calls) → KeepsAhead contents size (due_of size g ++ calls) a →
    KeepsBlocks size (due_of size g ++ cs) × KeepsAhead contents size (due_of size g ++ cs) a
read-kept contents size g calls cs a call is noted keeps ahead =
    rw noted (record { some = keeps.some; whole = hand-under size (due_of size g) (call ∷ []) calls (is, tt) keeps.whole }, kept-under contents size g (call ∷ []) calls a (is, tt) ahead)

-- and after the gathered blocks were written
pub none-due : (size : ℕ) (g : Gathered) → g.count ≡ 0 → due_of size g ≡ []
none-due size g none = ap (writes_of g.area (g.first * size) size g.bytes.items) none

pub handed-kept : (contents : FileContents) (size : ℕ) (g none : Gathered) (calls cs : List FileCall) (a : Ahead) → none.bytes.items ≡ [] → none.count ≡ 0 → cs ≡ due_of size g ++ calls →
    KeepsBlocks size (due_of size g ++ calls) → KeepsAhead contents size (due_of size g ++ calls) a →
    KeepsBlocks size (due_of size none ++ cs) × KeepsAhead contents size (due_of size none ++ cs) a × KeepsGathered size none
handed-kept contents size g none calls cs a empty count noted keeps ahead =
    let all : due_of size none ++ cs ≡ due_of size g ++ calls = ap (λ (due : List FileCall). due ++ cs) (none-due size none count) ∙ noted in (
      subst (KeepsBlocks size) (sym all) keeps,
      subst (λ (x : List FileCall). KeepsAhead contents size x a) (sym all) ahead,
      record { whole = rw (empty, count) (omega arith); few = rw count (omega arith); small = λ some. absurd (omega arith) },
    )

-- or could not be written
failed-hand : (size : ℕ) (due calls : List FileCall) (area : Area) (at : ℕ) (bytes : List ℕ) → AllByRecursion (HandsBlock size) (due ++ calls) → AllByRecursion (HandsBlock size) (due ++ (GatheredFailed area at bytes ∷ calls))
failed-hand size [] calls area at bytes whole = (tt, whole)
failed-hand size (c ∷ due) calls area at bytes whole = (whole.0, failed-hand size due calls area at bytes whole.1)

pub failed-kept : (contents : FileContents) (size : ℕ) (g : Gathered) (calls cs : List FileCall) (a : Ahead) (area : Area) (at : ℕ) (bytes : List ℕ) → cs ≡ GatheredFailed area at bytes ∷ calls →
    KeepsBlocks size (due_of size g ++ calls) → KeepsAhead contents size (due_of size g ++ calls) a → KeepsBlocks size (due_of size g ++ cs) × KeepsAhead contents size (due_of size g ++ cs) a
failed-kept contents size g calls cs a area at bytes noted keeps ahead =
    rw noted (record { some = keeps.some; whole = failed-hand size (due_of size g) calls area at bytes keeps.whole }, kept-failed contents size g calls a area at bytes ahead)

-- blocks that were just read ahead are right
pub kept-ahead : (contents : FileContents) (size : ℕ) (calls : List FileCall) (area : Area) (n : ℕ) (bytes : List ℕ) (count : ℕ) (a : Ahead) → 0 < size → length bytes ≡ count * size →
    a.bytes.items ≡ bytes → a.area ≡ area → a.first ≡ n → a.count ≡ count → KeepsAhead contents size (reads_of area (n * size) size bytes (length bytes / size) ++ calls) a
kept-ahead contents size calls area n bytes count a some long is_bytes is_area is_first is_count =
    let number : length bytes / size ≡ count = ap (λ (p : ℕ). p / size) long ∙ mul-div_cancel count some in
    let asked : List FileCall = reads_of area (n * size) size bytes (length bytes / size) in
    record {
      fits = rw (is_count, is_bytes) (omega (arith, long));
      reads = λ k below agrees.
          let less : k < count = subst (λ (m : ℕ). k < m) is_count below in
          rw (is_bytes, is_area, is_first) (
          ahead-reads contents size calls area n bytes (length bytes / size) some k (rw number less) agrees
          ∙ ap (λ (x : FileMoments). (x.disk area (n + k)).reads) (sym (readings-leave contents size asked calls (reads-ask area (n * size) size bytes (length bytes / size))))
          );
    }

-- the invariant holds after reading ahead
pub read-ahead-kept : (contents : FileContents) (size : ℕ) (g : Gathered) (calls cs : List FileCall) (area : Area) (n at count : ℕ) (a : Ahead) (bytes : List ℕ) → IsFreeOf g area → KeepsBlocks size (due_of size g ++ calls) → at ≡ n * size →
    length bytes ≡ count * size → cs ≡ reads_of area at size bytes (length bytes / size) ++ calls → a.bytes.items ≡ bytes → a.area ≡ area → a.first ≡ n → a.count ≡ count →
    KeepsBlocks size (due_of size g ++ cs) × KeepsAhead contents size (due_of size g ++ cs) a
read-ahead-kept contents size g calls cs area n at count a bytes free keeps place whole noted is_bytes is_area is_first is_count =
    let asked : List FileCall = reads_of area (n * size) size bytes (length bytes / size) in
    rw (noted, place) (
      record { some = keeps.some; whole = hand-under size (due_of size g) asked calls (reads-ask area (n * size) size bytes (length bytes / size)) keeps.whole },
      kept-over contents size g (asked ++ calls) a keeps.some (rw is_area free) (kept-ahead contents size calls area n bytes count a keeps.some whole is_bytes is_area is_first is_count),
    )

-- and after reading ahead failed
pub failed-ahead-kept : (contents : FileContents) (size : ℕ) (g : Gathered) (calls cs : List FileCall) (area : Area) (at : ℕ) (a : Ahead) → KeepsBlocks size (due_of size g ++ calls) →
    cs ≡ ReadFailed area at ∷ calls → a.count ≡ 0 → KeepsBlocks size (due_of size g ++ cs) × KeepsAhead contents size (due_of size g ++ cs) a
failed-ahead-kept contents size g calls cs area at a keeps noted none =
    rw noted (
      record { some = keeps.some; whole = hand-under size (due_of size g) (ReadFailed area at ∷ []) calls (tt, tt) keeps.whole },
      kept-none contents size (due_of size g ++ (ReadFailed area at ∷ calls)) a none,
    )

-- a fact of each call of two lists holds of each call of both
all-append : (P : FileCall → Type 0) (more calls : List FileCall) → AllByRecursion P more → AllByRecursion P calls → AllByRecursion P (more ++ calls)
all-append P [] calls all rest = rest
all-append P (c ∷ more) calls all rest = (all.0, all-append P more calls all.1 rest)

-- reads follow reads
pub read-after : {old mid new : FileState} → HasRead old mid → HasRead mid new → HasRead old new
read-after {old} {mid} {new} first later = record {
  calls = later.calls ++ first.calls;
  readings = all-append IsReading later.calls first.calls later.readings first.readings;
  after = later.after ∙ ap (λ (s : FileState). record s { calls = later.calls ++ s.calls }) first.after
      ∙ ap (λ (cs : List FileCall). record old { calls = cs }) (sym (append_assoc later.calls first.calls old.calls));
}

-- a failed read, at a block's place, follows reads
pub failed-after : {old mid new : FileState} {area : Area} (n : ℕ) → HasRead old mid → HasFailedRead mid new area (n * mid.block_size) → HasFailedRead old new area (n * old.block_size)
failed-after {old} {mid} {new} {area} n first later =
    subst (λ (size : ℕ). HasFailedRead old new area (n * size)) (ap (λ (s : FileState). s.block_size) first.after)
    (record { before = later.before; asked_before = read-after first later.asked_before; after = later.after })

-- reads leave the disk
pub read-leaves : (contents : FileContents) {old new : FileState} → HasRead old new → file_state contents new ≡ file_state contents old
read-leaves contents {old} {new} read =
    ap (file_state contents) read.after
    ∙ ap (λ (m : FileMoments). record (file_state contents old) { disk = m.disk; past = m.past })
    (over-same contents old.block_size old.gathered (read.calls ++ old.calls) old.calls (readings-leave contents old.block_size read.calls old.calls read.readings))

-- and the files' disk
pub files-leave : (contents : FileContents) {old new : FileState} → HasRead old new → files_disk contents new ≡ files_disk contents old
files-leave contents {old} {new} read =
    ap (files_disk contents) read.after ∙ ap (λ (m : FileMoments). m.disk) (readings-leave contents old.block_size read.calls old.calls read.readings)

-- the blocks of an area by the length of its file
pub blocks-are : (s : FileState) (area : Area) → blocks_in (file_shape s) area ≡ bytes_in s area / s.block_size
blocks-are s Log = refl
blocks-are s Home = refl

-- whole blocks from a block's place on end within the file
pub span-fits : (n size long room count at span : ℕ) → n < long / size → count ≡ min room (long / size - n) → at ≡ n * size → span ≤ count * size → at + span ≤ long
span-fits n size long room count at span there many place most =
    let behind : count ≤ long / size - n = omega (arith, many, min-le_right room (long / size - n)) in
    let joined : (n + count) * size ≡ n * size + count * size = add-mul n count size in
    let within : (n + count) * size ≤ (long / size) * size = mul-le (n + count) size (long / size) size (omega arith) (omega arith) in
    omega (arith, joined, within, div-mul-le_self long size)

-- what follows of a value, and of an error
pub on-ok : {T E P Q : Type 0} (r : Result T E) → (P → Q) → OnOk r P → OnOk r Q
on-ok (Ok v) f p = f p
on-ok (Err e) f p = p

pub on-err : {T E P Q : Type 0} (r : Result T E) → (P → Q) → OnErr r P → OnErr r Q
on-err (Ok v) f p = p
on-err (Err e) f p = f p

-- reads, up to an equal device
pub read-as : {old mid new : FileState} → HasRead old mid → new ≡ mid → HasRead old new
read-as read same = rw same read

pub same-read : {old mid new : FileState} → mid ≡ old → HasRead mid new → HasRead old new
same-read {new = new} same read = subst (λ (s : FileState). HasRead s new) same read

-- no read is a list of reads
pub no-read : (s : FileState) → HasRead s s
no-read s = record { calls = []; readings = tt; after = refl }

-- reads change the count of failures at most
pub read-stays : (contents : FileContents) {old new : FileState} → HasRead old new → Stays (file_state contents old) (file_state contents new)
read-stays contents read = record {
  shape = ap (λ (s : DeviceState). s.shape) (read-leaves contents read);
  disk = ap (λ (s : DeviceState). s.disk) (read-leaves contents read);
  past = ap (λ (s : DeviceState). s.past) (read-leaves contents read);
}

pub failed-stays : (contents : FileContents) {old new : FileState} {area : Area} {at : ℕ} → HasFailedRead old new area at → Stays (file_state contents old) (file_state contents new)
failed-stays contents {old} {new} {area} {at} read =
    let before : Stays (file_state contents old) (file_state contents read.before) = read-stays contents read.asked_before in
    let same : after_calls contents read.before.block_size (read.before.gathered ++ (ReadFailed area at ∷ read.before.calls)) ≡ after_calls contents read.before.block_size (asked_calls read.before) =
    over-same contents read.before.block_size read.before.gathered (ReadFailed area at ∷ read.before.calls) read.before.calls refl in
    record {
      shape = ap (λ (s : FileState). (file_state contents s).shape) read.after ∙ before.shape;
      disk = ap (λ (s : FileState). (file_state contents s).disk) read.after ∙ ap (λ (m : FileMoments). m.disk) same ∙ before.disk;
      past = ap (λ (s : FileState). (file_state contents s).past) read.after ∙ ap (λ (m : FileMoments). m.past) same ∙ before.past;
    }

-- if all reads so far agreed, the earlier ones did
pub read-agreed : (contents : FileContents) {old new : FileState} → HasRead old new → HasAgreed contents new → HasAgreed contents old
read-agreed contents {old} {new} read agrees =
    agreed-before contents old.block_size read.calls old.calls (subst (HasAgreed contents) read.after agrees)

pub failed-agreed : (contents : FileContents) {old new : FileState} {area : Area} {at : ℕ} → HasFailedRead old new area at → HasAgreed contents new → HasAgreed contents old
failed-agreed contents {old} {new} read agrees =
    read-agreed contents read.asked_before (subst (HasAgreed contents) read.after agrees).1

-- counting a call first leaves the disk
counted-stays : (contents : FileContents) {old mid : FileState} {new : DeviceState} → mid ≡ counted old → Stays (file_state contents mid) new → Stays (file_state contents old) new
counted-stays contents {old} {mid} {new} same stays =
    let since : Stays (file_state contents (counted old)) new = subst (λ (s : FileState). Stays (file_state contents s) new) same stays in
    record { shape = since.shape; disk = since.disk; past = since.past }

-- a read leaves the disk, whether it fails or not
pub answer-stays : {T E : Type 0} (r : Result T E) (contents : FileContents) (old mid new : FileState) (area : Area) (at : ℕ) → mid ≡ counted old → OnOk r (HasRead mid new) → OnErr r (HasFailedRead mid new area at) →
    Stays (file_state contents old) (file_state contents new)
answer-stays (Ok v) contents old mid new area at same ok err = counted-stays contents same (read-stays contents ok)
answer-stays (Err e) contents old mid new area at same ok err = counted-stays contents same (failed-stays contents err)

pub answer-agreed : {T E : Type 0} (r : Result T E) (contents : FileContents) (old mid new : FileState) (area : Area) (at : ℕ) → mid ≡ counted old → OnOk r (HasRead mid new) → OnErr r (HasFailedRead mid new area at) →
    HasAgreed contents new → HasAgreed contents old
answer-agreed (Ok v) contents old mid new area at same ok err agrees = subst (HasAgreed contents) same (read-agreed contents ok agrees)
answer-agreed (Err e) contents old mid new area at same ok err agrees = subst (HasAgreed contents) same (failed-agreed contents err agrees)
