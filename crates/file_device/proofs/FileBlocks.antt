-- Lemmas: what a device's calls on its files make of the disk.
use Rattle.std.proofs.Common.{◌≡◌, ℕ, ◌<◌, ◌*◌, ◌/◌, ◌+◌, ◌-◌, Bool, true, false, List, [], ◌∷◌, ◌++◌, length, ap, refl, sym, subst, ◌∙◌, inl, inr, ⊎_elim, arith}
use Rattle.std.specs.Prelude.{if◌then◌else◌, ◌&&◌, ◌==◌, map, replicate, Result, Ok, Err, OnOk, OnErr}
use Rattle.std.specs.List.{AllByRecursion}
use Rattle.std.proofs.lemmas.List.{append-nil, append_assoc, length-append, length-replicate, length-take-le}
use Rattle.std.proofs.Math.Nat.{mul-div_cancel}
use Rattle.journal_model.specs.declared.number.Area.{Area}
use Rattle.journal_model.specs.Disk.{Disk, Cell, IsOneOf, held, same_area, written, handed_over, flushed}
use Rattle.block_device.specs.State.{CountsCall, CountsFaults, DeviceState, Moves, Stays, Writes, Whole, HandedOver, one_more_call, one_more_fault}
use Rattle.file_device.specs.Calls.{FileCall, Measured, Read, ReadFailed, Wrote, WriteFailed, GatheredFailed, Synced, SyncFailed}
use Rattle.file_device.proofs.GatheredBlocks.{agreed-before, over-same}
use Rattle.file_device.specs.Files.{FileContents, FileState, FileMoments, fitted, after_call, after_calls, AgreesEach, FailsToHandOn, HandsBlock, HasAgreed, Takes, asked_calls, counted, failed_for_good, file_shape, file_state, files_disk, handed_on}
use Rattle.block_device.proofs.WholeCells.{IsWhole, one_of_two, alone, over}

-- a block's place gives its number
pub block_at : (at n size : ℕ) → 0 < size → at ≡ n * size → at / size ≡ n
block_at at n size some place = ap (λ k. k / size) place ∙ mul-div_cancel n some

-- a read that agrees gave what the file has at the block
pub agreed_read : (contents : FileContents) {s now : FileState} (calls : List FileCall) (at n : ℕ) (area : Area) (bytes : List ℕ) → s ≡ now → 0 < s.block_size → at ≡ n * s.block_size →
    calls ≡ Read area at bytes ∷ s.calls → AgreesEach contents s.block_size calls → bytes ≡ (files_disk contents now area n).reads
agreed_read contents {s = s} calls at n area bytes same some place noted agrees =
    let Reads : FileState → ℕ → List ℕ = λ t b. (files_disk contents t area b).reads in
    (subst (AgreesEach contents s.block_size) noted agrees).0 ∙ ap (Reads s) (block_at at n s.block_size some place) ∙ ap (λ t. Reads t n) same

-- the device's state if these calls were asked of it
abbrev pub asked_for : FileContents → FileState → List FileCall → DeviceState
asked_for contents old cs =
    let m = after_calls contents old.block_size cs in
    record { shape = file_shape old; disk = m.disk; past = m.past; faults = old.faults; calls = one_more_call old.calls_made }

-- one more write was asked of it
pub takes_asked : (contents : FileContents) {old new : FileState} {call : FileCall} → Takes old new call → file_state contents new ≡ asked_for contents old (call ∷ asked_calls old)
takes_asked contents {old} {new} {call} takes =
    ap (file_state contents) takes.rest
    ∙ ap (asked_for contents old) (
    ap (λ (cs : List FileCall). new.gathered ++ cs) takes.calls
    ∙ sym (append_assoc new.gathered takes.made old.calls)
    ∙ ap (λ (cs : List FileCall). cs ++ old.calls) takes.due)

-- that write changes the block at its place
pub takes_moves : (contents : FileContents) {old new : FileState} (area : Area) (n : ℕ) (bytes : List ℕ) → 0 < old.block_size → Takes old new (Wrote area (n * old.block_size) bytes) →
    Moves (file_state contents old) (file_state contents new) (written (file_state contents old).disk area n bytes)
takes_moves contents {old} {new} area n bytes some takes =
    let is = takes_asked contents takes in
    record {
      shape = ap (λ (s : DeviceState). s.shape) is;
      now = ap (λ (s : DeviceState). s.disk) is ∙ ap (λ (b : ℕ). written (file_state contents old).disk area b bytes) (block_at (n * old.block_size) n old.block_size some refl);
      past = ap (λ (s : DeviceState). s.past) is;
    }

pub takes_faults : (contents : FileContents) {old new : FileState} {call : FileCall} → Takes old new call → (file_state contents new).faults ≡ (file_state contents old).faults
takes_faults contents takes = ap (λ (s : DeviceState). s.faults) (takes_asked contents takes)

pub takes_counts : (contents : FileContents) {old new : FileState} {call : FileCall} → Takes old new call → CountsCall (file_state contents old) (file_state contents new)
takes_counts contents takes = ap (λ (s : DeviceState). s.calls) (takes_asked contents takes)

pub takes_agreed : (contents : FileContents) {old new : FileState} {call : FileCall} → Takes old new call → HasAgreed contents new → HasAgreed contents old
takes_agreed contents {old} {new} takes agrees =
    agreed-before contents old.block_size takes.made old.calls
    (subst (AgreesEach contents old.block_size) takes.calls (subst (HasAgreed contents) takes.rest agrees))

-- some due writes were made, and the others are gathered
pub takes_as : {old new : FileState} {call : FileCall} (made gathered : List FileCall) → new ≡ record (counted old) { gathered = gathered; calls = made ++ old.calls } → gathered ++ made ≡ call ∷ old.gathered →
    Takes old new call
takes_as {old} made gathered is due = record {
  made = made;
  calls = ap (λ (s : FileState). s.calls) is;
  due = ap (λ (s : FileState). s.gathered ++ made) is ∙ due;
  rest = is ∙ sym (ap (λ (s : FileState). record (counted old) { gathered = s.gathered; calls = s.calls }) is);
}

-- the write is gathered with the others
pub takes_gathered : {old mid new : FileState} (area : Area) (n : ℕ) (bytes : List ℕ) → mid ≡ counted old →
    new ≡ record mid { gathered = Wrote area (n * mid.block_size) bytes ∷ mid.gathered } → Takes old new (Wrote area (n * old.block_size) bytes)
takes_gathered {old} area n bytes counts is =
    let due : List FileCall = Wrote area (n * old.block_size) bytes ∷ old.gathered in
    takes_as [] due (is ∙ ap (λ (s : FileState). record s { gathered = Wrote area (n * s.block_size) bytes ∷ s.gathered }) counts) (append-nil due)

-- or alone, after the others were written
pub takes_first : {old mid on new : FileState} (area : Area) (n : ℕ) (bytes : List ℕ) → mid ≡ counted old → on ≡ handed_on mid →
    new ≡ record on { gathered = Wrote area (n * on.block_size) bytes ∷ on.gathered } → Takes old new (Wrote area (n * old.block_size) bytes)
takes_first {old} area n bytes counts hands is =
    takes_as old.gathered (Wrote area (n * old.block_size) bytes ∷ [])
    (is ∙ ap (λ (s : FileState). record s { gathered = Wrote area (n * s.block_size) bytes ∷ s.gathered }) (hands ∙ ap handed_on counts)) refl

-- or written after them
pub takes_made : {old mid on new : FileState} (area : Area) (n : ℕ) (bytes : List ℕ) → mid ≡ counted old → on ≡ handed_on mid →
    new ≡ record on { calls = Wrote area (n * on.block_size) bytes ∷ on.calls } → Takes old new (Wrote area (n * old.block_size) bytes)
takes_made {old} area n bytes counts hands is =
    takes_as (Wrote area (n * old.block_size) bytes ∷ old.gathered) []
    (is ∙ ap (λ (s : FileState). record s { calls = Wrote area (n * s.block_size) bytes ∷ s.calls }) (hands ∙ ap handed_on counts)) refl

-- or its write failed
pub fails_made : (old mid on new : FileState) (area : Area) (n : ℕ) (bytes : List ℕ) → mid ≡ counted old → on ≡ handed_on mid →
    new ≡ record on { calls = WriteFailed area (n * on.block_size) bytes ∷ on.calls; has_failed = true; faults = one_more_fault on.faults } →
    new ≡ failed_for_good (handed_on old) (WriteFailed area (n * old.block_size) bytes)
fails_made old mid on new area n bytes counts hands is =
    is ∙ ap (λ (s : FileState). record s { calls = WriteFailed area (n * s.block_size) bytes ∷ s.calls; has_failed = true; faults = one_more_fault s.faults }) (hands ∙ ap handed_on counts)

-- counting the call first changes nothing here
pub fails_counted : (old mid new : FileState) → mid ≡ counted old → FailsToHandOn mid new → FailsToHandOn (counted old) new
fails_counted old mid new counts fails = subst (λ (s : FileState). FailsToHandOn s new) counts fails

pub for_good_faults : (contents : FileContents) (old new : FileState) (call : FileCall) → new ≡ failed_for_good (handed_on old) call → (file_state contents new).faults ≡ one_more_fault (file_state contents old).faults
for_good_faults contents old new call is = ap (λ (s : FileState). s.faults) is

pub for_good_counts : (contents : FileContents) (old new : FileState) (call : FileCall) → new ≡ failed_for_good (handed_on old) call → CountsCall (file_state contents old) (file_state contents new)
for_good_counts contents old new call is = ap (λ (s : FileState). s.calls_made) is

pub for_good_agreed : (contents : FileContents) (old new : FileState) (call : FileCall) → new ≡ failed_for_good (handed_on old) call → HasAgreed contents new → HasAgreed contents old
for_good_agreed contents old new call is agrees =
    agreed-before contents old.block_size old.gathered old.calls (subst (HasAgreed contents) is agrees).1

-- a premise after the gathered writes were made held before
pub handed_agreed : (contents : FileContents) (old mid on : FileState) → mid ≡ counted old → on ≡ handed_on mid → HasAgreed contents on → HasAgreed contents old
handed_agreed contents old mid on counts hands agrees =
    agreed-before contents old.block_size old.gathered old.calls (subst (HasAgreed contents) (hands ∙ ap handed_on counts) agrees)

-- a value or an error, and what follows of either
pub any-err : {T E P : Type 0} (r : Result T E) → P → OnErr r P
any-err (Ok v) p = tt
any-err (Err e) p = p

pub in-both : {T E P Q X : Type 0} (r : Result T E) → OnOk r P → OnErr r Q → (P → X) → (Q → X) → X
in-both (Ok v) ok err f g = f ok
in-both (Err e) ok err f g = g err

pub counts-both : {T E P Q : Type 0} (r : Result T E) (old new : DeviceState) → OnOk r P → OnErr r Q → (P → new.faults ≡ old.faults) → (Q → new.faults ≡ one_more_fault old.faults) → CountsFaults r old new
counts-both (Ok v) old new ok err f g = f ok
counts-both (Err e) old new ok err f g = g err

-- a device that failed to write what it gathered changes only its counts
abbrev pub failed_once : FileContents → FileState → DeviceState
failed_once contents old = record (file_state contents old) { faults = one_more_fault old.faults; calls = one_more_call old.calls_made }

pub fails_on : (contents : FileContents) (old new : FileState) → FailsToHandOn (counted old) new → file_state contents new ≡ failed_once contents old
fails_on contents old new fails =
    ap (file_state contents) fails.after
    ∙ ap (λ (m : FileMoments). record (failed_once contents old) { disk = m.disk; past = m.past })
    (over-same contents old.block_size old.gathered (GatheredFailed fails.area fails.at fails.bytes ∷ old.calls) old.calls refl)

pub fails_stays : (contents : FileContents) (old new : FileState) → FailsToHandOn (counted old) new → Stays (file_state contents old) (file_state contents new)
fails_stays contents old new fails =
    let is = fails_on contents old new fails in
    record { shape = ap (λ (s : DeviceState). s.shape) is; disk = ap (λ (s : DeviceState). s.disk) is; past = ap (λ (s : DeviceState). s.past) is }

pub fails_agreed : (contents : FileContents) (old new : FileState) → FailsToHandOn (counted old) new → HasAgreed contents new → HasAgreed contents old
fails_agreed contents old new fails agrees = (subst (HasAgreed contents) fails.after agrees).1

-- a failed write leaves the block in one of two ways
either_way : (b : Bool) (old new : DeviceState) (area : Area) (n : ℕ) (bytes : List ℕ) →
    Moves old new (if b then written old.disk area n bytes else handed_over old.disk area n bytes) → Writes old new area n bytes
either_way true old new area n bytes moves = Whole moves
either_way false old new area n bytes moves = HandedOver moves

pub failed_writes : (contents : FileContents) (old new : FileState) (area : Area) (n : ℕ) (bytes : List ℕ) → 0 < old.block_size → new ≡ failed_for_good (handed_on old) (WriteFailed area (n * old.block_size) bytes) →
    Writes (file_state contents old) (file_state contents new) area n bytes
failed_writes contents old new area n bytes some failed =
    let was : DeviceState = file_state contents old in
    let is = ap (file_state contents) failed in
    either_way contents.failed_write_reads was (file_state contents new) area n bytes (record {
      shape = ap (λ d. d.shape) is;
      now = ap (λ d. d.disk) is
          ∙ ap (λ b. if contents.failed_write_reads then written was.disk area b bytes else handed_over was.disk area b bytes) (block_at (n * old.block_size) n old.block_size some refl);
      past = ap (λ d. d.past) is;
    })

-- each value that a block may have has this length
abbrev pub AreWhole : ℕ → Disk → Type 0
AreWhole size disk = (a : Area) (n : ℕ) → IsWhole size (disk a n)

whole_written : (size : ℕ) (disk : Disk) (area : Area) (n : ℕ) (v : List ℕ) → AreWhole size disk → length v ≡ size → AreWhole size (written disk area n v)
whole_written size disk area n v h e a m =
    one_of_two size (same_area a area && (m == n)) (record { reads = v; others = held (disk area n) }) (disk a m) (over size v (disk area n) e (h area n)) (h a m)

-- one more value that a crash may leave
beside : (size : ℕ) (v : List ℕ) (c : Cell) → length v ≡ size → IsWhole size c → IsWhole size (record { reads = c.reads; others = v ∷ c.others })
beside size v c e h u one = ⊎_elim (λ same. h u (inl same)) (λ more. ⊎_elim (λ is. ap length is ∙ e) (λ before. h u (inr before)) more) one

whole_handed : (size : ℕ) (disk : Disk) (area : Area) (n : ℕ) (v : List ℕ) → AreWhole size disk → length v ≡ size → AreWhole size (handed_over disk area n v)
whole_handed size disk area n v h e a m =
    one_of_two size (same_area a area && (m == n)) (record { reads = (disk area n).reads; others = v ∷ (disk area n).others }) (disk a m) (beside size v (disk area n) e (h area n)) (h a m)

whole_flushed : (size : ℕ) (disk : Disk) (area : Area) → AreWhole size disk → AreWhole size (flushed disk area)
whole_flushed size disk area h a m =
    one_of_two size (same_area a area) (record { reads = (disk a m).reads; others = [] }) (disk a m) (alone size (disk a m).reads (h a m (disk a m).reads (inl refl))) (h a m)

whole_either : (size : ℕ) (b : Bool) (x y : Disk) → AreWhole size x → AreWhole size y → AreWhole size (if b then x else y)
whole_either size true x y hx hy = hx
whole_either size false x y hx hy = hy

-- one more call keeps each block whole
whole_call : (contents : FileContents) (size : ℕ) (m : FileMoments) (c : FileCall) → AreWhole size m.disk → HandsBlock size c → AreWhole size (after_call contents size m c).disk
whole_call contents size m (Measured area length) h e = h
whole_call contents size m (Read area at bytes) h e = h
whole_call contents size m (ReadFailed area at) h e = h
whole_call contents size m (Wrote area at bytes) h e = whole_written size m.disk area (at / size) bytes h e
whole_call contents size m (WriteFailed area at bytes) h e =
    whole_either size contents.failed_write_reads (written m.disk area (at / size) bytes) (handed_over m.disk area (at / size) bytes)
    (whole_written size m.disk area (at / size) bytes h e) (whole_handed size m.disk area (at / size) bytes h e)
whole_call contents size m (GatheredFailed area at bytes) h e = h
whole_call contents size m (Synced area) h e = whole_flushed size m.disk area h
whole_call contents size m (SyncFailed area) h e = h

-- a fitted value fills a block
fitted_whole : (size : ℕ) (v : List ℕ) → length (fitted size v) ≡ size
fitted_whole size v =
    let zeros : List ℕ = replicate (size - length v) 0 in
    let filled : length (v ++ zeros) ≡ length v + length zeros = length-append v zeros in
    let more : length zeros ≡ size - length v = length-replicate (size - length v) 0 in
    length-take-le size (v ++ zeros) (omega arith)

fitted_each : (size : ℕ) (vs : List (List ℕ)) (u : List ℕ) → IsOneOf (map (fitted size) vs) u → length u ≡ size
fitted_each size [] u one = absurd one
fitted_each size (v ∷ vs) u one = ⊎_elim (λ is. ap length is ∙ fitted_whole size v) (λ more. fitted_each size vs u more) one

whole_first : (contents : FileContents) (size : ℕ) → AreWhole size (after_calls contents size []).disk
whole_first contents size a n u one =
    ⊎_elim (λ is. ap length is ∙ fitted_whole size (contents.first a n).reads) (λ more. fitted_each size (contents.first a n).others u more) one

-- calls that hand over whole blocks keep each block whole
pub whole_calls : (contents : FileContents) (size : ℕ) (calls : List FileCall) → AllByRecursion (HandsBlock size) calls → AreWhole size (after_calls contents size calls).disk
whole_calls contents size [] all = whole_first contents size
whole_calls contents size (c ∷ calls) all = whole_call contents size (after_calls contents size calls) c (whole_calls contents size calls all.1) all.0
