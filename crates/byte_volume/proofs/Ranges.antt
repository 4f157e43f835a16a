-- A byte range grows by a part of one block.
use Rattle.std.proofs.Common.{◌≡◌, ◌≤◌, ◌++◌, ◌+◌, ◌-◌, ◌/◌, ◌%◌, ◌∙◌, ap, sym, subst, arith, ℕ, List, length, take, drop}
use Rattle.std.proofs.lemmas.List.{append_assoc, length-append, length-drop, length-take-le, take_at, take-append-drop}
use borrow.Rule.Slice.PartMut.{put_mid}
use Rattle.block_device.specs.State.{DeviceState}
use Rattle.handle.specs.Name.{JournalId}
use Rattle.byte_volume.specs.Reading.{ReadsPart, ReadsRange}
use Rattle.byte_volume.specs.Reading.ReadsRange.{Further}

-- what is written from a place to the end keeps the length
pub length-written : (old new : List ℕ) (done : ℕ) → done ≤ length old → length new ≡ length old - done → length (put_mid done (length old - done) old new) ≡ length old
length-written old new done within long =
    omega (arith, within, long, length-append (take done old) (new ++ drop (length old - done) (drop done old)), length-append new (drop (length old - done) (drop done old)), length-take-le done old within, length-drop (length old - done) (drop done old), length-drop done old)

-- the first bytes, and some of those that were written after them
written_more : (old bytes rest : List ℕ) (done n : ℕ) → done ≤ length old → length bytes ≡ n →
    take (done + n) (put_mid done (length old - done) old (bytes ++ rest)) ≡ take done old ++ bytes
written_more old bytes rest done n within size =
    let last : List ℕ = drop (length old - done) (drop done old) in
    let long : length (take done old ++ bytes) ≡ done + n = omega (arith, size, length-append (take done old) bytes, length-take-le done old within) in
    let grouped = append_assoc (take done old) bytes (rest ++ last) in
    rw (append_assoc bytes rest last, ← grouped) (take_at (take done old ++ bytes) (rest ++ last) (done + n) long)

-- the bytes so far, then a part of the next block
pub further : {D : Type 0} (state : D → DeviceState) (honest : D → Type 0) (name : JournalId) (size offset done n : ℕ) (old new : List ℕ) → done ≤ length old → n ≤ length new →
    ReadsRange state honest name size offset (take done old) → ReadsPart state honest name size ((offset + done) / size) ((offset + done) % size) n (take n new) →
    ReadsRange state honest name size offset (take (done + n) (put_mid done (length old - done) old new))
further state honest name size offset done n old new within few range part =
    let count : length (take n new) ≡ n = length-take-le n new few in
    let before : length (take done old) ≡ done = length-take-le done old within in
    let here = subst (λ (j : ℕ). ReadsPart state honest name size ((offset + done) / size) ((offset + done) % size) j (take n new)) (sym count) part in
    let there = subst (λ (k : ℕ). ReadsPart state honest name size ((offset + k) / size) ((offset + k) % size) (length (take n new)) (take n new)) (sym before) here in
    let split = written_more old (take n new) (drop n new) done n within count in
    Further (take done old) (take n new) _ range there (ap (λ (ys : List ℕ). take (done + n) (put_mid done (length old - done) old ys)) (sym (take-append-drop n new)) ∙ split)
