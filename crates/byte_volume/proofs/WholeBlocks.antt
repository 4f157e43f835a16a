-- How many blocks a range of bytes has.
use Rattle.std.proofs.Common.{◌≡◌, ◌≤◌, ◌<◌, ◌+◌, ◌-◌, ◌*◌, ◌/◌, ◌%◌, ◌^◌, ◌++◌, sym, subst, ap, ◌∙◌, arith, ℕ, min, List, length, take, drop, length-append, length-drop, length-take-le, add-mul}
use Rattle.std.proofs.lemmas.Grind.{div_ceil_times}
use Rattle.std.proofs.lemmas.Nat.{div_below, div-mul-add, mod-mul-add, mod_below, mul-le}
use native.Mathlib.Nat.{div-add-mod'}
use Rattle.block_device.specs.State.{DeviceState}
use Rattle.handle.specs.Name.{JournalId}
use Rattle.byte_volume.specs.Reading.{ReadsPart}
use Rattle.byte_volume.specs.Refusals.{IsAmong, MeetsRange}
use Rattle.byte_volume.specs.Writing.{IsHead, IsOverlay, IsTail, LieWithin}
use Rattle.byte_volume.specs.Writing.IsHead.{Head, NoHead}
use Rattle.byte_volume.specs.Writing.IsTail.{NoTail, Tail}

-- fewer bytes lie in no more blocks
cancel : (x y size : ℕ) → 0 < size → x * size < y * size + size → x ≤ y
cancel x y size some few =
    let below : x * size / size < y + 1 = div_below (x * size) size (y + 1) some (omega (arith, few, add-mul y 1 size)) in
    let none : x * size + 0 ≡ x * size = omega arith in
    omega (arith, below, subst (λ (k : ℕ). k / size ≡ x) none (div-mul-add x size 0 some))

-- the bytes of a part, of a head and of a tail
length-part : {D : Type 0} (state : D → DeviceState) (honest : D → Type 0) (name : JournalId) (size b from n : ℕ) (part : List ℕ) → ReadsPart state honest name size b from n part → length part ≡ n
length-part state honest name size b from n part reads =
    ap length reads.part_is ∙ length-take-le n (drop from reads.block) (omega (arith, reads.fits, reads.whole, length-drop from reads.block))

length-head : {D : Type 0} (state : D → DeviceState) (honest : D → Type 0) (name : JournalId) (size at : ℕ) (head : List ℕ) → IsHead state honest name size at head → length head ≡ at % size
length-head state honest name size at head (NoHead begins is) = ap length is ∙ sym begins
length-head state honest name size at head (Head some reads) = length-part state honest name size (at / size) 0 (at % size) head reads

length-tail : {D : Type 0} (state : D → DeviceState) (honest : D → Type 0) (name : JournalId) (size at : ℕ) (tail : List ℕ) → 0 < size → IsTail state honest name size at tail → length tail < size
length-tail state honest name size at tail some (NoTail ends is) = omega (arith, some, ap length is)
length-tail state honest name size at tail some (Tail within reads) =
    omega (arith, some, within, length-part state honest name size (at / size) (at % size) (size - at % size) tail reads)

-- whole blocks with the range end within a block after it
pub length-overlay : {D : Type 0} (state : D → DeviceState) (honest : D → Type 0) (name : JournalId) (size offset : ℕ) (bytes whole : List ℕ) → 0 < size →
    IsOverlay state honest name size offset bytes whole → offset / size * size + length whole < offset + length bytes + size
length-overlay state honest name size offset bytes whole some overlay =
    let before = length-head state honest name size offset overlay.head overlay.head_is in
    let after = length-tail state honest name size (offset + length bytes) overlay.tail some overlay.tail_is in
    let all : length whole ≡ length (overlay.head ++ bytes) + length overlay.tail = ap length overlay.whole_is ∙ length-append (overlay.head ++ bytes) overlay.tail in
    omega (arith, before, after, all, length-append overlay.head bytes, div-add-mod' offset size)

-- the bytes alone, where they are whole blocks
pub length-aligned : (size offset n : ℕ) → 0 < size → offset / size * size + n < offset + n + size
length-aligned size offset n some = omega (arith, some, div-add-mod' offset size)

-- the number after the last block, where m bytes of whole blocks begin with the range's first block
past_times : (size offset n m : ℕ) → offset / size * size + m < offset + n + size → (offset / size + m / size) * size < offset + n + size
past_times size offset n m long = omega (arith, long, add-mul (offset / size) (m / size) size, div-add-mod' m size)

-- it is no greater than the bytes before the range's end
pub past_fits : (size offset n m most : ℕ) → 0 < size → offset / size * size + m < offset + n + size → offset + n < most → offset / size + m / size < most
past_fits size offset n m most some long fits =
    let past = past_times size offset n m long in
    let more = mul-le (offset + n) 1 (offset + n) size (omega arith) some in
    omega (arith, fits, cancel (offset / size + m / size) (offset + n) size some (omega (arith, past, more)))

-- one handle has credits for the blocks
pub within_credits : (size capacity offset n m : ℕ) → 0 < size → offset / size * size + m < offset + n + size → LieWithin size offset n capacity → m / size ≤ capacity
within_credits size capacity offset n m some long within =
    let past = past_times size offset n m long in
    let end = div_ceil_times (offset + n) size some in
    omega (
      arith,
      cancel (offset / size + m / size) (offset / size + capacity) size some
          (omega (arith, past, end.0, mul-le _ size _ size within (omega arith))),
    )

-- each of them meets the range
pub meets : (size offset n m b : ℕ) → 0 < size → offset / size * size + m < offset + n + size → IsAmong (offset / size) (m / size) b → MeetsRange size offset n b
meets size offset n m b some long among =
    let past = past_times size offset n m long in
    let up = mul-le (b + 1) size (offset / size + m / size) size (omega (arith, among.1)) (omega arith) in
    let down = mul-le (offset / size) size b size among.0 (omega arith) in
    (omega (arith, past, up, add-mul b 1 size), omega (arith, down, div-add-mod' offset size, mod_below offset size some))

-- a piece is within the credits of one handle
pub piece_within : (size capacity at most n : ℕ) → 0 < size → at % size + most ≡ min (capacity * size) (2 ^ 64 - 1) → n ≤ most → LieWithin size at n capacity
piece_within size capacity at most n some full few =
    let end = div_ceil_times (at + n) size some in
    cancel _ (at / size + capacity) size some (omega (arith, end.1, full, few, div-add-mod' at size, add-mul (at / size) capacity size))

-- a piece that is not the last ends with a block
pub piece_ends : (size capacity offset n done most count end : ℕ) → 0 < size → offset + n < 2 ^ 64 → (offset + done) % size + most ≡ min (capacity * size) (2 ^ 64 - 1) →
    count ≡ min most (n - done) → end ≡ offset + done + count → done + count < n → end % size ≡ 0
piece_ends size capacity offset n done most count end some fits full least is more =
    let split = div-add-mod' (offset + done) size in
    let ends : ((offset + done) / size + capacity) * size + 0 ≡ end =
    omega (arith, fits, full, least, is, more, split, add-mul ((offset + done) / size) capacity size) in
    subst (λ (k : ℕ). k % size ≡ 0) ends (mod-mul-add ((offset + done) / size + capacity) size 0 some)

-- each block of some bytes is whole
pub length-block : (size k : ℕ) (bytes : List ℕ) → k < length bytes / size → length (take (k * size + size - k * size) (drop (k * size) bytes)) ≡ size
length-block size k bytes few =
    let up = mul-le (k + 1) size (length bytes / size) size (omega (arith, few)) (omega arith) in
    length-take-le (k * size + size - k * size) (drop (k * size) bytes)
    (omega (arith, up, add-mul k 1 size, div-add-mod' (length bytes) size, length-drop (k * size) bytes)) ∙ omega arith
