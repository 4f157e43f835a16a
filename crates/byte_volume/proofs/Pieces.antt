-- Pieces of a byte range, written in order.
use Rattle.std.proofs.Common.{◌≡◌, ◌≤◌, ◌+◌, ◌-◌, ◌++◌, ◌∙◌, ap, sym, refl, subst, arith, ℕ, List, [], ◌∷◌, IfOk, None, OnErr, OnOk, Option, Result, Ok, Err, length, take, drop, replicate, append_assoc, append-nil, length-take-le, take-add, take_all, take-append-drop}
use Rattle.std.proofs.lemmas.List.{length-replicate, replicate-append-replicate}
use Rattle.block_device.specs.State.{DeviceState}
use Rattle.handle.specs.Name.{JournalId}
use Rattle.locked_journal.specs.Known.{TicketKnown}
use Rattle.byte_volume.specs.Writing.{AddsTicket, BeginsRange, LieWithin, MayAddTicket, WritesAll, WritesPieces, WritesRange, WritesSome}
use Rattle.byte_volume.specs.Writing.MayAddTicket.{NoTicket, OneTicket}
use Rattle.byte_volume.specs.Writing.WritesPieces.{Further, NoByte}
use Rattle.byte_volume.specs.Writing.WritesSome.{PartOfPiece, WholePieces}

-- no byte is written yet
pub no_byte : {D : Type 0} (state : D → DeviceState) (honest : D → Type 0) (name : JournalId) (size offset : ℕ) (tickets : List TicketKnown) → tickets ≡ [] →
    WritesPieces state honest name size offset tickets []
no_byte state honest name size offset tickets none = subst (λ (ts : List TicketKnown). WritesPieces state honest name size offset ts []) (sym none) NoByte

pub nothing : {D : Type 0} (state : D → DeviceState) (honest : D → Type 0) (name : JournalId) (size offset : ℕ) (bytes : List ℕ) (tickets : List TicketKnown) → tickets ≡ [] →
    WritesSome state honest name size offset bytes tickets
nothing state honest name size offset bytes tickets none = WholePieces [] bytes (no_byte state honest name size offset tickets none) refl

-- one more piece
more : {D : Type 0} (state : D → DeviceState) (honest : D → Type 0) (name : JournalId) (size offset k upto : ℕ) (old new : List TicketKnown) (before piece : List ℕ) → length before ≡ k →
    WritesPieces state honest name size offset old before → AddsTicket (WritesRange state honest name size (offset + k) piece) upto old new →
    WritesPieces state honest name size offset new (before ++ piece)
more state honest name size offset k upto old new before piece long pieces adds =
    Further old adds.ticket new before piece (before ++ piece) pieces
    (subst (λ (j : ℕ). WritesRange state honest name size (offset + j) piece adds.ticket) (sym long) adds.its) adds.added refl

pub more_bytes : {D : Type 0} (state : D → DeviceState) (honest : D → Type 0) (name : JournalId) (size offset done count upto : ℕ) (bytes piece : List ℕ) (old new : List TicketKnown) →
    done + count ≤ length bytes → WritesPieces state honest name size offset old (take done bytes) →
    AddsTicket (WritesRange state honest name size (offset + done) piece) upto old new → piece ≡ take count (drop done bytes) →
    WritesPieces state honest name size offset new (take (done + count) bytes)
more_bytes state honest name size offset done count upto bytes piece old new fits pieces adds is =
    let next = more state honest name size offset done upto old new (take done bytes) piece (length-take-le done bytes (omega (arith, fits))) pieces adds in
    subst (WritesPieces state honest name size offset new) (ap (λ (xs : List ℕ). take done bytes ++ xs) is ∙ sym (take-add done count bytes)) next

pub more_zeros : {D : Type 0} (state : D → DeviceState) (honest : D → Type 0) (name : JournalId) (size offset done count upto : ℕ) (old new : List TicketKnown) →
    WritesPieces state honest name size offset old (replicate done 0) → AddsTicket (WritesRange state honest name size (offset + done) (replicate count 0)) upto old new →
    WritesPieces state honest name size offset new (replicate (done + count) 0)
more_zeros state honest name size offset done count upto old new pieces adds =
    subst (WritesPieces state honest name size offset new) (replicate-append-replicate done count 0)
    (more state honest name size offset done upto old new (replicate done 0) (replicate count 0) (length-replicate done 0) pieces adds)

-- all bytes are written
pub all_bytes : {D : Type 0} (state : D → DeviceState) (honest : D → Type 0) (name : JournalId) (size offset done : ℕ) (bytes : List ℕ) (tickets : List TicketKnown) → length bytes ≤ done →
    WritesPieces state honest name size offset tickets (take done bytes) → WritesPieces state honest name size offset tickets bytes
all_bytes state honest name size offset done bytes tickets all pieces = subst (WritesPieces state honest name size offset tickets) (take_all done bytes all) pieces

pub all_zeros : {D : Type 0} (state : D → DeviceState) (honest : D → Type 0) (name : JournalId) (size offset done n : ℕ) (tickets : List TicketKnown) → done ≡ n →
    WritesPieces state honest name size offset tickets (replicate done 0) → WritesPieces state honest name size offset tickets (replicate n 0)
all_zeros state honest name size offset done n tickets all pieces = subst (λ (k : ℕ). WritesPieces state honest name size offset tickets (replicate k 0)) all pieces

-- the next piece was refused
some : {D : Type 0} (state : D → DeviceState) (honest : D → Type 0) (name : JournalId) (size offset k upto : ℕ) (bytes before piece after : List ℕ) (old new : List TicketKnown) →
    length before ≡ k → bytes ≡ before ++ piece ++ after → WritesPieces state honest name size offset old before →
    MayAddTicket (BeginsRange state honest name size (offset + k) piece) upto old new → WritesSome state honest name size offset bytes new
some state honest name size offset k upto bytes before piece after old new long is pieces (NoTicket same) =
    WholePieces before (piece ++ after) (subst (λ (ts : List TicketKnown). WritesPieces state honest name size offset ts before) (sym same) pieces)
    (is ∙ append_assoc before piece after)
some state honest name size offset k upto bytes before piece after old new long is pieces (OneTicket adds) =
    PartOfPiece old adds.ticket before piece after pieces
    (subst (λ (j : ℕ). BeginsRange state honest name size (offset + j) piece adds.ticket) (sym long) adds.its) adds.added is

pub some_bytes : {D : Type 0} (state : D → DeviceState) (honest : D → Type 0) (name : JournalId) (size offset done count upto : ℕ) (bytes piece : List ℕ) (old new : List TicketKnown) →
    done + count ≤ length bytes → WritesPieces state honest name size offset old (take done bytes) → piece ≡ take count (drop done bytes) →
    MayAddTicket (BeginsRange state honest name size (offset + done) piece) upto old new → WritesSome state honest name size offset bytes new
some_bytes state honest name size offset done count upto bytes piece old new fits pieces is may =
    let rest : List ℕ = drop count (drop done bytes) in
    let whole : bytes ≡ take done bytes ++ take count (drop done bytes) ++ rest =
    sym (take-append-drop done bytes) ∙ ap (λ (xs : List ℕ). take done bytes ++ xs) (sym (take-append-drop count (drop done bytes)))
    ∙ sym (append_assoc (take done bytes) (take count (drop done bytes)) rest) in
    some state honest name size offset done upto bytes (take done bytes) piece rest old new (length-take-le done bytes (omega (arith, fits)))
    (whole ∙ ap (λ (xs : List ℕ). take done bytes ++ xs ++ rest) (sym is)) pieces may

pub some_zeros : {D : Type 0} (state : D → DeviceState) (honest : D → Type 0) (name : JournalId) (size offset done count n upto : ℕ) (old new : List TicketKnown) → done + count ≤ n →
    WritesPieces state honest name size offset old (replicate done 0) → MayAddTicket (BeginsRange state honest name size (offset + done) (replicate count 0)) upto old new →
    WritesSome state honest name size offset (replicate n 0) new
some_zeros state honest name size offset done count n upto old new fits pieces may =
    let rest : ℕ = n - (done + count) in
    let all : n ≡ done + count + rest = omega (arith, fits) in
    let whole : replicate n 0 ≡ replicate done 0 ++ replicate count 0 ++ replicate rest 0 =
    ap (λ (k : ℕ). replicate k 0) all ∙ sym (replicate-append-replicate (done + count) rest 0)
    ∙ ap (λ (xs : List ℕ). xs ++ replicate rest 0) (sym (replicate-append-replicate done count 0)) in
    some state honest name size offset done upto (replicate n 0) (replicate done 0) (replicate count 0) (replicate rest 0) old new (length-replicate done 0) whole pieces may

-- so many zeros are written when whoever asked has left
pub zeros_so_far : {D : Type 0} (state : D → DeviceState) (honest : D → Type 0) (name : JournalId) (size offset done n : ℕ) (tickets : List TicketKnown) → done ≤ n →
    WritesPieces state honest name size offset tickets (replicate done 0) → WritesSome state honest name size offset (replicate n 0) tickets
zeros_so_far state honest name size offset done n tickets within pieces =
    let rest : ℕ = n - done in
    let all : n ≡ done + rest = omega (arith, within) in
    WholePieces (replicate done 0) (replicate rest 0) pieces (ap (λ (k : ℕ). replicate k 0) all ∙ sym (replicate-append-replicate done rest 0))

-- one handle wrote all of them
pub by_one : {D : Type 0} (state : D → DeviceState) (honest : D → Type 0) (name : JournalId) (size capacity offset upto : ℕ) (bytes : List ℕ) (old new : List TicketKnown) →
    old ≡ [] → AddsTicket (WritesRange state honest name size offset bytes) upto old new → WritesAll state honest name size capacity offset bytes new
by_one state honest name size capacity offset upto bytes old new none adds =
    let same : offset ≡ offset + length {A = ℕ} [] = omega arith in
    let alone : new ≡ adds.ticket ∷ [] = adds.added ∙ ap (λ (ts : List TicketKnown). ts ++ adds.ticket ∷ []) none in
    record {
      pieces = Further [] adds.ticket new [] bytes bytes NoByte (subst (λ (j : ℕ). WritesRange state honest name size j bytes adds.ticket) same adds.its) alone refl;
      once = λ within. ap length alone;
    }

pub one_piece : {D T E : Type 0} (state : D → DeviceState) (honest : D → Type 0) (name : JournalId) (size capacity offset upto : ℕ) (bytes : List ℕ) (old new : List TicketKnown)
    (result : Result T E) → old ≡ [] → OnOk result (AddsTicket (WritesRange state honest name size offset bytes) upto old new) →
    OnOk result (WritesAll state honest name size capacity offset bytes new)
one_piece state honest name size capacity offset upto bytes old new (Ok done) none adds = by_one state honest name size capacity offset upto bytes old new none adds
one_piece state honest name size capacity offset upto bytes old new (Err e) none adds = tt

-- or some of them
pub some_by_one : {D : Type 0} (state : D → DeviceState) (honest : D → Type 0) (name : JournalId) (size offset upto : ℕ) (bytes : List ℕ) (old new : List TicketKnown) →
    old ≡ [] → MayAddTicket (BeginsRange state honest name size offset bytes) upto old new → WritesSome state honest name size offset bytes new
some_by_one state honest name size offset upto bytes old new none may =
    let same : offset ≡ offset + 0 = omega arith in
    some state honest name size offset 0 upto bytes [] bytes [] old new refl (sym (append-nil bytes)) (no_byte state honest name size offset old none)
    (subst (λ (j : ℕ). MayAddTicket (BeginsRange state honest name size j bytes) upto old new) same may)

pub part_of_one : {D T E : Type 0} (state : D → DeviceState) (honest : D → Type 0) (name : JournalId) (size offset upto : ℕ) (bytes : List ℕ) (old new : List TicketKnown)
    (result : Result T E) → old ≡ [] → OnErr result (MayAddTicket (BeginsRange state honest name size offset bytes) upto old new) →
    OnErr result (WritesSome state honest name size offset bytes new)
part_of_one state honest name size offset upto bytes old new (Ok done) none may = tt
part_of_one state honest name size offset upto bytes old new (Err e) none may = some_by_one state honest name size offset upto bytes old new none may

-- they need more blocks than one handle has credits for
pub not_within : {D T E : Type 0} (state : D → DeviceState) (honest : D → Type 0) (name : JournalId) (size capacity offset : ℕ) (bytes : List ℕ) (tickets : List TicketKnown)
    (result : Result T E) → (LieWithin size offset (length bytes) capacity → ⊥) → OnOk result (WritesPieces state honest name size offset tickets bytes) →
    OnOk result (WritesAll state honest name size capacity offset bytes tickets)
not_within state honest name size capacity offset bytes tickets (Ok done) not pieces = record { pieces = pieces; once = λ within. absurd (not within) }
not_within state honest name size capacity offset bytes tickets (Err e) not pieces = tt

pub zeros_not_within : {D X E : Type 0} (state : D → DeviceState) (honest : D → Type 0) (name : JournalId) (size capacity offset count : ℕ) (tickets : List TicketKnown)
    (result : Result (Option X) E) → (LieWithin size offset count capacity → ⊥) →
    IfOk result (λ early. early ≡ None → WritesPieces state honest name size offset tickets (replicate count 0)) →
    IfOk result (λ early. early ≡ None → WritesAll state honest name size capacity offset (replicate count 0) tickets)
zeros_not_within state honest name size capacity offset count tickets (Ok early) not pieces = λ whole. record {
  pieces = pieces whole;
  once = λ within. absurd (not (subst (λ (n : ℕ). LieWithin size offset n capacity) (length-replicate count 0) within));
}
zeros_not_within state honest name size capacity offset count tickets (Err e) not pieces = tt
