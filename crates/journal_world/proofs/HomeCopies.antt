-- Steps of a round change home by copies alone, those that the committed transactions leave.
use Rattle.std.proofs.Common.{refl, sym, ◌∙◌, ap, subst, arith, inl, inr}
use Rattle.std.specs.Prelude.{◌≡◌, ◌⊎◌, ℕ, zero, suc, ◌<◌, List, [], ◌∷◌, map, take, Some, None, slice_get, Contains}
use Rattle.std.proofs.lemmas.Bool.{cases_eq}
use Rattle.std.proofs.lemmas.Option.{none-some, same_Some}
use Rattle.journal_model.proofs.Effects.{effect-entries, entries-effect}
use Rattle.journal_model.proofs.ListElements.{option-known}
use Rattle.journal_model.specs.declared.entry.Batch.{Batch}
use Rattle.journal_model.specs.declared.entry.Entry.{Entry}
use Rattle.journal_model.specs.declared.entry.Entry.TheVariants.{Copy}
use Rattle.journal_model.specs.declared.number.Area.TheVariants.{Home}
use Rattle.journal_model.specs.Disk.{Cell, Disk, IsOneOf, flushed, handed_over, held, written}
use Rattle.log_model.specs.HomeChange.{Addition, HomeAddsOnly, IsCommittedCopy}
use Rattle.journal_model.specs.Transaction.{History, Transaction, content_of, effect, entries, last_effect, later}
use Rattle.journal_world.specs.declared.round.Round.{Round}
use Rattle.journal_world.specs.declared.round.Round.TheVariants.{Idle as NoRound, Copies, TailWrite, TailFlush}
use Rattle.journal_world.specs.Call.{Call, IsAfterFault, after_success}
use Rattle.journal_world.specs.Call.IsAfterFault.{Undone, Whole, HandedOver}
use Rattle.journal_world.specs.Call.Call.{Write, Flush}
use Rattle.journal_world.specs.Checkpoint.{IsNewestCopy, RoundCall, RoundFaults, RoundSteps, begun, begun_from}
use Rattle.journal_world.specs.Checkpoint.RoundCall.{CopyHome, FlushHome, WriteTail, FlushTail}
use Rattle.journal_world.specs.Engine.{AreBatchesOf, Engine}
use Rattle.journal_world.specs.Sound.{CopiesHome, KeepsHome}
use Rattle.journal_world.proofs.Copying.{put-other, put-there}
use Rattle.journal_world.proofs.Homes.{fault-same}
use Rattle.journal_world.proofs.Pending.{contains-map, newest-of}

-- the entries of a batch say the effects of its transaction
batch-effect : (t : Transaction) (c : Batch) (b : ℕ) (x : Entry) → c.entries ≡ entries t.steps → Contains c.entries (b, x) → effect b t.steps ≡ Some x
batch-effect t c b x same has = entries-effect t.steps b x (subst (λ es. Contains es (b, x)) same has)

-- a batch without an entry of a block has no effect on it
no-effect : (t : Transaction) (c : Batch) (b : ℕ) → c.entries ≡ entries t.steps → (Contains (map (λ p. p.0) c.entries) b → ⊥) → effect b t.steps ≡ None
no-effect t c b same none =
    elim (option-known (effect b t.steps)) [
      | inl nothing ↦ nothing
      | inr (x, made) ↦
          absurd (none (contains-map (λ p. p.0) c.entries (b, x) (subst (λ es. Contains es (b, x)) (sym same) (effect-entries t.steps b x made))))
    ]

-- the first n transactions have no effect on a block without an entry there
last-none : (ts : History) (bs : List Batch) (n b : ℕ) → AreBatchesOf ts bs →
    ((j : ℕ) (c : Batch) → j < n → slice_get bs j ≡ Some c → Contains (map (λ p. p.0) c.entries) b → ⊥) → last_effect b (take n ts) ≡ None
last-none ts bs zero b are none = refl
last-none [] bs (suc n) b are none = refl
last-none (t ∷ ts) [] (suc n) b are none = absurd are
last-none (t ∷ ts) (c ∷ bs) (suc n) b are none =
    let rest : last_effect b (take n ts) ≡ None = last-none ts bs n b are.2 (λ j d below stands has. none (suc j) d (omega arith) stands has) in
    ap (later (effect b t.steps)) rest ∙ no-effect t c b are.1 (λ has. none 0 c (omega arith) refl has)

-- the last effect is a copy, if no later batch has an entry of the block
last-copy : (ts : History) (bs : List Batch) (n i b : ℕ) (v : List ℕ) (c : Batch) → AreBatchesOf ts bs → i < n → slice_get bs i ≡ Some c →
    Contains c.entries (b, Copy v) →
    ((j : ℕ) (d : Batch) → i < j → j < n → slice_get bs j ≡ Some d → Contains (map (λ p. p.0) d.entries) b → ⊥) →
    last_effect b (take n ts) ≡ Some (Copy v)
last-copy ts bs zero i b v c are below stands copy none = absurd (omega arith)
last-copy [] [] (suc n) i b v c are below stands copy none = absurd (none-some c stands)
last-copy [] (d ∷ bs) (suc n) i b v c are below stands copy none = absurd are
last-copy (t ∷ ts) [] (suc n) i b v c are below stands copy none = absurd are
last-copy (t ∷ ts) (d ∷ bs) (suc n) zero b v c are below stands copy none =
    let rest : last_effect b (take n ts) ≡ None =
    last-none ts bs n b are.2 (λ j x less at has. none (suc j) x (omega arith) (omega arith) at has) in
    let same : c.entries ≡ entries t.steps = sym (ap (λ (x : Batch). x.entries) (same_Some d c stands)) ∙ are.1 in
    ap (later (effect b t.steps)) rest ∙ batch-effect t c b (Copy v) same copy
last-copy (t ∷ ts) (d ∷ bs) (suc n) (suc i) b v c are below stands copy none =
    ap (later (effect b t.steps))
    (last-copy ts bs n i b v c are.2 (omega arith) stands copy (λ j x behind less at has. none (suc j) x (omega arith) (omega arith) at has))

-- a newest committed copy is the one that the committed transactions leave
pub newest-after : (e : Engine) (ts : History) (i b : ℕ) (v : List ℕ) → AreBatchesOf ts e.accepted → IsNewestCopy e i b v → IsCommittedCopy ts e.committed b v
newest-after e ts i b v are newest =
    ap content_of (last-copy ts e.accepted e.committed i b v newest.copy.batch are newest.copy.committed newest.copy.stands newest.copy.copy newest.last)

-- a home that stays as it is adds nothing
pub adds-none : (may : Addition) (old new : Disk) → ((b : ℕ) → new Home b ≡ old Home b) → HomeAddsOnly may old new
adds-none may old new same = record {
  reads = λ b. inl (ap (λ (c : Cell). c.reads) (same b));
  left = λ b v one. inl (subst (λ (c : Cell). IsOneOf (held c) v) (same b) one);
}

-- a write adds its bytes
pub adds-written : (may : Addition) (disk : Disk) (b : ℕ) (v : List ℕ) → may b v → HomeAddsOnly may disk (written disk Home b v)
adds-written may disk b v adds = record {
  reads = λ m. elim (cases_eq m b) [
    | inl same ↦
        let here : (written disk Home b v Home m).reads ≡ v = ap (λ (c : Cell). c.reads) (put-there b m _ (disk Home m) same) in
        inr (subst (may m) (sym here) (subst (λ n. may n v) (sym same) adds))
    | inr other ↦ inl (ap (λ (c : Cell). c.reads) (put-other b m _ (disk Home m) other))
  ];
  left = λ m w one. elim (cases_eq m b) [
    | inl same ↦
        let cases : (w ≡ v) ⊎ IsOneOf (held (disk Home b)) w = subst (λ (c : Cell). IsOneOf (held c) w) (put-there b m _ (disk Home m) same) one in
        elim cases [
          | inl is ↦ inr (subst (may m) (sym is) (subst (λ n. may n v) (sym same) adds))
          | inr was ↦ inl (rw same was)
        ]
    | inr other ↦ inl (subst (λ (c : Cell). IsOneOf (held c) w) (put-other b m _ (disk Home m) other) one)
  ];
}

-- a failed write that was handed over adds its bytes
adds-handed_over : (may : Addition) (disk : Disk) (b : ℕ) (v : List ℕ) → may b v → HomeAddsOnly may disk (handed_over disk Home b v)
adds-handed_over may disk b v adds = record {
  reads = λ m. elim (cases_eq m b) [
    | inl same ↦ inl (ap (λ (c : Cell). c.reads) (put-there b m _ (disk Home m) same) ∙ ap (λ n. (disk Home n).reads) (sym same))
    | inr other ↦ inl (ap (λ (c : Cell). c.reads) (put-other b m _ (disk Home m) other))
  ];
  left = λ m w one. elim (cases_eq m b) [
    | inl same ↦
        let cases : (w ≡ (disk Home b).reads) ⊎ ((w ≡ v) ⊎ IsOneOf (disk Home b).others w) =
        subst (λ (c : Cell). IsOneOf (held c) w) (put-there b m _ (disk Home m) same) one in
        elim cases [
          | inl reads ↦ inl (rw same (inl reads))
          | inr (inl is) ↦ inr (subst (may m) (sym is) (subst (λ n. may n v) (sym same) adds))
          | inr (inr was) ↦ inl (rw same (inr was))
        ]
    | inr other ↦ inl (subst (λ (c : Cell). IsOneOf (held c) w) (put-other b m _ (disk Home m) other) one)
  ];
}

-- a flush of home adds nothing
pub adds-flushed : (may : Addition) (disk : Disk) → HomeAddsOnly may disk (flushed disk Home)
adds-flushed may disk = record { reads = λ b. inl refl; left = λ b v one. held-flush b v one }
  where
    held-flush : (b : ℕ) (v : List ℕ) → IsOneOf (held (flushed disk Home Home b)) v → IsOneOf (held (disk Home b)) v ⊎ may b v
    held-flush b v (inl is) = inl (inl is)
    held-flush b v (inr none) = absurd none

-- a call of a round that succeeds adds newest copies alone
call-adds : (may : Addition) (e : Engine) (round : Round) (call : Call) (new : Engine) (disk : Disk) →
    ((i b : ℕ) (v : List ℕ) → IsNewestCopy e i b v → may b v) → RoundCall e round call new → HomeAddsOnly may disk (after_success call disk)
call-adds may e round call new disk adds (CopyHome transaction block i b v next) = adds-written may disk b v (adds i b v next.unwritten.pending.newest)
call-adds may e round call new disk adds (FlushHome transaction block none) = adds-flushed may disk
call-adds may e round call new disk adds WriteTail = adds-none may disk _ (λ b. refl)
call-adds may e round call new disk adds FlushTail = adds-none may disk _ (λ b. refl)

-- a write that failed adds its bytes at most
pub write-adds : (may : Addition) (b : ℕ) (v : List ℕ) (old new : Disk) → may b v → IsAfterFault (Write Home b v) old new → HomeAddsOnly may old new
write-adds may b v old new adds (Undone call x y same) = adds-none may old new (λ m. ap (λ (d : Disk). d Home m) same)
write-adds may b v old new adds (Whole a m w x y same) = subst (λ (d : Disk). HomeAddsOnly may old d) (sym same) (adds-written may old b v adds)
write-adds may b v old new adds (HandedOver a m w x y same) = subst (λ (d : Disk). HomeAddsOnly may old d) (sym same) (adds-handed_over may old b v adds)

-- a failed call of a round adds newest copies at most
fault-adds : (may : Addition) (e : Engine) (round : Round) (call : Call) (new : Engine) (disk after : Disk) →
    ((i b : ℕ) (v : List ℕ) → IsNewestCopy e i b v → may b v) → RoundCall e round call new → IsAfterFault call disk after → HomeAddsOnly may disk after
fault-adds may e round call new disk after adds (CopyHome transaction block i b v next) fault =
    write-adds may b v disk after (adds i b v next.unwritten.pending.newest) fault
fault-adds may e round call new disk after adds (FlushHome transaction block none) fault = adds-none may disk after (flush-same disk after fault)
  where
    flush-same : (old new : Disk) → IsAfterFault (Flush Home) old new → (b : ℕ) → new Home b ≡ old Home b
    flush-same old new (Undone call x y same) b = ap (λ (d : Disk). d Home b) same
fault-adds may e round call new disk after adds WriteTail fault = adds-none may disk after (λ b. fault-same _ disk after b refl fault)
fault-adds may e round call new disk after adds FlushTail fault = adds-none may disk after (λ b. fault-same _ disk after b refl fault)

-- a round that begins commits nothing
begun-newest : (e : Engine) (round : Round) (i b : ℕ) (v : List ℕ) → IsNewestCopy (begun_from e round) i b v → IsNewestCopy e i b v
begun-newest e NoRound i b v newest = newest-of (begun_from e NoRound) e i b v refl refl newest
begun-newest e (Copies transaction block) i b v newest = newest
begun-newest e TailWrite i b v newest = newest
begun-newest e TailFlush i b v newest = newest

-- a step of a round adds newest copies alone
pub round-adds : (may : Addition) (old new : Engine) (disk after : Disk) → ((i b : ℕ) (v : List ℕ) → IsNewestCopy old i b v → may b v) →
    RoundSteps old disk new after → HomeAddsOnly may disk after
round-adds may old new disk after adds step =
    subst (λ (d : Disk). HomeAddsOnly may disk d) (sym step.disk_is)
    (call-adds may (begun old) (begun old).round step.call new disk (λ i b v newest. adds i b v (begun-newest old old.round i b v newest)) step.due)

-- a failed step of a round adds newest copies alone
pub round-fault-adds : (may : Addition) (old new : Engine) (disk after : Disk) → ((i b : ℕ) (v : List ℕ) → IsNewestCopy old i b v → may b v) →
    RoundFaults old disk new after → HomeAddsOnly may disk after
round-fault-adds may old new disk after adds fault =
    fault-adds may (begun old) (begun old).round fault.call fault.stepped disk after
    (λ i b v newest. adds i b v (begun-newest old old.round i b v newest)) fault.due fault.disk_is

-- a step of a round adds copies that the committed transactions leave
pub round-home : (old new : Engine) (disk after : Disk) → RoundSteps old disk new after → CopiesHome old disk after
round-home old new disk after step = record {
  adds = λ ts are. round-adds (IsCommittedCopy ts old.committed) old new disk after (λ i b v newest. newest-after old ts i b v are newest) step;
}

-- a failed step of a round does the same
pub round-fault-home : (old new : Engine) (disk after : Disk) → RoundFaults old disk new after → CopiesHome old disk after
round-fault-home old new disk after fault = record {
  adds = λ ts are. round-fault-adds (IsCommittedCopy ts old.committed) old new disk after (λ i b v newest. newest-after old ts i b v are newest) fault;
}

-- a step that keeps home adds no copy
pub keeps-copies : (e : Engine) (old new : Disk) → KeepsHome old new → CopiesHome e old new
keeps-copies e old new keeps = record { adds = λ ts are. adds-none (IsCommittedCopy ts e.committed) old new keeps.same }
