-- Each value at home was held at the opening, handed over by a direct write since, or is a copy in a committed
-- transaction.
use Rattle.std.proofs.Common.{refl, sym, ◌∙◌, ap, subst, arith, inl, inr, ⊎_elim}
use Rattle.std.specs.Prelude.{◌≡◌, ◌⊎◌, ℕ, zero, suc, ◌<◌, ◌≤◌, true, List, [], ◌∷◌, length, Some, slice_get, Contains}
use Rattle.std.proofs.lemmas.Option.{none-some, same_Some, slice_get_within}
use Rattle.journal_model.proofs.Effects.{entries-effect}
use Rattle.journal_model.proofs.ListElements.{get-front}
use Rattle.journal_model.specs.declared.entry.Batch.{Batch}
use Rattle.journal_model.specs.declared.entry.Entry.{Entry}
use Rattle.journal_model.specs.declared.entry.Entry.TheVariants.{Copy}
use Rattle.journal_model.specs.declared.number.Area.TheVariants.{Home}
use Rattle.journal_model.specs.Disk.{Disk, Image, IsOneOf, Leaves, held}
use Rattle.log_model.specs.HomeChange.{Addition, HomeAddsOnly, IsRightlyHeld, OthersRightlyHeld}
use Rattle.log_model.specs.HomeChange.IsRightlyHeld.{FromCopy, FromDirectWrite, FromOpening}
use Rattle.journal_model.specs.Transaction.{History, Transaction, entries}
use Rattle.journal_world.specs.Checkpoint.{HasCommittedCopy, IsNewestCopy, RoundFaults, RoundSteps}
use Rattle.journal_world.specs.Engine.{Accepts, AreBatchesOf, CommitFaults, CommitSteps, Engine}
use Rattle.journal_world.proofs.HomeCopies.{adds-none, round-adds, round-fault-adds}
use Rattle.journal_world.proofs.Homes.{fault-home, step-home}
use Rattle.journal_world.proofs.Onward.{GoesOn, aborted-on, fault-on, round-fault-on, round-on, step-on}
use Rattle.journal_world.proofs.Pending.{copy-of}

-- some committed transaction copies the block as these bytes
pub record IsOwnCopy (e : Engine) (b : ℕ) (v : List ℕ) : Type 0 where
  pub i : ℕ
  pub copy : HasCommittedCopy e i b v

-- a direct write of these hands it over, or a committed transaction copies it
abbrev pub IsOwn : List (ℕ × List ℕ) → Engine → Addition
IsOwn directs e b v = IsOneOf directs (b, v) ⊎ IsOwnCopy e b v

-- each value at home was held at the opening, or is such a value
pub record HomeRight (opening : Disk) (directs : List (ℕ × List ℕ)) (e : Engine) (disk : Disk) : Type 0 where
  pub each : (b : ℕ) (v : List ℕ) → IsOneOf (held (disk Home b)) v → IsOneOf (held (opening Home b)) v ⊎ IsOwn directs e b v

-- home is so at the opening
pub right-first : (opening : Disk) (directs : List (ℕ × List ℕ)) (e : Engine) → HomeRight opening directs e opening
right-first opening directs e = record { each = λ b v one. inl one }

-- home stays so over a change that adds such values alone
pub right-on : (opening : Disk) (directs more : List (ℕ × List ℕ)) (old new : Engine) (disk after : Disk) →
    ((b : ℕ) (v : List ℕ) → IsOwn directs old b v → IsOwn more new b v) → HomeAddsOnly (IsOwn more new) disk after → HomeRight opening directs old disk →
    HomeRight opening more new after
right-on opening directs more old new disk after stay adds right = record {
  each = λ b v one.
      ⊎_elim
      (λ was. ⊎_elim (λ first. inl first) (λ own. inr (stay b v own)) (right.each b v was))
      (λ own. inr own)
      (adds.left b v one);
}

-- an engine that goes on keeps its copies
own-on : (old new : Engine) → GoesOn old new → (b : ℕ) (v : List ℕ) → IsOwnCopy old b v → IsOwnCopy new b v
own-on old new on b v own = record { i = own.i; copy = copy-of old new own.i b v on.accepted on.committed own.copy }

-- an engine that takes a batch keeps its copies
own-taken : (old new : Engine) (c : Batch) → Accepts old c new → (b : ℕ) (v : List ℕ) → IsOwnCopy old b v → IsOwnCopy new b v
own-taken old new c accepts b v own =
    let within : own.i < length old.accepted = slice_get_within old.accepted own.i own.copy.batch own.copy.stands in
    record {
      i = own.i;
      copy = subst (λ (e : Engine). HasCommittedCopy e own.i b v) (sym accepts.after) (record {
        batch = own.copy.batch;
        committed = own.copy.committed;
        stands = get-front old.accepted (c ∷ []) own.i within ∙ own.copy.stands;
        copy = own.copy.copy;
      });
    }

-- home stays so if the engine goes on without a direct write
pub right-going : (opening : Disk) (directs : List (ℕ × List ℕ)) (old new : Engine) (disk after : Disk) → GoesOn old new →
    HomeAddsOnly (IsOwn directs new) disk after → HomeRight opening directs old disk → HomeRight opening directs new after
right-going opening directs old new disk after on adds right =
    right-on opening directs directs old new disk after (λ b v own. ⊎_elim (λ direct. inl direct) (λ copy. inr (own-on old new on b v copy)) own) adds right

-- home stays so over a batch that is taken
pub taken-right : (opening : Disk) (directs : List (ℕ × List ℕ)) (old new : Engine) (c : Batch) (disk : Disk) → Accepts old c new →
    HomeRight opening directs old disk → HomeRight opening directs new disk
taken-right opening directs old new c disk accepts right =
    right-on opening directs directs old new disk disk (λ b v own. ⊎_elim (λ direct. inl direct) (λ copy. inr (own-taken old new c accepts b v copy)) own)
    (adds-none (IsOwn directs new) disk disk (λ b. refl)) right

-- home stays so over a step of a commit
pub step-right : (opening : Disk) (directs : List (ℕ × List ℕ)) (old new : Engine) (disk after : Disk) → CommitSteps old disk new after →
    HomeRight opening directs old disk → HomeRight opening directs new after
step-right opening directs old new disk after step right =
    right-going opening directs old new disk after (step-on old new disk after step)
    (adds-none (IsOwn directs new) disk after (step-home old new disk after step).same) right

-- home stays so over a failed step of a commit
pub fault-right : (opening : Disk) (directs : List (ℕ × List ℕ)) (old new : Engine) (disk after : Disk) → CommitFaults old disk new after →
    HomeRight opening directs old disk → HomeRight opening directs new after
fault-right opening directs old new disk after fault right =
    right-going opening directs old new disk after (fault-on old new disk after fault)
    (adds-none (IsOwn directs new) disk after (fault-home old new disk after fault).same) right

-- home stays so if the engine is aborted without a change of the disk
pub abort-right : (opening : Disk) (directs : List (ℕ × List ℕ)) (e : Engine) (disk : Disk) → HomeRight opening directs e disk →
    HomeRight opening directs (record e { aborted = true }) disk
abort-right opening directs e disk right =
    right-going opening directs e (record e { aborted = true }) disk disk (aborted-on e)
    (adds-none (IsOwn directs (record e { aborted = true })) disk disk (λ b. refl)) right

-- the copies that a round adds are such values
round-own : (directs : List (ℕ × List ℕ)) (old new : Engine) → GoesOn old new → (i b : ℕ) (v : List ℕ) → IsNewestCopy old i b v → IsOwn directs new b v
round-own directs old new on i b v newest = inr (own-on old new on b v (record { i = i; copy = newest.copy }))

-- home stays so over a step of a round
pub round-right : (opening : Disk) (directs : List (ℕ × List ℕ)) (old new : Engine) (disk after : Disk) → RoundSteps old disk new after →
    HomeRight opening directs old disk → HomeRight opening directs new after
round-right opening directs old new disk after step right =
    let on : GoesOn old new = round-on old new disk after step in
    right-going opening directs old new disk after on (round-adds (IsOwn directs new) old new disk after (round-own directs old new on) step) right

-- home stays so over a failed step of a round
pub round-fault-right : (opening : Disk) (directs : List (ℕ × List ℕ)) (old new : Engine) (disk after : Disk) → RoundFaults old disk new after →
    HomeRight opening directs old disk → HomeRight opening directs new after
round-fault-right opening directs old new disk after fault right =
    let on : GoesOn old new = round-fault-on old new disk after fault in
    right-going opening directs old new disk after on (round-fault-adds (IsOwn directs new) old new disk after (round-own directs old new on) fault) right

-- a transaction that has this batch
record HasBatch (t : Transaction) (c : Batch) : Type 0 where
  entries_are : c.entries ≡ entries t.steps

-- the transaction of the batch at a place stands at that place
batch-transaction : (ts : History) (bs : List Batch) (i : ℕ) (c : Batch) → AreBatchesOf ts bs → slice_get bs i ≡ Some c →
    (t : Transaction) × (slice_get ts i ≡ Some t) × HasBatch t c
batch-transaction [] [] i c are stands = absurd (none-some c stands)
batch-transaction [] (d ∷ bs) i c are stands = absurd are
batch-transaction (t ∷ ts) [] i c are stands = absurd are
batch-transaction (t ∷ ts) (d ∷ bs) zero c are stands =
    (t, refl, record { entries_are = sym (ap (λ (x : Batch). x.entries) (same_Some d c stands)) ∙ are.1 })
batch-transaction (t ∷ ts) (d ∷ bs) (suc i) c are stands = batch-transaction ts bs i c are.2 stands

-- such a value is permitted, once as many transactions are opened
own-right : (e : Engine) (opening : Disk) (directs : List (ℕ × List ℕ)) (ts : History) (n b : ℕ) (v : List ℕ) → e.committed ≤ n →
    AreBatchesOf ts e.accepted → IsOwn directs e b v → IsRightlyHeld opening directs ts n b v
own-right e opening directs ts n b v least are (inl direct) = FromDirectWrite direct
own-right e opening directs ts n b v least are (inr own) =
    let (t, stands, has) = batch-transaction ts e.accepted own.i own.copy.batch are own.copy.stands in
    let below : own.i < e.committed = own.copy.committed in
    let copies : Contains (entries t.steps) (b, Copy v) = subst (λ (es : List (ℕ × Entry)). Contains es (b, Copy v)) has.entries_are own.copy.copy in
    FromCopy own.i t (omega arith) stands (entries-effect t.steps b (Copy v) copies)

-- a crash leaves permitted values
pub rightly-left : (e : Engine) (count n : ℕ) (ts : History) (opening : Disk) (directs : List (ℕ × List ℕ)) (disk : Disk) (image : Image) →
    HomeRight opening directs e disk → e.committed ≤ n → AreBatchesOf ts e.accepted → Leaves disk image →
    OthersRightlyHeld count opening directs ts n (image Home)
rightly-left e count n ts opening directs disk image right least are leaves b below direct =
    ⊎_elim
    (λ was. FromOpening was)
    (λ own. own-right e opening directs ts n b (image Home b) least are own)
    (right.each b (image Home b) (leaves.each Home b))
