-- The ledger keeps the machine's pending copies, at first and over steps that change none.
use Rattle.std.proofs.Common.{refl, sym, ◌∙◌, ap, subst, arith, inl, inr}
use Rattle.std.specs.Prelude.{◌≡◌, ◌≢◌, ℕ, zero, suc, ◌+◌, ◌<◌, ◌≤◌, nat_le, List, [], ◌∷◌, length, filter, take, true, None, slice_get, Contains}
use Rattle.std.proofs.lemmas.List.{take-append-le}
use Rattle.std.proofs.lemmas.Option.{none-some}
use Rattle.journal_model.specs.declared.entry.Batch.{Batch}
use Rattle.journal_model.specs.Disk.{Shape}
use Rattle.journal_model.proofs.ListElements.{contains-none, get-front}
use Rattle.checkpoint.specs.Pending.{ArePending, PendingValue, newest_of}
use Rattle.journal_world.specs.declared.round.Round.{Round}
use Rattle.journal_world.specs.declared.round.Round.TheVariants.{Idle as NoRound, TailWrite, TailFlush}
use Rattle.journal_world.specs.declared.stage.Stage.{Stage}
use Rattle.journal_world.specs.declared.stage.Stage.TheVariants.{Idle, SuperblockWrite, SuperblockFlush, Blocks, CommitWrite, CommitFlush}
use Rattle.journal_world.specs.Checkpoint.{IsFrom, begun_from}
use Rattle.journal_world.specs.Engine.{Engine, accepting, stepped, stepped_from}
use Rattle.journal_world.specs.Journal.{fresh_engine}
use Rattle.journal_world.specs.Sound.{position}
use Rattle.log_ledger.specs.Ledger.{IsStillUnwritten, KeepsPending}
use Rattle.log_ledger.proofs.PendingSame.{AgreesOnPending, keeps-over, still-over}
pub use Rattle.log_ledger.proofs.PendingCommits.{done-keeps, may-commit}
pub use Rattle.log_ledger.proofs.PendingRounds.{flushed-keeps, next-copy, none-left, released-keeps, wrote-keeps}

-- at first nothing is pending
pub fresh-keeps : (shape : Shape) (superblock : List ℕ) (next : ℕ) (p : PendingValue) → ((b : ℕ) → newest_of p b ≡ None) → p.queue ≡ [] →
    p.unwritten ≡ [] → p.room ≡ (fresh_engine shape superblock next).ring.blocks → ArePending p → KeepsPending (fresh_engine shape superblock next) p
fresh-keeps shape superblock next p newest queue unwritten room kept =
    none-keeps (fresh_engine shape superblock next) refl room
  where
    -- no key is among them
    none-queued : (t b : ℕ) → Contains p.queue (t, b) → ⊥
    none-queued t b has = contains-none (t, b) (subst (λ xs. Contains xs (t, b)) queue has)

    none-unwritten : (t b : ℕ) → Contains p.unwritten (t, b) → ⊥
    none-unwritten t b has = contains-none (t, b) (subst (λ xs. Contains xs (t, b)) unwritten has)

    -- they are all copies of an engine that has committed nothing
    none-keeps : (e : Engine) → e.committed ≡ 0 → p.room ≡ e.ring.blocks → KeepsPending e p
    none-keeps e none size = record {
      kept = kept;
      room = size;
      placed = λ b v here. absurd (none-some v (sym (newest b) ∙ here));
      all = λ i b bytes pending. let below : i < e.committed = pending.newest.copy.committed in absurd (omega arith);
      unwritten_only = λ i b has. absurd (none-unwritten (e.first + i) b has);
      unwritten_all = λ i b bytes pending still. let below : i < e.committed = pending.newest.copy.committed in absurd (omega arith);
      numbers = λ t b has. absurd (none-queued t b has);
      used =
          λ i low high.
          let at_first : 0 ≡ i = omega arith in
          let few : length (filter (λ x. nat_le (e.first + i) x.0) p.queue) ≡ 0 = ap (λ xs. length (filter (λ x. nat_le (e.first + i) x.0) xs)) queue in
          let at : position e i ≡ position e 0 = ap (position e) (sym at_first) in
          let start : position e 0 ≤ e.start = omega arith in
          omega arith;
    }

-- an engine with the same transactions, whose round is as far, agrees
same-agrees : (e f : Engine) → f.accepted ≡ e.accepted → f.round ≡ e.round → f.bound ≡ e.bound → AgreesOnPending e f
same-agrees e f accepted round bound = record {
  each = λ j below. ap (λ (bs : List Batch). slice_get bs j) accepted;
  front = λ i fits. ap (take i) accepted;
  only = λ i b still. still-over e f f.round i b bound (subst (λ (r : Round). IsStillUnwritten e r i b) (sym round) still);
  all = λ i b still. subst (λ (r : Round). IsStillUnwritten e r i b) round (still-over f e f.round i b (sym bound) still);
}

-- a batch that is handed over changes nothing
pub takes-keeps : (e : Engine) (b : Batch) (p : PendingValue) → length e.accepted ≡ e.committed → KeepsPending e p → KeepsPending (accepting e b) p
takes-keeps e b p all keeps =
    keeps-over e (accepting e b) (record {
      each = λ j below. get-front e.accepted (b ∷ []) j (omega arith);
      front = λ i fits. take-append-le i e.accepted (b ∷ []) (omega arith);
      only = λ i c still. still-over e (accepting e b) e.round i c refl still;
      all = λ i c still. still-over (accepting e b) e e.round i c refl still;
    }) p keeps

-- a step of a commit before the last changes nothing
pub steps-keeps : (e : Engine) (p : PendingValue) → e.stage ≢ CommitFlush → KeepsPending e p → KeepsPending (stepped e) p
steps-keeps e p before keeps = from e.stage before
  where
    -- at each stage but the last
    from : (stage : Stage) → stage ≢ CommitFlush → KeepsPending (stepped_from e stage) p
    from Idle before = keeps
    from SuperblockWrite before =
        keeps-over e (stepped_from e SuperblockWrite) (same-agrees e (stepped_from e SuperblockWrite) refl refl refl) p keeps
    from SuperblockFlush before =
        keeps-over e (stepped_from e SuperblockFlush) (same-agrees e (stepped_from e SuperblockFlush) refl refl refl) p keeps
    from (Blocks k) before = keeps-over e (stepped_from e (Blocks k)) (same-agrees e (stepped_from e (Blocks k)) refl refl refl) p keeps
    from CommitWrite before = keeps-over e (stepped_from e CommitWrite) (same-agrees e (stepped_from e CommitWrite) refl refl refl) p keeps
    from CommitFlush before = absurd (before refl)

-- a failure changes nothing
pub aborted-keeps : (e : Engine) (p : PendingValue) → KeepsPending e p → KeepsPending (record e { aborted = true }) p
aborted-keeps e p keeps = keeps-over e (record e { aborted = true }) (same-agrees e (record e { aborted = true }) refl refl refl) p keeps

-- the beginning of a round changes nothing
pub begun-keeps : (e : Engine) (p : PendingValue) → e.round ≡ NoRound → KeepsPending e p → KeepsPending (begun_from e NoRound) p
begun-keeps e p none keeps =
    keeps-over e (begun_from e NoRound) (record {
      each = λ j below. refl;
      front = λ i fits. refl;
      only = λ i b still. inr (from-first i b);
      all = λ i b still. subst (λ (r : Round). IsStillUnwritten e r i b) (sym none) tt;
    }) p keeps
  where
    -- each copy is from the first one on
    from-first : (i b : ℕ) → IsFrom 0 0 i b
    from-first zero b = inr (refl, omega arith)
    from-first (suc i) b = inl (omega arith)

-- the write of the superblock changes nothing
pub tail-keeps : (e : Engine) (p : PendingValue) (superblock : List ℕ) → e.round ≡ TailWrite → KeepsPending e p →
    KeepsPending (record e { superblock = superblock; round = TailFlush }) p
tail-keeps e p superblock write keeps =
    keeps-over e (record e { superblock = superblock; round = TailFlush }) (record {
      each = λ j below. refl;
      front = λ i fits. refl;
      only = λ i b still. subst (λ (r : Round). IsStillUnwritten e r i b) write still;
      all = λ i b still. subst (λ (r : Round). IsStillUnwritten e r i b) (sym write) still;
    }) p keeps
