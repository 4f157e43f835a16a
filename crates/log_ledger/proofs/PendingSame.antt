-- Engines that agree on a few parts keep the same pending copies.
use Rattle.std.proofs.Common.{sym, ◌∙◌, subst, arith, inl, inr}
use Rattle.std.specs.Prelude.{◌≡◌, ℕ, ◌+◌, ◌<◌, ◌≤◌, nat_le, List, length, filter, map, take, slice_get}
use Rattle.journal_model.specs.declared.entry.Batch.{Batch}
use Rattle.log_model.specs.Chain.{texts_blocks}
use Rattle.checkpoint.specs.Pending.{PendingValue}
use Rattle.journal_world.specs.declared.round.Round.{Round}
use Rattle.journal_world.specs.declared.round.Round.TheVariants.{Idle as NoRound, Copies, TailWrite, TailFlush}
use Rattle.journal_world.specs.Checkpoint.{IsPending}
use Rattle.journal_world.specs.Engine.{Engine, text_of}
use Rattle.log_ledger.specs.Ledger.{IsPlaced, IsStillUnwritten, KeepsPending}

-- with the same bound the same copies are still to be written
pub still-over : (e f : Engine) (round : Round) (i b : ℕ) → f.bound ≡ e.bound → IsStillUnwritten e round i b → IsStillUnwritten f round i b
still-over e f NoRound i b bound still = tt
still-over e f (Copies transaction block) i b bound (inl above) = inl (omega arith)
still-over e f (Copies transaction block) i b bound (inr from) = inr from
still-over e f TailWrite i b bound still = omega arith
still-over e f TailFlush i b bound still = omega arith

-- the engine f, but as far in the log as e
abbrev pub as_far : Engine → Engine → Engine
as_far e f =
    record f {
      shape = e.shape;
      layout = e.layout;
      ring = e.ring;
      uuid = e.uuid;
      first = e.first;
      committed = e.committed;
      start = e.start;
      released = e.released;
    }

-- the same transactions are committed, and the same copies still to be written
pub record AgreesOnPending (e f : Engine) : Type 0 where
  pub each : (j : ℕ) → j < e.committed → slice_get f.accepted j ≡ slice_get e.accepted j
  pub front : (i : ℕ) → i ≤ e.committed → take i f.accepted ≡ take i e.accepted
  pub only : (i b : ℕ) → IsStillUnwritten e e.round i b → IsStillUnwritten f f.round i b
  pub all : (i b : ℕ) → IsStillUnwritten f f.round i b → IsStillUnwritten e e.round i b

module _ (e f : Engine) (agrees : AgreesOnPending e f) where
  -- a pending copy is one in both
  pending-on : (i b : ℕ) (v : List ℕ) → IsPending e i b v → IsPending (as_far e f) i b v
  pending-on i b v pending = record {
    newest = record {
      copy = record {
        batch = pending.newest.copy.batch;
        committed = pending.newest.copy.committed;
        stands = agrees.each i pending.newest.copy.committed ∙ pending.newest.copy.stands;
        copy = pending.newest.copy.copy;
      };
      last = λ j later behind below stands has. pending.newest.last j later behind below (sym (agrees.each j below) ∙ stands) has;
    };
    unreleased = pending.unreleased;
  }

  -- and conversely
  pending-back : (i b : ℕ) (v : List ℕ) → IsPending (as_far e f) i b v → IsPending e i b v
  pending-back i b v pending = record {
    newest = record {
      copy = record {
        batch = pending.newest.copy.batch;
        committed = pending.newest.copy.committed;
        stands = sym (agrees.each i pending.newest.copy.committed) ∙ pending.newest.copy.stands;
        copy = pending.newest.copy.copy;
      };
      last = λ j later behind below stands has. pending.newest.last j later behind below (agrees.each j below ∙ stands) has;
    };
    unreleased = pending.unreleased;
  }

  -- at the same place
  placed-on : (i b k : ℕ) → IsPlaced e i b k → IsPlaced (as_far e f) i b k
  placed-on i b k placed = record {
    bytes = placed.bytes;
    pending = pending-on i b placed.bytes placed.pending;
    batch = placed.batch;
    stands = agrees.each i placed.pending.newest.copy.committed ∙ placed.stands;
    entry = placed.entry;
  }

  -- the same copies are kept
  pub keeps-over : (p : PendingValue) → KeepsPending e p → KeepsPending (as_far e f) p
  keeps-over p keeps = record {
    kept = keeps.kept;
    room = keeps.room;
    placed = λ b v newest. let found = keeps.placed b v newest in (found.0, found.1, placed-on found.0 b v.place found.2);
    all = λ i b bytes pending. keeps.all i b bytes (pending-back i b bytes pending);
    unwritten_only = λ i b has. agrees.only i b (keeps.unwritten_only i b has);
    unwritten_all = λ i b bytes pending still. keeps.unwritten_all i b bytes (pending-back i b bytes pending) (agrees.all i b still);
    numbers = keeps.numbers;
    used =
        λ i low high.
        subst (λ (bs : List Batch). length (filter (λ x. nat_le (e.first + i) x.0) p.queue) + length (texts_blocks (map (text_of e) bs)) ≤ e.start)
        (sym (agrees.front i high)) (keeps.used i low high);
  }
