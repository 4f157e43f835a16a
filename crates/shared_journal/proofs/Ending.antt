-- The end of a journal that threads shared is an end of its beginning.
use Rattle.std.specs.Prelude.{ℕ, Result, Ok, Err, MatchResult}
use Rattle.journal_model.specs.declared.refusal.JournalError.{JournalError}
use Rattle.journal_model.specs.Transaction.{History}
use Rattle.block_device.specs.State.{DeviceState}
use Rattle.handle.specs.Name.{JournalId}
use Rattle.log_epochs.specs.EngineWorld.{Phase}
use Rattle.log_epochs.specs.EngineWorld.Phase.{Closed, Shut}
use Rattle.journal_steps.specs.Values.{JournalValue}
use Rattle.group_commit.specs.Close.{CloseDid, EndsWith}
use Rattle.group_commit.specs.Close.CloseDid.{ClosesLog, StaysClean}
use Rattle.locked_journal.specs.Begun.{ComesFrom, IsEndOf}
use Rattle.locked_journal.proofs.Reaching.{reached-comes}
use Rattle.group_commit.specs.Closes.{IsClosedWell, IsNotClosed}

module _ {D : Type 0} (state : D → DeviceState) (honest : D → Type 0) (name : JournalId) (old : JournalValue D) (comes : ComesFrom state honest name old) where
  module _ (device : D) (sealed : History) (committed : ℕ) (back : honest device → honest old.device) where
    ends-with : (phase : Phase) → EndsWith old.journal (state old.device).disk sealed committed (state device).disk phase → honest device →
        IsEndOf name (state device).disk sealed
    ends-with phase e h = record {
      journal = e.last;
      phase = phase;
      reached = reached-comes name old.journal (state old.device).disk e.last (state device).disk phase (comes.reached (back h)) e.comes;
      sealed_is = e.sealed_is;
    }

    closed-ends : CloseDid old.journal (state old.device).disk sealed committed (state device).disk → honest device → IsEndOf name (state device).disk sealed
    closed-ends (ClosesLog e) h = ends-with Closed e h
    closed-ends (StaysClean none e) h = ends-with Shut e h

  -- Whatever a close answers.
  pub result-ends : {P : Type 0} (device : P → D) (sealed : P → History) (committed : P → ℕ) (r : Result P (P × JournalError)) →
      MatchResult r
      (λ p. IsClosedWell state honest old (device p) (sealed p) (committed p))
      (λ e. IsNotClosed state honest old (device e.0) (sealed e.0) (committed e.0) e.1) →
      MatchResult r
      (λ p. honest (device p) → IsEndOf name (state (device p)).disk (sealed p))
      (λ e. honest (device e.0) → IsEndOf name (state (device e.0)).disk (sealed e.0))
  result-ends device sealed committed (Ok p) did = closed-ends (device p) (sealed p) (committed p) did.left.honest_before did.moves
  result-ends device sealed committed (Err e) did = ends-with (device e.0) (sealed e.0) (committed e.0) did.left.honest_before Shut did.ends
