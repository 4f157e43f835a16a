-- The close of the log after everything before it is the close of the journal.
use Rattle.std.proofs.Common.{subst, ◌∙◌}
use Rattle.std.specs.Prelude.{◌≡◌, ℕ, [], length}
use Rattle.journal_model.specs.declared.refusal.JournalError.{JournalError}
use Rattle.journal_model.specs.Disk.{Shape}
use Rattle.journal_model.specs.Transaction.{History}
use Rattle.block_device.specs.State.{DeviceState}
use Rattle.log_epochs.specs.EngineWorld.Phase.{Running, Shut}
use Rattle.log_epochs.specs.JournalPromise.{IsClosed}
use Rattle.journal_steps.specs.Journal.{OpensOver}
use Rattle.journal_steps.specs.Values.{JournalValue}
use Rattle.group_commit.specs.Calls.{CallsForTurns}
use Rattle.group_commit.specs.Close.{ComesTo, IsFinished}
use Rattle.group_commit.specs.Closes.{ClosedLog, IsClosedWell, IsLeft, IsNotClosed, LogIsClosed, LogIsNotClosed, WentTo}
use Rattle.group_commit.specs.During.{HoldsDuringTurns}
use Rattle.group_commit.proofs.Closed.{did-after, ends-after, log-refused}
use Rattle.group_commit.proofs.TurnMoments.{each-finished}

module _ {D : Type 0} (state : D → DeviceState) (honest : D → Type 0) (old mid : JournalValue D) (stopped : old.journal.front.open_handles ≡ [])
    (done : IsFinished state old mid) (path : ComesTo old.journal (state old.device).disk mid.journal (state mid.device).disk Running)
    (measures : mid.journal.engine.shape ≡ old.journal.engine.shape) (shape : (state mid.device).shape ≡ (state old.device).shape)
    (turns : CallsForTurns state old mid) (first : honest mid.device → HoldsDuringTurns state old mid) (back : honest mid.device → honest old.device)
    (device : D) (sealed : History) (committed : ℕ) where
  went-on : ClosedLog state honest mid device sealed committed → WentTo state honest old device sealed
  went-on made = record {
    calls = record { last = mid; turns = turns; agrees = made.agrees; sealed_is = made.sealed_is; closing = made.calls };
    moments = λ now. each-finished state old mid device done measures (first (made.left.honest_before now)) (made.moments now);
  }

  left-on : ClosedLog state honest mid device sealed committed → IsLeft state honest old device sealed committed
  left-on made = record {
    opens = λ now. subst (λ (s : Shape). OpensOver s sealed committed (length sealed) (state device).disk) measures (made.left.opens now);
    shape = made.left.shape ∙ shape;
    honest_before = λ now. back (made.left.honest_before now);
    legal = made.left.legal;
  }

  pub closes-well : LogIsClosed state honest mid device sealed committed → IsClosedWell state honest old device sealed committed
  closes-well did = record {
    stopped = stopped;
    running = done.was_running;
    all = did.made.sealed_is ∙ done.sealed;
    committed_all = did.committed_all;
    clean = λ now image leaves. subst (λ (s : Shape). IsClosed s sealed image) measures (did.clean now image leaves);
    moves = did-after state old mid sealed committed (state device).disk path did.moves;
    no_fault = did.no_fault ∙ done.faults;
    went = went-on did.made;
    left = left-on did.made;
  }

  pub closes-not : (e : JournalError) → LogIsNotClosed state honest mid device sealed committed e → IsNotClosed state honest old device sealed committed e
  closes-not e did = record {
    stopped = stopped;
    why = log-refused state old mid device sealed committed e done did.why did.made.sealed_is did.committed_is did.fault;
    ends = ends-after state old mid sealed committed (state device).disk Shut path did.ends;
    went = went-on did.made;
    left = left-on did.made;
  }
