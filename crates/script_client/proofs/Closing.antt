-- Lemmas: what is left of a journal at its end.
use Rattle.std.proofs.Common.{ap, inl, inr, sym, subst, ◌∙◌}
use Rattle.std.specs.Prelude.{◌≡◌, ℕ, ◌++◌, List, Option, None}
use Rattle.journal_model.specs.declared.refusal.JournalError.{JournalError}
use Rattle.journal_model.specs.Disk.{Disk, Image, Leaves, Shape}
use Rattle.journal_model.specs.Transaction.{History, Transaction}
use Rattle.block_device.specs.State.{DeviceState}
use Rattle.journal_world.specs.Front.{Front}
use Rattle.journal_world.specs.Journal.{Journal}
use Rattle.log_epochs.specs.EngineWorld.{Phase}
use Rattle.log_epochs.specs.EngineWorld.Phase.{Closed, Running, Shut}
use Rattle.log_epochs.specs.JournalPromise.{IsClosed}
use Rattle.log_epochs.specs.JournalWorld.{JournalWorld, Leads}
use Rattle.log_epochs.proofs.Leading.{leads-after}
use Rattle.journal_steps.specs.Values.{JournalValue}
use Rattle.group_commit.specs.Close.{CloseDid, CloseRefused, EndsWith, IsSealedInClose, closing, with_running}
use Rattle.group_commit.specs.Close.CloseDid.{ClosesLog, StaysClean}
use Rattle.group_commit.specs.Close.CloseRefused.{CloseAborted, CloseFailed, NoMemory, NotReady}
use Rattle.journal_script.specs.declared.script.Operation.{Operation}
use Rattle.script_client.specs.Ended.{IsEnded, IsLeftClosed, world_in}
use Rattle.script_client.specs.Told.{HasLedTo, IsLedTo, running_world}

-- a journal that still runs is ended
pub led-ended : (Fact : Shape → Disk → Type 0) (operations : List Operation) (j : Journal) (state : DeviceState) (sealed : History) (shown : Option ℕ) → HasLedTo Fact operations j state shown
    → sealed ≡ j.front.sealed → IsEnded Fact operations state sealed shown
led-ended Fact operations j state sealed shown led is = record {
  opening = led.opening;
  fact = led.fact;
  start = led.start;
  begins = led.begins;
  moves = led.moves;
  journal = j;
  phase = Running;
  directs = led.directs;
  written = led.written;
  answered = led.answered;
  leads = led.leads;
  greatest = led.greatest;
  sealed_is = is;
}

pub to-ended : (Fact : Shape → Disk → Type 0) (operations : List Operation) (state : DeviceState) (sealed : History) (shown : Option ℕ) → IsLedTo Fact operations state sealed shown → IsEnded Fact operations state sealed shown
to-ended Fact operations state sealed shown to = led-ended Fact operations to.journal state sealed shown to.led to.sealed_is

-- a journal that moves of its own ended is ended
pub ends-ended : (Fact : Shape → Disk → Type 0) (operations : List Operation) (old : Journal) (before after : DeviceState) (sealed : History) (committed : ℕ) (shown : Option ℕ) (phase : Phase)
    → HasLedTo Fact operations old before shown → EndsWith old before.disk sealed committed after.disk phase → after.shape ≡ before.shape → IsEnded Fact operations after sealed shown
ends-ended Fact operations old before after sealed committed shown phase led ends shape =
    let world : JournalWorld = running_world led.opening old before led.directs led.answered in
    let end : Shape → JournalWorld =
    λ s. world_in phase led.opening ends.last (record { shape = s; disk = after.disk; past = after.past; faults = after.faults; calls = after.calls }) led.directs led.answered in
    let on : Leads world ends.comes.moves (end before.shape) = ends.comes.leads world (record { opening = led.opening; engine = old.engine; directs = led.directs; pin = None }) in
    record {
      opening = led.opening;
      fact = subst (λ (s : Shape). Fact s led.opening) (sym shape) led.fact;
      start = led.start;
      begins = led.begins;
      moves = led.moves ++ ends.comes.moves;
      journal = ends.last;
      phase = phase;
      directs = led.directs;
      written = led.written;
      answered = led.answered;
      leads =
          leads-after led.start world (end after.shape) led.moves ends.comes.moves led.leads
          (subst (λ (s : Shape). Leads world ends.comes.moves (end s)) (sym shape) on);
      greatest = led.greatest;
      sealed_is = ends.sealed_is;
    }

-- a closed journal is ended
pub close-ended : (Fact : Shape → Disk → Type 0) (operations : List Operation) (old : Journal) (before after : DeviceState) (sealed : History) (committed : ℕ) (shown : Option ℕ)
    → HasLedTo Fact operations old before shown → CloseDid old before.disk sealed committed after.disk → after.shape ≡ before.shape → IsEnded Fact operations after sealed shown
close-ended Fact operations old before after sealed committed shown led (ClosesLog ends) shape = ends-ended Fact operations old before after sealed committed shown Closed led ends shape
close-ended Fact operations old before after sealed committed shown led (StaysClean none ends) shape = ends-ended Fact operations old before after sealed committed shown Shut led ends shape

-- the log of a closed journal is clean, by the measures of its device
pub left-closed : (Fact : Shape → Disk → Type 0) (operations : List Operation) (old : Journal) (before after : DeviceState) (sealed : History) (shown : Option ℕ) → HasLedTo Fact operations old before shown
    → ((image : Image) → Leaves after.disk image → IsClosed old.engine.shape sealed image) → after.shape ≡ before.shape → IsLeftClosed after sealed
left-closed Fact operations old before after sealed shown led closed shape = record {
  each = λ image leaves. subst (λ (s : Shape). IsClosed s sealed image) (led.measures ∙ sym shape) (closed image leaves);
}

-- a refused close has sealed nothing, or what a close seals
pub refused-sealed : {D : Type 0} (state : D → DeviceState) (old : JournalValue D) (device : D) (sealed : History) (committed : ℕ) (e : JournalError)
    → CloseRefused state old device sealed committed e → IsSealedInClose old.journal.front sealed
refused-sealed state old device sealed committed e (CloseAborted aborted same is count) = inl is
refused-sealed state old device sealed committed e (CloseFailed running is count faults) = is
refused-sealed state old device sealed committed e (NotReady running joined same is count) = inl is
refused-sealed state old device sealed committed e (NoMemory running unsealed faults) = inl unsealed.same

-- `IsLedTo` holds for any weaker fact
pub led-weaker : (F G : Shape → Disk → Type 0) (operations : List Operation) (state : DeviceState) (sealed : History) (shown : Option ℕ) → ((s : Shape) (d : Disk) → F s d → G s d)
    → IsLedTo F operations state sealed shown → IsLedTo G operations state sealed shown
led-weaker F G operations state sealed shown less to = record {
  journal = to.journal;
  led = record {
    measures = to.led.measures;
    opening = to.led.opening;
    fact = less state.shape to.led.opening to.led.fact;
    start = to.led.start;
    begins = to.led.begins;
    moves = to.led.moves;
    directs = to.led.directs;
    written = to.led.written;
    answered = to.led.answered;
    leads = to.led.leads;
    greatest = to.led.greatest;
  };
  sealed_is = to.sealed_is;
}

pub ended-weaker : (F G : Shape → Disk → Type 0) (operations : List Operation) (state : DeviceState) (sealed : History) (shown : Option ℕ) → ((s : Shape) (d : Disk) → F s d → G s d)
    → IsEnded F operations state sealed shown → IsEnded G operations state sealed shown
ended-weaker F G operations state sealed shown less to = record {
  opening = to.opening;
  fact = less state.shape to.opening to.fact;
  start = to.start;
  begins = to.begins;
  moves = to.moves;
  journal = to.journal;
  phase = to.phase;
  directs = to.directs;
  written = to.written;
  answered = to.answered;
  leads = to.leads;
  greatest = to.greatest;
  sealed_is = to.sealed_is;
}

-- stopping handles changes nothing of what a close seals
pub closing-same : (old stopped : Front) → stopped.sealed ≡ old.sealed → stopped.running ≡ old.running → closing stopped ≡ closing old
closing-same old stopped sealed running =
    ap (λ (ts : History). with_running ts stopped.running stopped.running.handles) sealed ∙ ap (λ (t : Transaction). with_running old.sealed t t.handles) running

pub sealed-same : (old stopped : Front) (ts : History) → stopped.sealed ≡ old.sealed → stopped.running ≡ old.running → IsSealedInClose stopped ts → IsSealedInClose old ts
sealed-same old stopped ts sealed running (inl is) = inl (is ∙ sealed)
sealed-same old stopped ts sealed running (inr is) = inr (is ∙ closing-same old stopped sealed running)
