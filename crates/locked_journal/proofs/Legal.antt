-- A record stays legal when both sides are reconciled, and after the step that follows.
use Rattle.std.proofs.Common.{sym, subst}
use Rattle.std.specs.Prelude.{◌≡◌, Option, Some, None, Result, Ok, Err, IfErr, IfOk}
use Rattle.journal_model.specs.declared.refusal.JournalError.{JournalError}
use Rattle.journal_model.specs.Disk.{Disk}
use Rattle.journal_model.specs.Record.{IsLegal}
use Rattle.block_device.specs.State.{DeviceState}
use Rattle.journal_world.specs.Front.{transactions}
use Rattle.journal_world.specs.Front.FrontEvent.{Raise}
use Rattle.journal_world.specs.Journal.{Journal}
use Rattle.journal_world.specs.Journal.Event.{AbortMark, Finish, FrontStep}
use Rattle.journal_steps.specs.declared.turn.Turn.{Turn}
use Rattle.journal_steps.specs.Journal.{SealDid, TurnRefused}
use Rattle.journal_steps.specs.Legal.{KeepsLegal}
use Rattle.journal_steps.specs.Values.{JournalValue}
use Rattle.journal_steps.proofs.LegalSteps.{legal-happens, refused-legal, same-legal, turn_of-legal}
use Rattle.locked_journal.specs.Sides.{CatchesUp, Finishes, Notifies}
use Rattle.locked_journal.specs.Sides.Finishes.{NoneFinished, OneFinished}
use Rattle.locked_journal.specs.Sides.Notifies.{NotNotified, Notified}

notifies-legal : (old : Journal) (disk : Disk) (new : Journal) → Notifies old disk new → IsLegal (transactions old.front) → IsLegal (transactions new.front)
notifies-legal old disk new (NotNotified same) legal = subst (λ (j : Journal). IsLegal (transactions j.front)) (sym same) legal
notifies-legal old disk new (Notified step) legal = legal-happens old disk AbortMark new disk step legal

finishes-legal : (old : Journal) (disk : Disk) (new : Journal) → Finishes old disk new → IsLegal (transactions old.front) → IsLegal (transactions new.front)
finishes-legal old disk new (NoneFinished same) legal = subst (λ (j : Journal). IsLegal (transactions j.front)) (sym same) legal
finishes-legal old disk new (OneFinished done finishes raises) legal =
    legal-happens done disk (FrontStep (Raise done.front.finished)) new disk raises (legal-happens old disk Finish done disk finishes legal)

-- The front catches up.
pub caught-legal : (old : Journal) (disk : Disk) (new : Journal) → CatchesUp old disk new → IsLegal (transactions old.front) → IsLegal (transactions new.front)
caught-legal old disk new caught legal = finishes-legal caught.notified disk new caught.finishes (notifies-legal old disk caught.notified caught.notifies legal)

-- A seal, whatever it answers.
pub seal-legal : {D : Type 0} (state : D → DeviceState) (honest : D → Type 0) (old new : JournalValue D) → (honest new.device → honest old.device) →
    KeepsLegal honest old → (r : Result (Option Turn) JournalError) → IfOk r (λ t. SealDid state t old new) → IfErr r (λ e. TurnRefused state old new e) →
    KeepsLegal honest new
seal-legal state honest old new back legal (Ok (Some turn)) ok err = turn_of-legal state honest old new back legal turn ok.1
seal-legal state honest old new back legal (Ok None) ok err = same-legal state honest old new back legal ok.1
seal-legal state honest old new back legal (Err e) ok err = refused-legal state honest old new back legal e err
