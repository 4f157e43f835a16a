-- An opening of a clean, good log can run to its end.
use Rattle.std.proofs.Common.{refl}
use Rattle.std.specs.Prelude.{◌≡◌, [], ◌∷◌, Some}
use Rattle.journal_model.specs.declared.number.Area.TheVariants.{Log}
use Rattle.journal_model.specs.Disk.{flushed, reading}
use Rattle.log_model.specs.Opening.{IsClean}
use Rattle.journal_world.specs.Opening.{cleaned}
use Rattle.log_epochs.specs.EngineWorld.{ComesToRun, World}
use Rattle.log_epochs.specs.EngineWorld.Move.{Begin, OpeningStep, AnswerOk}
use Rattle.log_epochs.specs.EngineWorld.Phase.{Shut, Opening, Running}
use Rattle.log_epochs.specs.Epoch.{ending, fresh_epoch, pinning}
use Rattle.log_epochs.specs.OpeningRun.{IsFoundOn}
use Rattle.log_epochs.specs.OpeningSteps.{Found, next_of}
use Rattle.log_epochs.specs.OpeningSteps.OpeningCall.{FlushClean}
use Rattle.log_epochs.specs.OpeningSteps.OpeningStage.{LogFlush, Done}

pub clean-runs : (w : World) (found : Found) → w.phase ≡ Shut → IsFoundOn w.shape found w.disk → IsClean w.shape found.image → ComesToRun w
clean-runs w found shut found_is clean =
    let begun : World = record w { phase = Opening found LogFlush } in
    let done : World = record begun { disk = flushed w.disk Log; phase = Opening found Done; epoch = pinning w.epoch (reading w.disk) } in
    let opened : World = record done {
      phase = Running;
      epoch = Some (fresh_epoch w.shape (cleaned (found.image Log 0) (next_of found)) (next_of found) done.disk);
      ended = ending done.epoch done.disk done.ended;
    } in
    record {
      moves = Begin found ∷ OpeningStep ∷ AnswerOk ∷ [];
      end = opened;
      leads = (
        begun,
        record { shut = shut; found_is = found_is; after = refl },
        (
          done,
          record { found = found; stage = LogFlush; next = Done; opening = refl; call = _; due = FlushClean clean; after = refl },
          (opened, record { found = found; opening = refl; after = refl }, refl),
        ),
      );
      running = refl;
    }
