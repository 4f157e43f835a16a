-- Moves of the machine lead to each moment of an opening.
use Rattle.std.proofs.Common.{refl, ap, ◌∙◌}
use Rattle.std.specs.Prelude.{◌≡◌, List, [], ◌∷◌, ◌++◌, Option, Some, None}
use Rattle.journal_model.specs.Disk.{Disk, Image, reading}
use Rattle.journal_world.specs.Call.{Call, after_success}
use Rattle.log_epochs.specs.EngineWorld.{Phase}
use Rattle.log_epochs.specs.EngineWorld.Move.{Begin, OpeningFault, OpeningStep}
use Rattle.log_epochs.specs.EngineWorld.Phase.{Opening, Shut}
use Rattle.log_epochs.specs.Epoch.{Epoch, pinning, pinning_at}
use Rattle.log_epochs.specs.JournalWorld.{ComesTo, JournalWorld, Leads, Move, PinsAtMost}
use Rattle.log_epochs.specs.JournalWorld.Move.{Below}
use Rattle.log_epochs.specs.JournalWorld.PinsAtMost.{PinnedAt, Unpinned}
use Rattle.log_epochs.specs.OpeningRun.{Failed, IsFoundOn, IsMoment, Reached}
use Rattle.log_epochs.specs.OpeningRun.IsMoment.{At, Fault, Unread}
use Rattle.log_epochs.specs.OpeningRun.Reached.{Called, Tested}
use Rattle.log_epochs.specs.OpeningSteps.{Found, OpeningCall, OpeningStage}
use Rattle.log_epochs.specs.OpeningSteps.OpeningStage.{Copies, Done, LogFlush, SuperblockFlush, SuperblockWrite}
use Rattle.log_epochs.proofs.Leading.{leads-more}

-- a pin is not pinned again
pinned-once : (epoch : Option Epoch) (first second : Image) → pinning (pinning epoch first) second ≡ pinning epoch first
pinned-once None first second = refl
pinned-once (Some epoch) first second = refl

pinned-again : (old new : Option Epoch) (image : Image) → PinsAtMost old new → PinsAtMost old (pinning new image)
pinned-again old new image (Unpinned same) = PinnedAt image (ap (λ (e : Option Epoch). pinning e image) same)
pinned-again old new image (PinnedAt first same) = PinnedAt first (ap (λ (e : Option Epoch). pinning e image) same ∙ pinned-once old first image)

-- a call at most pins the epoch
step-pins : (stage : OpeningStage) (old new : Option Epoch) (image : Image) → PinsAtMost old new → PinsAtMost old (pinning_at stage new image)
step-pins LogFlush old new image pins = pinned-again old new image pins
step-pins Copies old new image pins = pins
step-pins SuperblockWrite old new image pins = pins
step-pins SuperblockFlush old new image pins = pins
step-pins Done old new image pins = pins

module _ (w : JournalWorld) (shut : w.below.phase ≡ Shut) where
  -- the world with this disk, phase and epoch
  abbrev at : Disk → Phase → Option Epoch → JournalWorld
  at disk phase epoch = record w { below = record w.below { disk = disk; phase = phase; epoch = epoch } }

  -- moves lead to an opening at this stage
  record ComesToStage (found : Found) (stage : OpeningStage) (disk : Disk) : Type 0 where
    pub epoch : Option Epoch
    pub pins : PinsAtMost w.below.epoch epoch
    pub moves : List Move
    pub leads : Leads w moves (at disk (Opening found stage) epoch)

  -- moves lead to its begin
  begins : (found : Found) → IsFoundOn w.below.shape found w.below.disk → ComesToStage found LogFlush w.below.disk
  begins found is = record {
    epoch = w.below.epoch;
    pins = Unpinned refl;
    moves = Below (Begin found) ∷ [];
    leads = (
      at w.below.disk (Opening found LogFlush) w.below.epoch,
      record { below = record { shut = shut; found_is = is; after = refl }; tells = record { told = refl; past = refl } },
      refl,
    );
  }

  -- moves lead over one more call
  goes-on : (found : Found) (stage next : OpeningStage) (call : Call) (disk new : Disk) → OpeningCall w.below.shape found disk stage call next → new ≡ after_success call disk →
      ComesToStage found stage disk → ComesToStage found next new
  goes-on found stage next call disk new due same before =
      let epoch = pinning_at stage before.epoch (reading disk) in
      let mid = at disk (Opening found stage) before.epoch in
      record {
        epoch = epoch;
        pins = step-pins stage w.below.epoch before.epoch (reading disk) before.pins;
        moves = before.moves ++ Below OpeningStep ∷ [];
        leads = leads-more w mid (at new (Opening found next) epoch) before.moves (Below OpeningStep) before.leads
            (record {
              below = record {
                found = found;
                stage = stage;
                next = next;
                opening = refl;
                call = call;
                due = due;
                after = ap (λ (d : Disk). (at d (Opening found next) epoch).below) same;
              };
              tells = record { told = refl; past = refl };
            });
      }

  -- moves lead to each disk that its calls reach
  reaches : (found : Found) (stage : OpeningStage) (disk : Disk) → IsFoundOn w.below.shape found w.below.disk → Reached w.below.shape found w.below.disk stage disk →
      ComesToStage found stage disk
  reaches found stage disk is Tested = begins found is
  reaches found stage disk is (Called before next call mid new calls due same) = goes-on found before next call mid new due same (reaches found before mid is calls)

  -- moves lead to its failed call
  fails : (found : Found) (disk : Disk) → IsFoundOn w.below.shape found w.below.disk → Failed w.below.shape found w.below.disk disk → ComesTo w disk
  fails found disk is failed =
      let before = reaches found failed.stage failed.disk is failed.reached in
      record {
        phase = Shut;
        epoch = before.epoch;
        pins = before.pins;
        moves = before.moves ++ Below OpeningFault ∷ [];
        leads = leads-more w (at failed.disk (Opening found failed.stage) before.epoch) (at disk Shut before.epoch) before.moves (Below OpeningFault) before.leads
            (record {
              below = record {
                found = found;
                stage = failed.stage;
                next = failed.next;
                opening = refl;
                call = failed.call;
                due = failed.due;
                disk_is = failed.fault;
                after = refl;
              };
              tells = record { told = refl; past = refl };
            });
      }

  -- moves lead to each moment of it
  pub moment-comes : (disk : Disk) → IsMoment w.below.shape w.below.disk disk → ComesTo w disk
  moment-comes disk (Unread same) = record {
    phase = w.below.phase;
    epoch = w.below.epoch;
    pins = Unpinned refl;
    moves = [];
    leads = ap (λ (d : Disk). at d w.below.phase w.below.epoch) same;
  }
  moment-comes disk (At found stage is calls) =
      let there = reaches found stage disk is calls in
      record { phase = Opening found stage; epoch = there.epoch; pins = there.pins; moves = there.moves; leads = there.leads }
  moment-comes disk (Fault found is failed) = fails found disk is failed
