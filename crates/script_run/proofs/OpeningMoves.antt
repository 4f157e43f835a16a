-- Lemmas: the machine's moves at the stop of a run, and in an opening after it.
use Rattle.std.proofs.Common.{refl, subst}
use Rattle.std.specs.Prelude.{◌≡◌, ℕ, List, [], ◌∷◌, ◌++◌, Some, Option}
use Rattle.journal_model.specs.Disk.{Disk, Image, Leaves, Shape, disk_of}
use Rattle.block_device.specs.State.{DeviceState}
use Rattle.journal_world.specs.Journal.{Journal}
use Rattle.log_epochs.specs.EngineWorld.{Phase}
use Rattle.log_epochs.specs.EngineWorld.Move.{Stop}
use Rattle.log_epochs.specs.EngineWorld.Phase.{Shut}
use Rattle.log_epochs.specs.Epoch.{Epoch}
use Rattle.log_epochs.specs.JournalWorld.{ComesTo, JournalWorld, Leads, Move, PinsAtMost}
use Rattle.log_epochs.specs.JournalWorld.Move.{Below}
use Rattle.log_epochs.specs.JournalWorld.PinsAtMost.{PinnedAt, Unpinned}
use Rattle.log_epochs.specs.OpeningRun.{IsMoment}
use Rattle.script_client.specs.Told.{running_world}
use Rattle.log_epochs.proofs.Leading.{leads-after, leads-more}
use Rattle.log_epochs.proofs.OpeningMoments.{moment-comes}

-- the world after a stop that left this image, with this disk and phase now
abbrev pub stopped_world : (opening : Disk) → Journal → Shape → (directs : List (ℕ × List ℕ)) → (answered : List ℕ) → (pin : Image) → Disk → Phase → JournalWorld
stopped_world opening j shape directs answered pin disk phase = record {
  below = record {
    shape = shape;
    disk = disk;
    phase = phase;
    epoch = Some (record { opening = opening; engine = j.engine; directs = directs; pin = Some pin });
    ended = [];
  };
  told = record { front = j.front; answered = answered };
  past = [];
}

-- some moves lead to the world
pub record IsReached (start end : JournalWorld) : Type 0 where
  pub moves : List Move
  pub leads : Leads start moves end

-- the stop of the run
pub stop-reaches : (start : JournalWorld) (opening : Disk) (j : Journal) (state : DeviceState) (directs : List (ℕ × List ℕ)) (answered : List ℕ) (image : Image)
    → Leaves state.disk image → IsReached start (running_world opening j state directs answered)
    → IsReached start (stopped_world opening j state.shape directs answered image (disk_of image) Shut)
stop-reaches start opening j state directs answered image leaves is = record {
  moves = is.moves ++ Below (Stop image) ∷ [];
  leads = leads-more start (running_world opening j state directs answered) (stopped_world opening j state.shape directs answered image (disk_of image) Shut) is.moves
      (Below (Stop image)) is.leads (record { below = record { leaves = leaves; after = refl }; tells = record { told = refl; past = refl } });
}

module _ (start : JournalWorld) (opening : Disk) (j : Journal) (shape : Shape) (directs : List (ℕ × List ℕ)) (answered : List ℕ) (pin : Image) where
  abbrev at : Disk → Phase → JournalWorld
  at disk phase = stopped_world opening j shape directs answered pin disk phase

  abbrev epoch_at : Epoch
  epoch_at = record { opening = opening; engine = j.engine; directs = directs; pin = Some pin }

  -- a pinned image stays pinned
  pinned-stays : (new : Option Epoch) → PinsAtMost (Some epoch_at) new → new ≡ Some epoch_at
  pinned-stays new (Unpinned same) = same
  pinned-stays new (PinnedAt image same) = same

  -- each moment of an opening is reached, in some phase
  pub record IsReachedNow (disk : Disk) : Type 0 where
    pub phase : Phase
    pub is : IsReached start (at disk phase)

  pub moment-reaches : (old disk : Disk) → IsMoment shape old disk → IsReached start (at old Shut) → IsReachedNow disk
  moment-reaches old disk moment reached =
      let comes : ComesTo (at old Shut) disk = moment-comes (at old Shut) refl disk moment in
      let stays = pinned-stays comes.epoch comes.pins in
      record {
        phase = comes.phase;
        is = record {
          moves = reached.moves ++ comes.moves;
          leads = leads-after start (at old Shut) (at disk comes.phase) reached.moves comes.moves reached.leads
              (subst (λ (e : Option Epoch). Leads (at old Shut) comes.moves (record (at old Shut) { below = record (at old Shut).below { disk = disk; phase = comes.phase; epoch = e } })) stays
              comes.leads);
        };
      }
