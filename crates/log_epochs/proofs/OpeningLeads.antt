-- The calls of an opening are a run of moves, in any world.
use Rattle.std.proofs.Common.{refl, sym, ap, ap₂, subst, ◌∙◌, ⊎_elim}
use Rattle.std.specs.Prelude.{◌≡◌, ◌⊎◌, ℕ, ◌+◌, List, [], ◌∷◌, ◌++◌, replicate, Option}
use Rattle.std.proofs.lemmas.List.{append_assoc, replicate_more}
use Rattle.journal_model.specs.declared.number.Area.TheVariants.{Log}
use Rattle.journal_model.specs.Disk.{Disk, Image, Shape, reading}
use Rattle.journal_world.specs.Opening.{cleaned}
use Rattle.log_epochs.specs.EngineWorld.{Leads, LeadsToEngine, Move, Recovers, World, opened_world}
use Rattle.log_epochs.specs.EngineWorld.Move.{Begin, OpeningStep, AnswerOk}
use Rattle.log_epochs.specs.EngineWorld.Phase.{Shut, Opening}
use Rattle.log_epochs.specs.Epoch.{Epoch, pinning, pinning_at}
use Rattle.log_epochs.specs.OpeningRun.{IsFoundOn, Reached}
use Rattle.log_epochs.specs.OpeningRun.Reached.{Called, Tested}
use Rattle.log_epochs.specs.OpeningSteps.{Found, OpeningStage, next_of}
use Rattle.log_epochs.specs.OpeningSteps.OpeningStage.{LogFlush, Copies, SuperblockWrite, SuperblockFlush, Done}
use Rattle.log_epochs.proofs.Moments.{IsLater, call-later, reached-first}

-- the epoch at this stage: pinned from the flush of the log on
abbrev pinned_at : OpeningStage → Option Epoch → Image → Option Epoch
pinned_at LogFlush epoch image = epoch
pinned_at Copies epoch image = pinning epoch image
pinned_at SuperblockWrite epoch image = pinning epoch image
pinned_at SuperblockFlush epoch image = pinning epoch image
pinned_at Done epoch image = pinning epoch image

-- the world at this stage
abbrev opening_at : World → Found → OpeningStage → Disk → World
opening_at w found stage disk = record w { disk = disk; phase = Opening found stage; epoch = pinned_at stage w.epoch (reading w.disk) }

-- the first call pins what the old disk reads, and no later one pins
step-pins : (stage : OpeningStage) (epoch : Option Epoch) (old disk : Disk) → (disk ≡ old) ⊎ IsLater stage →
    pinning epoch (reading old) ≡ pinning_at stage (pinned_at stage epoch (reading old)) (reading disk)
step-pins LogFlush epoch old disk at = ⊎_elim (λ same. ap (λ (d : Disk). pinning epoch (reading d)) (sym same)) (λ later. absurd later) at
step-pins Copies epoch old disk at = refl
step-pins SuperblockWrite epoch old disk at = refl
step-pins SuperblockFlush epoch old disk at = refl
step-pins Done epoch old disk at = refl

-- after the first call the epoch is pinned
later-pinned : (stage : OpeningStage) (epoch : Option Epoch) (image : Image) → IsLater stage → pinned_at stage epoch image ≡ pinning epoch image
later-pinned LogFlush epoch image later = absurd later
later-pinned Copies epoch image later = refl
later-pinned SuperblockWrite epoch image later = refl
later-pinned SuperblockFlush epoch image later = refl
later-pinned Done epoch image later = refl

-- some calls lead from the begin to this world
abbrev LeadsOver : World → Found → World → Type 0
LeadsOver w found mid =
    (calls : ℕ) × ((moves : List Move) (end : World) → Leads mid moves end → Leads w (Begin found ∷ replicate calls OpeningStep ++ moves) end)

-- one more call leads on
one-more : (w : World) (found : Found) (mid new : World) → Recovers mid new → LeadsOver w found mid → LeadsOver w found new
one-more w found mid new step (calls, over) = (
  calls + 1,
  λ moves end on.
      let split : replicate calls OpeningStep ++ OpeningStep ∷ moves ≡ replicate (calls + 1) OpeningStep ++ moves =
      sym (append_assoc (replicate calls OpeningStep) (OpeningStep ∷ []) moves) ∙ ap (λ (ms : List Move). ms ++ moves) (replicate_more calls OpeningStep) in
      subst (λ (ms : List Move). Leads w (Begin found ∷ ms) end) split (over (OpeningStep ∷ moves) end (new, step, on)),
)

-- calls lead to each disk that an opening reaches
reaches : (w : World) (found : Found) (stage : OpeningStage) (disk : Disk) → w.phase ≡ Shut → IsFoundOn w.shape found w.disk →
    Reached w.shape found w.disk stage disk → LeadsOver w found (opening_at w found stage disk)
reaches w found stage disk shut is Tested =
    (0, λ moves end on. (opening_at w found LogFlush w.disk, record { shut = shut; found_is = is; after = refl }, on))
reaches w found stage disk shut is (Called before next call mid new reached due same) =
    one-more w found (opening_at w found before mid) (opening_at w found next new)
    (record {
      found = found;
      stage = before;
      next = next;
      opening = refl;
      call = call;
      due = due;
      after = ap₂ (λ (d : Disk) (e : Option Epoch). record w { disk = d; phase = Opening found next; epoch = e }) same
          (later-pinned next w.epoch (reading w.disk) (call-later w.shape found mid before next call due)
          ∙ step-pins before w.epoch w.disk mid (reached-first w.shape found w.disk before mid reached));
    })
    (reaches w found before mid shut is reached)

-- a whole opening leads to the engine of its log
pub opening-leads : (shape : Shape) (found : Found) (old new : Disk) → IsFoundOn shape found old → Reached shape found old Done new →
    LeadsToEngine shape old new (cleaned (found.image Log 0) (next_of found)) (next_of found)
opening-leads shape found old new is reached = record { found = found; leads = leads }
  where
    superblock : List ℕ
    superblock = cleaned (found.image Log 0) (next_of found)

    leads : (w : World) → w.shape ≡ shape → w.disk ≡ old → w.phase ≡ Shut →
        (calls : ℕ) × Leads w (Begin found ∷ replicate calls OpeningStep ++ AnswerOk ∷ []) (opened_world w new superblock (next_of found))
    leads w same_shape same_disk shut =
        let here : IsFoundOn w.shape found w.disk =
        subst (λ (s : Shape). IsFoundOn s found w.disk) (sym same_shape) (subst (IsFoundOn shape found) (sym same_disk) is) in
        let run : Reached w.shape found w.disk Done new =
        subst (λ (s : Shape). Reached s found w.disk Done new) (sym same_shape) (subst (λ (d : Disk). Reached shape found d Done new) (sym same_disk) reached) in
        let over = reaches w found Done new shut here run in (
          over.0,
          over.1 (AnswerOk ∷ []) (opened_world w new superblock (next_of found))
              (opened_world w new superblock (next_of found), record { found = found; opening = refl; after = refl }, refl),
        )
