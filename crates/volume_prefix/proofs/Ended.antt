-- An ended epoch ended in a world of the run, with the disk on which the next one began.
use Rattle.std.proofs.Common.{◌⊎◌, inl, inr, refl, sym, ◌∙◌, ap, subst}
use Rattle.std.specs.Prelude.{◌≡◌, ℕ, zero, suc, List, [], ◌∷◌, Option, Some, None, slice_get}
use Rattle.std.proofs.lemmas.Option.{none-some, same_Some}
use Rattle.journal_model.specs.Disk.{Disk, Image, Leaves, Shape}
use Rattle.log_epochs.specs.EngineSteps.{Event as EngineEvent}
use Rattle.log_epochs.specs.EngineSteps.Event.{Accept, Read, CommitStep, CommitFault, CheckpointStep, CheckpointFault, ReadFault, DirectWrite, DirectWriteFault, DirectSync, DirectSyncFault}
use Rattle.log_epochs.specs.EngineWorld.{Begins as BelowBegins, Move as BelowMove, Moves as BelowMoves, Steps as BelowSteps, World}
use Rattle.log_epochs.specs.EngineWorld.Begins.{Unopened, Made}
use Rattle.log_epochs.specs.EngineWorld.Move.{Step as EngineStep, CloseStep, CloseFault, GiveUp, Stop, Begin, OpeningStep, OpeningFault, AnswerOk, Upgrade}
use Rattle.log_epochs.specs.EngineWorld.UpgradeMove.{BeginUpgrade, UpgradeStep, UpgradeFault}
use Rattle.log_epochs.specs.Epoch.{Ended, Epoch, ending}
use Rattle.log_epochs.specs.JournalWorld.{Begins, JournalWorld, Leads, Move, Moves, TellsAfter, TellsAfterStep, TellsSame, Told, telling}
use Rattle.log_epochs.specs.JournalWorld.Move.{Step as StepOf, Answer, Below}
use Rattle.volume_prefix.specs.Changes.{Change, OpensToPrefix, tickets_of}
use Rattle.volume_prefix.specs.Runs.{IsWorkOf, OneAtATime}
use Rattle.volume_prefix.proofs.Crashes.{crash-prefix}

-- what a move does to the ended epochs
data Ends (old new : JournalWorld) : Type 0 where
  NoEpoch : new.below.shape ≡ old.below.shape → new.below.ended ≡ old.below.ended → new.past ≡ old.past → Ends old new
  OneEpoch : (epoch : Epoch) → old.below.epoch ≡ Some epoch → new.below.shape ≡ old.below.shape →
      new.below.ended ≡ record { epoch = epoch; after = old.below.disk } ∷ old.below.ended → new.past ≡ old.told ∷ old.past → Ends old new

no-epoch : (old new : JournalWorld) (below : World) → new.below ≡ below → below.shape ≡ old.below.shape → below.ended ≡ old.below.ended →
    TellsSame old new → Ends old new
no-epoch old new below is shape ended tells =
    NoEpoch (ap (λ (w : World). w.shape) is ∙ shape) (ap (λ (w : World). w.ended) is ∙ ended) tells.past

engine-ends : (old new : JournalWorld) (event : EngineEvent) → BelowSteps old.below event new.below → TellsAfterStep event old new →
    Ends old new
engine-ends old new (Read b v) step tells = no-epoch old new _ step.after refl refl tells
engine-ends old new (Accept b) step tells = absurd tells
engine-ends old new CommitStep step tells = absurd tells
engine-ends old new CommitFault step tells = absurd tells
engine-ends old new CheckpointStep step tells = absurd tells
engine-ends old new CheckpointFault step tells = absurd tells
engine-ends old new ReadFault step tells = absurd tells
engine-ends old new (DirectWrite b v) step tells = absurd tells
engine-ends old new (DirectWriteFault b v) step tells = absurd tells
engine-ends old new DirectSync step tells = absurd tells
engine-ends old new DirectSyncFault step tells = absurd tells

-- an opening that answers Ok ends the epoch, if there is one
answer-ends : (old new : JournalWorld) (epoch : Option Epoch) → old.below.epoch ≡ epoch → new.below.shape ≡ old.below.shape →
    new.below.ended ≡ ending epoch old.below.disk old.below.ended → new.past ≡ telling epoch old.told old.past → Ends old new
answer-ends old new None is shape ended past = NoEpoch shape ended past
answer-ends old new (Some epoch) is shape ended past = OneEpoch epoch is shape ended past

below-ends : (old new : JournalWorld) (move : BelowMove) → BelowMoves old.below move new.below → TellsAfter move old new → Ends old new
below-ends old new (EngineStep event) moves tells = engine-ends old new event moves tells
below-ends old new CloseStep moves tells = no-epoch old new _ moves.after refl refl tells
below-ends old new CloseFault moves tells = no-epoch old new _ moves.after refl refl tells
below-ends old new GiveUp moves tells = no-epoch old new _ moves.after refl refl tells
below-ends old new (Stop left) moves tells = no-epoch old new _ moves.after refl refl tells
below-ends old new (Begin found) moves tells = no-epoch old new _ moves.after refl refl tells
below-ends old new OpeningStep moves tells = no-epoch old new _ moves.after refl refl tells
below-ends old new OpeningFault moves tells = no-epoch old new _ moves.after refl refl tells
below-ends old new (Upgrade (BeginUpgrade block)) moves tells = no-epoch old new _ moves.after refl refl tells
below-ends old new (Upgrade UpgradeStep) moves tells = no-epoch old new _ moves.after refl refl tells
below-ends old new (Upgrade UpgradeFault) moves tells = no-epoch old new _ moves.after refl refl tells
below-ends old new AnswerOk moves tells =
    answer-ends old new old.below.epoch refl (ap (λ (w : World). w.shape) moves.after) (ap (λ (w : World). w.ended) moves.after) tells.past

move-ends : (old new : JournalWorld) (move : Move) → Moves old move new → Ends old new
move-ends old new (StepOf event) step =
    NoEpoch (ap (λ (w : JournalWorld). w.below.shape) step.after) (ap (λ (w : JournalWorld). w.below.ended) step.after)
    (ap (λ (w : JournalWorld). w.past) step.after)
move-ends old new (Answer tid) step =
    NoEpoch (ap (λ (w : JournalWorld). w.below.shape) step.after) (ap (λ (w : JournalWorld). w.below.ended) step.after)
    (ap (λ (w : JournalWorld). w.past) step.after)
move-ends old new (Below move) step = below-ends old new move step.below step.tells

-- the run up to where an epoch ended
record UpTo (start : JournalWorld) (shape : Shape) (x : Ended) (told : Told) : Type 0 where
  world : JournalWorld
  moves : List Move
  leads : Leads start moves world
  alone : OneAtATime start moves world leads
  shape_is : world.below.shape ≡ shape
  epoch : world.below.epoch ≡ Some x.epoch
  disk : world.below.disk ≡ x.after
  told_is : world.told ≡ told

-- these ended earlier, with what they told
record Before (w : JournalWorld) (x : Ended) (told : Told) : Type 0 where
  place : ℕ
  epoch : slice_get w.below.ended place ≡ Some x
  told_is : slice_get w.past place ≡ Some told

-- it ended before a move, or by this move
before-move : (old new : JournalWorld) (x : Ended) (told : Told) → Ends old new → Before new x told →
    Before old x told ⊎ UpTo old new.below.shape x told
before-move old new x told (NoEpoch shape ended past) at =
    inl (record {
      place = at.place;
      epoch = subst (λ (xs : List Ended). slice_get xs at.place ≡ Some x) ended at.epoch;
      told_is = subst (λ (ts : List Told). slice_get ts at.place ≡ Some told) past at.told_is;
    })
before-move old new x told (OneEpoch epoch now shape ended past) at =
    among at.place
    (subst (λ (xs : List Ended). slice_get xs at.place ≡ Some x) ended at.epoch)
    (subst (λ (ts : List Told). slice_get ts at.place ≡ Some told) past at.told_is)
  where
    this : Ended
    this = record { epoch = epoch; after = old.below.disk }

    among : (n : ℕ) → slice_get (this ∷ old.below.ended) n ≡ Some x → slice_get (old.told ∷ old.past) n ≡ Some told →
        Before old x told ⊎ UpTo old new.below.shape x told
    among zero one other =
        let is : this ≡ x = same_Some this x one in
        inr (record {
          world = old;
          moves = [];
          leads = refl;
          alone = tt;
          shape_is = sym shape;
          epoch = now ∙ ap (λ (y : Ended). Some y.epoch) is;
          disk = ap (λ (y : Ended). y.after) is;
          told_is = same_Some old.told told other;
        })
    among (suc n) one other = inl (record { place = n; epoch = one; told_is = other })

same-shape : (old new : JournalWorld) → Ends old new → new.below.shape ≡ old.below.shape
same-shape old new (NoEpoch shape ended past) = shape
same-shape old new (OneEpoch epoch now shape ended past) = shape

run-shape : (old new : JournalWorld) (moves : List Move) → Leads old moves new → new.below.shape ≡ old.below.shape
run-shape old new [] same = ap (λ (w : JournalWorld). w.below.shape) same
run-shape old new (move ∷ moves) (mid, first, rest) = run-shape mid new moves rest ∙ same-shape old mid (move-ends old mid move first)

-- it ended before a run, or in it
before-run : (old : JournalWorld) (moves : List Move) (new : JournalWorld) (leads : Leads old moves new) (x : Ended) (told : Told) →
    OneAtATime old moves new leads → Before new x told → Before old x told ⊎ UpTo old new.below.shape x told
before-run old [] new same x told alone at = inl (subst (λ (w : JournalWorld). Before w x told) same at)
before-run old (move ∷ moves) new (mid, first, rest) x told alone at =
    elim (before-run mid moves new rest x told alone.1 at) [
      | inl earlier ↦
          elim (before-move old mid x told (move-ends old mid move first) earlier) [
            | inl before ↦ inl before
            | inr here ↦
                inr (record {
                  world = here.world;
                  moves = here.moves;
                  leads = here.leads;
                  alone = here.alone;
                  shape_is = here.shape_is ∙ sym (run-shape mid new moves rest);
                  epoch = here.epoch;
                  disk = here.disk;
                  told_is = here.told_is;
                })
          ]
      | inr later ↦
          inr (record {
            world = later.world;
            moves = move ∷ later.moves;
            leads = (mid, first, later.leads);
            alone = (alone.0, later.alone);
            shape_is = later.shape_is;
            epoch = later.epoch;
            disk = later.disk;
            told_is = later.told_is;
          })
    ]

none-before : (start : JournalWorld) (x : Ended) (told : Told) → Begins start → Before start x told → ⊥
none-before start x told begins at =
    none-some x (subst (λ (xs : List Ended). slice_get xs at.place ≡ Some x) (none-ended begins.below) at.epoch)
  where
    none-ended : BelowBegins start.below → start.below.ended ≡ []
    none-ended (Unopened shut none first) = first
    none-ended (Made superblock next log running is first) = first

pub ended-prefix : (start end : JournalWorld) (moves : List Move) (leads : Leads start moves end) (place : ℕ) (x : Ended) (told : Told)
    (image : Image) (changes : List Change) → Begins start → OneAtATime start moves end leads → slice_get end.below.ended place ≡ Some x →
    slice_get end.past place ≡ Some told → IsWorkOf told.front (tickets_of changes) → Leaves x.after image →
    OpensToPrefix end.below.shape x.epoch told changes image
ended-prefix start end moves leads place x told image changes begins alone one other work leaves =
    elim (before-run start moves end leads x told alone (record { place = place; epoch = one; told_is = other })) [
      | inl before ↦ absurd (none-before start x told begins before)
      | inr at ↦
          subst (λ (shape : Shape). OpensToPrefix shape x.epoch told changes image) at.shape_is
          (subst (λ (t : Told). OpensToPrefix at.world.below.shape x.epoch t changes image) at.told_is
          (crash-prefix start at.world at.moves at.leads x.epoch image changes begins at.alone at.epoch
          (subst (λ (t : Told). IsWorkOf t.front (tickets_of changes)) (sym at.told_is) work)
          (subst (λ (d : Disk). Leaves d image) (sym at.disk) leaves)))
    ]
