-- The machine's calls to the end are an opening, and keep what every image opens to.
use Rattle.std.proofs.Common.{refl, sym, ◌∙◌, ap, subst, ⊎_elim}
use Rattle.std.specs.Prelude.{◌≡◌, ◌≢◌, ℕ, List, Option, None}
use Rattle.log_model.specs.declared.log.Text.{Text}
use Rattle.journal_model.specs.declared.number.Area.TheVariants.{Log, Home}
use Rattle.journal_model.specs.Disk.{Disk, Image, Shape, flushed, reading}
use Rattle.log_model.specs.Opening.{HasLimit, NothingAhead, OpensAs, super_of}
use Rattle.log_model.specs.Opening.HasLimit.{OfChain, OfClean}
use Rattle.log_model.specs.Opening.OpensAs.{Clean, Replayed}
use Rattle.journal_world.specs.Call.{after_success}
use Rattle.journal_world.specs.Opening.{IsOpening, KeepsOpening, cleaned}
use Rattle.log_epochs.specs.OpeningSteps.{Found, HasTexts, IsFound, OpeningStage, clean_superblock, next_of}
use Rattle.log_epochs.specs.OpeningSteps.HasTexts.{NoTexts, Texts}
use Rattle.log_epochs.specs.OpeningSteps.OpeningStage.{LogFlush, Copies, SuperblockWrite, SuperblockFlush, Done}
use Rattle.log_epochs.specs.OpeningRun.{IsFoundOn, Reached}
use Rattle.log_epochs.specs.OpeningRun.Reached.{Tested, Called}
use Rattle.log_epochs.specs.Epoch.{Epoch, pinning_at}
use Rattle.log_epochs.proofs.CleanLogs.{found-clean}
use Rattle.log_epochs.proofs.Keeping.{IsFlushed, found-chain, ready}
use Rattle.log_epochs.proofs.Replaying.{opens-replaying}
use Rattle.log_epochs.proofs.Stages.{IsDone, IsWhole, StageHolds, call-holds}
use Rattle.log_epochs.proofs.Stages.IsWhole.{Untouched as WasClean, Replayed as WasReplayed}

-- without an epoch there is no pin
none-pinned : (stage : OpeningStage) (image : Image) → pinning_at stage None image ≡ None
none-pinned LogFlush image = refl
none-pinned Copies image = refl
none-pinned SuperblockWrite image = refl
none-pinned SuperblockFlush image = refl
none-pinned Done image = refl

-- the invariant of each reached stage, without an epoch
pub reached-holds : (shape : Shape) (found : Found) (old : Disk) (stage : OpeningStage) (disk : Disk) → IsFoundOn shape found old → Reached shape found old stage disk →
    StageHolds shape found (flushed old Log) stage None disk
reached-holds shape found old stage disk is Tested = record { read = is.read; base_is = refl; keeps = tt }
reached-holds shape found old stage disk is (Called before next call mid new reached due same) =
    let holds = reached-holds shape found old before mid is reached in
    subst (λ (d : Disk). StageHolds shape found (flushed old Log) next None d) (sym same)
    (subst (λ (o : Option Epoch). StageHolds shape found (flushed old Log) next o (after_success call mid)) (none-pinned before (reading mid))
    (call-holds shape found (flushed old Log) before next call None mid is.good due holds))

-- what was found has the image's limit
finds-limit : (shape : Shape) (image : Image) (texts : List Text) (limit : ℕ) → HasTexts shape image texts limit → HasLimit shape image limit
finds-limit shape image texts limit (NoTexts clean) = OfClean clean
finds-limit shape image texts limit (Texts ts has) = OfChain ts has

-- every image opens to what all images opened to at the flush
pub whole-keeps : (shape : Shape) (found : Found) (base disk : Disk) → IsFound shape found → IsFlushed shape found None base → IsWhole shape found base disk →
    KeepsOpening shape base disk
whole-keeps shape found base disk is flush (WasClean clean same) = subst (KeepsOpening shape base) (sym same) (record { keeps = λ ts n always. always })
whole-keeps shape found base disk is flush (WasReplayed has replaying replayed) =
    opens-replaying shape found.texts (clean_superblock found) found.image base disk (ready shape found None base is has flush) replaying

-- home is as the replay makes it
whole-opens : (shape : Shape) (found : Found) (base disk : Disk) → IsFound shape found → IsFlushed shape found None base → IsWhole shape found base disk →
    OpensAs shape found.image (reading disk Home)
whole-opens shape found base disk is flush (WasClean clean same) =
    Clean clean (subst (NothingAhead found.image) (found-clean shape found.image found.texts found.limit is.has clean) is.none_ahead)
    (λ b below. ap (λ (d : Disk). (d Home b).reads) same ∙ flush.home b)
whole-opens shape found base disk is flush (WasReplayed has replaying replayed) =
    Replayed found.texts has (subst (NothingAhead found.image) (found-chain shape found.image found.texts found.limit is.has has) is.none_ahead) replayed

-- the log's other blocks are as the flush left them
whole-others : (shape : Shape) (found : Found) (old disk : Disk) → IsWhole shape found (flushed old Log) disk → (n : ℕ) → n ≢ 0 → disk Log n ≡ flushed old Log Log n
whole-others shape found old disk (WasClean clean same) n other = ap (λ (d : Disk). d Log n) same
whole-others shape found old disk (WasReplayed has replaying replayed) n other =
    ⊎_elim (λ kept. kept) (λ durable. durable) (replaying.log n other)

-- nothing is written in a clean log
whole-clean : (shape : Shape) (found : Found) (base disk : Disk) → IsWhole shape found base disk → (super_of found.image).s_start ≡ 0 → disk ≡ base
whole-clean shape found base disk (WasClean clean same) start = same
whole-clean shape found base disk (WasReplayed has replaying replayed) start = absurd (has.started.started start)

-- the calls to the end are an opening
pub reached-opening : (shape : Shape) (found : Found) (old new : Disk) → IsFoundOn shape found old → Reached shape found old Done new →
    IsOpening shape old new (cleaned (found.image Log 0) (next_of found)) (next_of found)
reached-opening shape found old new is reached =
    let done : IsDone shape found (flushed old Log) None new = reached-holds shape found old Done new is reached in
    record {
      limit = found.limit;
      has_limit = subst (λ (i : Image). HasLimit shape i found.limit) is.read (finds-limit shape found.image found.texts found.limit is.good.has);
      number = refl;
      home =
          subst (λ (i : Image). OpensAs shape i (reading new Home)) is.read
          (whole-opens shape found (flushed old Log) new is.good done.flush done.whole);
      log = done.log;
      superblock_is = ap (λ (i : Image). cleaned (i Log 0) (next_of found)) is.read;
      others = λ n other. whole-others shape found old new done.whole n other;
      untouched = λ clean. whole-clean shape found (flushed old Log) new done.whole (ap (λ (i : Image). (super_of i).s_start) is.read ∙ clean);
      kept = whole-keeps shape found (flushed old Log) new is.good done.flush done.whole;
    }
