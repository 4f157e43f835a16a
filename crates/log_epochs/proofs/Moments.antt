-- At each moment of an opening nothing is written, or every image opens to the n of the flush; and what opens can be
-- opened.
use Rattle.std.proofs.Common.{refl, sym, subst, inl, inr, ⊎_elim}
use Rattle.std.specs.Prelude.{◌≡◌, ◌⊎◌, ⊤, ℕ, ◌<◌, [], length, None}
use Rattle.journal_model.specs.declared.number.Area.TheVariants.{Log, Home}
use Rattle.journal_model.specs.Disk.{Disk, Image, Shape, flushed}
use Rattle.log_model.specs.Opening.{HasChain, HasLimit, OpensAs, greatest_number, super_of}
use Rattle.log_model.specs.Opening.HasLimit.{OfChain, OfClean}
use Rattle.log_model.specs.Opening.OpensAs.{Clean, Replayed}
use Rattle.log_model.specs.Replay.{IsNewest}
use Rattle.journal_model.specs.Transaction.{Volume}
use Rattle.journal_world.specs.Call.{Call, IsAfterFault}
use Rattle.journal_world.proofs.Places.{is_write-fault}
use Rattle.log_epochs.specs.OpeningSteps.{Found, IsFound, OpeningCall, OpeningStage, clean_superblock}
use Rattle.log_epochs.specs.OpeningSteps.HasTexts.{NoTexts, Texts}
use Rattle.log_epochs.specs.OpeningSteps.OpeningCall.{FlushClean, FlushLog, CopyHome, FlushHome, WriteSuperblock, FlushSuperblock}
use Rattle.log_epochs.specs.OpeningSteps.OpeningStage.{LogFlush, Copies, SuperblockWrite, SuperblockFlush, Done}
use Rattle.log_epochs.specs.OpeningRun.{IsFoundOn, IsMoment, IsPastFlush, KeepsCount, Reached}
use Rattle.log_epochs.specs.OpeningRun.KeepsCount.{Unwritten, Past}
use Rattle.log_epochs.specs.OpeningRun.IsMoment.{Unread, At, Fault}
use Rattle.log_epochs.specs.OpeningRun.Reached.{Tested, Called}
use Rattle.log_epochs.proofs.Homes.{copying-fault}
use Rattle.log_epochs.proofs.Keeping.{IsFlushed, ready}
use Rattle.log_epochs.proofs.Replaying.{opens-replaying}
use Rattle.log_epochs.proofs.ReplayMoments.{IsReplaying}
use Rattle.log_epochs.proofs.Stages.{IsCleaning, IsCopying, IsWhole, StageHolds, cleaning-replaying, cleaning-write, copying-replaying, flush-undone}
use Rattle.log_epochs.proofs.Stages.IsWhole.{Untouched, Replayed as WasReplayed}
use Rattle.log_epochs.proofs.Whole.{reached-holds}

-- no call leads back to the begin
abbrev pub IsLater : OpeningStage → Type 0
IsLater LogFlush = ⊥
IsLater Copies = ⊤
IsLater SuperblockWrite = ⊤
IsLater SuperblockFlush = ⊤
IsLater Done = ⊤

pub call-later : (shape : Shape) (found : Found) (disk : Disk) (stage next : OpeningStage) (call : Call) → OpeningCall shape found disk stage call next → IsLater next
call-later shape found disk stage next call (FlushClean clean) = tt
call-later shape found disk stage next call (FlushLog has) = tt
call-later shape found disk stage next call (CopyHome b v newest) = tt
call-later shape found disk stage next call (FlushHome replayed) = tt
call-later shape found disk stage next call WriteSuperblock = tt
call-later shape found disk stage next call FlushSuperblock = tt

-- at the first stage nothing is written
pub reached-first : (shape : Shape) (found : Found) (old : Disk) (stage : OpeningStage) (disk : Disk) → Reached shape found old stage disk → (disk ≡ old) ⊎ IsLater stage
reached-first shape found old stage disk Tested = inl refl
reached-first shape found old stage disk (Called before next call mid new reached due same) = inr (call-later shape found mid before next call due)

-- the moments of the replay are past the flush
replaying-past : (shape : Shape) (found : Found) (old disk : Disk) → IsFound shape found → HasChain shape found.image found.texts →
    IsFlushed shape found None (flushed old Log) → IsReplaying shape.home_blocks found.texts (clean_superblock found) (flushed old Log) disk →
    IsPastFlush shape found old disk
replaying-past shape found old disk is has flush replaying = record {
  keeps =
      opens-replaying shape found.texts (clean_superblock found) found.image (flushed old Log) disk (ready shape found None (flushed old Log) is has flush)
      replaying;
  home = record { reads = replaying.home.reads; left = replaying.home.left };
  log = λ n other. ⊎_elim (λ kept. kept) (λ durable. durable) (replaying.log n other);
  block_0 = λ v one. ⊎_elim (λ was. inl (⊎_elim (λ same. same) (λ none. absurd none) was)) (λ new. inr (new.0, has)) (replaying.block_0 v one);
}

-- the flush alone is past the flush
flushed-past : (shape : Shape) (found : Found) (old : Disk) → IsPastFlush shape found old (flushed old Log)
flushed-past shape found old = record {
  keeps = record { keeps = λ ts n always. always };
  home = record { reads = λ b. inl refl; left = λ b v one. inl one };
  log = λ n other. refl;
  block_0 = λ v one. inl (⊎_elim (λ same. same) (λ none. absurd none) one);
}

copying-past : (shape : Shape) (found : Found) (old disk : Disk) → IsFound shape found → IsCopying shape found (flushed old Log) None disk →
    IsPastFlush shape found old disk
copying-past shape found old disk is c =
    replaying-past shape found old disk is c.has c.flush (copying-replaying shape found (flushed old Log) disk c.writing)

cleaning-past : (shape : Shape) (found : Found) (old disk : Disk) → IsFound shape found → IsCleaning shape found (flushed old Log) None disk →
    IsPastFlush shape found old disk
cleaning-past shape found old disk is c =
    replaying-past shape found old disk is c.has c.flush (cleaning-replaying shape found (flushed old Log) None disk c)

whole-past : (shape : Shape) (found : Found) (old disk : Disk) → IsFound shape found → IsFlushed shape found None (flushed old Log) →
    IsWhole shape found (flushed old Log) disk → IsPastFlush shape found old disk
whole-past shape found old disk is flush (Untouched clean same) = subst (IsPastFlush shape found old) (sym same) (flushed-past shape found old)
whole-past shape found old disk is flush (WasReplayed has replaying replayed) = replaying-past shape found old disk is has flush replaying

later-past : (shape : Shape) (found : Found) (old : Disk) (stage : OpeningStage) (disk : Disk) → IsFound shape found → IsLater stage →
    StageHolds shape found (flushed old Log) stage None disk → IsPastFlush shape found old disk
later-past shape found old LogFlush disk is later holds = absurd later
later-past shape found old Copies disk is later holds = copying-past shape found old disk is holds
later-past shape found old SuperblockWrite disk is later holds = copying-past shape found old disk is holds.copying
later-past shape found old SuperblockFlush disk is later holds = cleaning-past shape found old disk is holds.cleaning
later-past shape found old Done disk is later holds = whole-past shape found old disk is holds.flush holds.whole

-- a failed call left the disk past the flush
fault-past : (shape : Shape) (found : Found) (old : Disk) (stage next : OpeningStage) (call : Call) (disk after : Disk) → IsFound shape found →
    OpeningCall shape found disk stage call next → StageHolds shape found (flushed old Log) stage None disk → IsAfterFault call disk after →
    (after ≡ disk) ⊎ IsPastFlush shape found old after
fault-past shape found old stage next call disk after is (FlushClean clean) holds fault = inl (flush-undone Log disk after fault)
fault-past shape found old stage next call disk after is (FlushLog has) holds fault = inl (flush-undone Log disk after fault)
fault-past shape found old stage next call disk after is (CopyHome b v newest) holds fault =
    inr (copying-past shape found old after is
    (record { has = holds.has; flush = holds.flush; writing = copying-fault (IsNewest found.texts) (flushed old Log) disk after b v newest holds.writing fault }))
fault-past shape found old stage next call disk after is (FlushHome replayed) holds fault = inl (flush-undone Home disk after fault)
fault-past shape found old stage next call disk after is WriteSuperblock holds fault =
    inr (cleaning-past shape found old after is
    (cleaning-write shape found (flushed old Log) None disk after holds (is_write-fault disk after 0 (clean_superblock found) fault)))
fault-past shape found old stage next call disk after is FlushSuperblock holds fault = inl (flush-undone Log disk after fault)

-- each reached disk is the old one, or past the flush
at-keeps : (shape : Shape) (found : Found) (old : Disk) (stage : OpeningStage) (disk : Disk) → IsFoundOn shape found old → Reached shape found old stage disk →
    KeepsCount shape old disk
at-keeps shape found old stage disk is reached =
    ⊎_elim (λ same. Unwritten same)
    (λ later. Past found is (later-past shape found old stage disk is.good later (reached-holds shape found old stage disk is reached)))
    (reached-first shape found old stage disk reached)

-- each moment of an opening keeps the count
pub moment-keeps : (shape : Shape) (old disk : Disk) → IsMoment shape old disk → KeepsCount shape old disk
moment-keeps shape old disk (Unread same) = Unwritten same
moment-keeps shape old disk (At found stage is reached) = at-keeps shape found old stage disk is reached
moment-keeps shape old disk (Fault found is failed) =
    ⊎_elim
    (λ same. subst (KeepsCount shape old) (sym same) (at-keeps shape found old failed.stage failed.disk is failed.reached))
    (λ past. Past found is past)
    (fault-past shape found old failed.stage failed.next failed.call failed.disk disk is.good failed.due
    (reached-holds shape found old failed.stage failed.disk is failed.reached) failed.fault)

-- an image that opens is good, if a number is left
pub can-open : (shape : Shape) (image : Image) (got : Volume) → OpensAs shape image got → length (image Log 0) ≡ shape.block_size →
    ((limit : ℕ) → HasLimit shape image limit → limit < greatest_number) → (found : Found) × (found.image ≡ image) × IsFound shape found
can-open shape image got (Clean clean none same) size small = (
  record { image = image; texts = []; limit = (super_of image).s_sequence },
  refl,
  record { size = size; has = NoTexts clean; none_ahead = none; number = small _ (OfClean clean) },
)
can-open shape image got (Replayed texts has none made) size small = (
  record { image = image; texts = texts; limit = _ },
  refl,
  record { size = size; has = Texts texts has; none_ahead = none; number = small _ (OfChain texts has) },
)
