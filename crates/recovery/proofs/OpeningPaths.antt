-- The calls of an opening are the machine's: each is due after those before it.
use Rattle.std.proofs.Common.{refl, sym, subst, arith, inl, inr}
use Rattle.std.specs.Prelude.{◌≡◌, ◌≢◌, ℕ, ◌==◌, true, false, List, [], ◌∷◌, ◌++◌, Contains}
use Rattle.std.proofs.lemmas.Bool.{cases_eq}
use Rattle.std.proofs.lemmas.Bool.Decides.{nat_tests}
use Rattle.journal_model.proofs.ListElements.{contains-behind, contains-first}
use Rattle.log_model.specs.declared.log.Text.{Text}
use Rattle.journal_model.specs.declared.number.Area.TheVariants.{Log, Home}
use Rattle.journal_model.specs.Disk.{Disk, Image, Shape, flushed, reading, written}
use Rattle.log_model.specs.Opening.{HasChain, IsClean, super_of}
use Rattle.log_model.specs.Replay.{IsNewest, IsReplayed}
use Rattle.journal_world.specs.Call.{Call, after_success}
use Rattle.journal_world.specs.Call.Call.{Write, Flush}
use Rattle.log_epochs.specs.OpeningSteps.{Found, HasTexts, OpeningCall, OpeningStage, clean_superblock}
use Rattle.log_epochs.specs.OpeningSteps.HasTexts.{NoTexts, Texts}
use Rattle.log_epochs.specs.OpeningSteps.OpeningCall.{FlushClean, FlushLog, CopyHome, FlushHome, WriteSuperblock, FlushSuperblock}
use Rattle.log_epochs.specs.OpeningSteps.OpeningStage.{LogFlush, Copies, SuperblockWrite, SuperblockFlush, Done}
use Rattle.log_epochs.specs.OpeningRun.{IsFoundOn, Reached}
use Rattle.log_epochs.specs.OpeningRun.Reached.{Called, Tested}
use Rattle.recovery.specs.Calls.{disk_after, opening_calls, writes_home}
use Rattle.recovery.specs.HomeCopies.{home_copies}
use Rattle.recovery.proofs.CopiesReplayed.{copies-replayed}
use Rattle.recovery.proofs.LastCopies.{BlockCopies}
use Rattle.recovery.proofs.NewestHome.{home-copies-newest}

-- the first of these calls is due, or none is left and the opening is done
abbrev pub IsDue : Shape → Found → Disk → OpeningStage → List Call → Type 0
IsDue shape found disk stage [] = stage ≡ Done
IsDue shape found disk stage (call ∷ calls) = (next : OpeningStage) × OpeningCall shape found disk stage call next

-- from this disk and stage on each call is due after those before it, and the last ends the opening
abbrev pub IsPath : Shape → Found → Disk → OpeningStage → List Call → Type 0
IsPath shape found disk stage [] = stage ≡ Done
IsPath shape found disk stage (call ∷ calls) =
    (next : OpeningStage) × OpeningCall shape found disk stage call next × IsPath shape found (after_success call disk) next calls

-- the first call of a path is due
path-due : (shape : Shape) (found : Found) (disk : Disk) (stage : OpeningStage) (calls : List Call) → IsPath shape found disk stage calls → IsDue shape found disk stage calls
path-due shape found disk stage [] path = path
path-due shape found disk stage (call ∷ calls) path = (path.0, path.1)

-- some calls of a path lead on, to a path of the others
pub path-reached : (shape : Shape) (found : Found) (old : Disk) (done due : List Call) (disk : Disk) (stage : OpeningStage) → Reached shape found old stage disk →
    IsPath shape found disk stage (done ++ due) →
    (next : OpeningStage) × Reached shape found old next (disk_after done disk) × IsPath shape found (disk_after done disk) next due
path-reached shape found old [] due disk stage reached path = (stage, reached, path)
path-reached shape found old (call ∷ done) due disk stage reached path =
    path-reached shape found old done due (after_success call disk) path.0
    (Called stage path.0 call disk (after_success call disk) reached path.1 refl) path.2

-- a log whose start is 0 is a clean image
found-clean : (shape : Shape) (image : Image) (texts : List Text) (limit : ℕ) → HasTexts shape image texts limit → (super_of image).s_start ≡ 0 → IsClean shape image
found-clean shape image texts limit (NoTexts clean) start = clean
found-clean shape image texts limit (Texts ts has) start = absurd (has.started.started start)

found-chain : (shape : Shape) (image : Image) (texts : List Text) (limit : ℕ) → HasTexts shape image texts limit → (super_of image).s_start ≢ 0 → HasChain shape image texts
found-chain shape image texts limit (NoTexts clean) started = absurd (started clean.clean)
found-chain shape image texts limit (Texts ts has) started = has

-- the calls after the copies
abbrev pub ending_calls : Found → List Call
ending_calls found = Flush Home ∷ Write Log 0 (clean_superblock found) ∷ Flush Log ∷ []

-- the calls of an opening of a clean log
pub calls-clean : (found : Found) → (super_of found.image).s_start ≡ 0 → opening_calls found ≡ Flush Log ∷ []
calls-clean found clean = let test : ((super_of found.image).s_start == 0) ≡ true = grind (arith, nat_tests) in rw test refl

-- the calls of an opening of any other log
pub calls-started : (found : Found) → (super_of found.image).s_start ≢ 0 →
    opening_calls found ≡ Flush Log ∷ writes_home (home_copies found.texts) ++ ending_calls found
calls-started found started = let test : ((super_of found.image).s_start == 0) ≡ false = grind (arith, nat_tests) in rw test refl

-- writes of newest copies make a path
copies-path : (shape : Shape) (found : Found) (cs : BlockCopies) (calls : List Call) (disk : Disk) →
    ((b : ℕ) (v : List ℕ) → Contains cs (b, v) → IsNewest found.texts b v) →
    IsPath shape found (disk_after (writes_home cs) disk) Copies calls → IsPath shape found disk Copies (writes_home cs ++ calls)
copies-path shape found [] calls disk newest path = path
copies-path shape found (c ∷ cs) calls disk newest path = (
  Copies,
  CopyHome c.0 c.1 (newest c.0 c.1 (contains-first c cs c refl)),
  copies-path shape found cs calls (written disk Home c.0 c.1) (λ b v among. newest b v (contains-behind c cs (b, v) among)) path,
)

-- once home is replayed, it is flushed, and the log is made clean
ending-path : (shape : Shape) (found : Found) (disk : Disk) → IsReplayed shape.home_blocks found.texts (found.image Home) (reading disk Home) →
    IsPath shape found disk Copies (ending_calls found)
ending-path shape found disk replayed = (SuperblockWrite, FlushHome replayed, (SuperblockFlush, WriteSuperblock, (Done, FlushSuperblock, refl)))

-- home is replayed once the copies are written
written-replayed : (shape : Shape) (found : Found) (old : Disk) → found.image ≡ reading old →
    IsReplayed shape.home_blocks found.texts (found.image Home) (reading (disk_after (writes_home (home_copies found.texts)) (flushed old Log)) Home)
written-replayed shape found old read =
    subst (λ (i : Image). IsReplayed shape.home_blocks found.texts (i Home) (reading (disk_after (writes_home (home_copies found.texts)) (flushed old Log)) Home))
    (sym read) (copies-replayed shape.home_blocks found.texts (flushed old Log))

-- the calls of an opening of a log that is not clean lead to its end
started-path : (shape : Shape) (found : Found) (old : Disk) → IsFoundOn shape found old → (super_of found.image).s_start ≢ 0 →
    IsPath shape found old LogFlush (Flush Log ∷ writes_home (home_copies found.texts) ++ ending_calls found)
started-path shape found old is started = (
  Copies,
  FlushLog (found-chain shape found.image found.texts found.limit is.good.has started),
  copies-path shape found (home_copies found.texts) (ending_calls found) (flushed old Log) (home-copies-newest found.texts)
      (ending-path shape found (disk_after (writes_home (home_copies found.texts)) (flushed old Log)) (written-replayed shape found old is.read)),
)

-- so do those of any log
pub opening-path : (shape : Shape) (found : Found) (old : Disk) → IsFoundOn shape found old → IsPath shape found old LogFlush (opening_calls found)
opening-path shape found old is =
    elim (cases_eq (super_of found.image).s_start 0) [
      | inl start ↦
          subst (IsPath shape found old LogFlush) (sym (calls-clean found start))
          (Done, FlushClean (found-clean shape found.image found.texts found.limit is.good.has start), refl)
      | inr started ↦ subst (IsPath shape found old LogFlush) (sym (calls-started found started)) (started-path shape found old is started)
    ]

-- after some of an opening's calls, the others make a path
pub opening-left : (shape : Shape) (found : Found) (old : Disk) (done due : List Call) → IsFoundOn shape found old → opening_calls found ≡ done ++ due →
    (stage : OpeningStage) × Reached shape found old stage (disk_after done old) × IsPath shape found (disk_after done old) stage due
opening-left shape found old done due is split =
    path-reached shape found old done due old LogFlush Tested (subst (IsPath shape found old LogFlush) split (opening-path shape found old is))

-- some calls lead to a stage in which the next is due, or the opening is done
pub calls-reached : (shape : Shape) (found : Found) (old : Disk) (done due : List Call) → IsFoundOn shape found old → opening_calls found ≡ done ++ due →
    (stage : OpeningStage) × Reached shape found old stage (disk_after done old) × IsDue shape found (disk_after done old) stage due
calls-reached shape found old done due is split =
    let left = opening-left shape found old done due is split in
    (left.0, left.1, path-due shape found (disk_after done old) left.0 due left.2)
