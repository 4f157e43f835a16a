-- Direct writes and their flush keep the engine sound, and change home by such writes alone.
use Rattle.std.proofs.Common.{refl, sym, ◌∙◌, ap, subst}
use Rattle.std.specs.Prelude.{◌≡◌, ℕ, List}
use Rattle.journal_model.specs.declared.number.Area.TheVariants.{Log, Home}
use Rattle.log_model.specs.Chain.{ring_place}
use Rattle.journal_model.specs.Disk.{Cell, Disk, IsOneOf, held}
use Rattle.log_model.specs.HomeChange.{Addition, HomeAddsOnly}
use Rattle.journal_world.specs.declared.round.Round.{Round}
use Rattle.journal_world.specs.declared.round.Round.TheVariants.{Idle as NoRound, Copies, TailWrite, TailFlush}
use Rattle.journal_world.specs.declared.stage.Stage.{Stage}
use Rattle.journal_world.specs.declared.stage.Stage.TheVariants.{Idle, SuperblockWrite, SuperblockFlush, Blocks, CommitWrite, CommitFlush}
use Rattle.journal_world.specs.Call.{Call, IsAfterFault, after_success}
use Rattle.journal_world.specs.Call.IsAfterFault.{Undone}
use Rattle.journal_world.specs.Call.Call.{Write, Flush}
use Rattle.journal_world.specs.Checkpoint.{IsNewestCopy}
use Rattle.journal_world.specs.Direct.{DirectCall, DirectFaults, DirectSteps, IsLeftToHome}
use Rattle.journal_world.specs.Direct.DirectCall.{WriteDirect, SyncDirect}
use Rattle.journal_world.specs.Engine.{Engine}
use Rattle.journal_world.specs.Sound.{HomeHas, RoundHolds, Sound, StageHolds}
use Rattle.journal_world.proofs.Copying.{IsHomeWrite, home-fault, home-written}
use Rattle.journal_world.proofs.Faults.{abort-sound}
use Rattle.journal_world.proofs.HomeCopies.{adds-flushed, adds-none, adds-written, write-adds}
use Rattle.journal_world.proofs.Rounded.{KeepsCell, cell-flushed, cell-kept}

-- the log is as it was, and home blocks with a newest committed copy may have become durable
record KeepsNewest (e : Engine) (old new : Disk) : Type 0 where
  log : (n : ℕ) → new Log n ≡ old Log n
  copies : (i b : ℕ) (v : List ℕ) → IsNewestCopy e i b v → KeepsCell (old Home b) (new Home b)

-- a write of a block left to home keeps the log and the newest copies
write-newest : (e : Engine) (disk after : Disk) (b : ℕ) → IsLeftToHome e b → IsHomeWrite disk after b → KeepsNewest e disk after
write-newest e disk after b left write = record {
  log = write.log;
  copies = λ i c v newest.
      cell-kept _ _ (write.others c (λ same. left.none_newest i v (subst (λ (n : ℕ). IsNewestCopy e i n v) same newest)));
}

-- a direct call that succeeds keeps them
call-newest : (e : Engine) (disk : Disk) (call : Call) → DirectCall e call → KeepsNewest e disk (after_success call disk)
call-newest e disk call (WriteDirect b v left allowed whole) = write-newest e disk _ b left (home-written disk b v)
call-newest e disk call SyncDirect = record { log = λ n. refl; copies = λ i b v newest. cell-flushed (disk Home b) }

-- a flush that failed changed nothing
flush-same : (old new : Disk) → IsAfterFault (Flush Home) old new → new ≡ old
flush-same old new (Undone call x y same) = same

-- a direct call that fails keeps them
fault-newest : (e : Engine) (disk after : Disk) (call : Call) → DirectCall e call → IsAfterFault call disk after → KeepsNewest e disk after
fault-newest e disk after call (WriteDirect b v left allowed whole) fault = write-newest e disk after b left (home-fault disk after b v fault)
fault-newest e disk after call SyncDirect fault =
    subst (λ (d : Disk). KeepsNewest e disk d) (sym (flush-same disk after fault))
    (record { log = λ n. refl; copies = λ i b v newest. cell-kept _ _ refl })

module _ (e : Engine) (disk after : Disk) (keeps : KeepsNewest e disk after) where
  -- the stage holds still
  newest-stage : (stage : Stage) → StageHolds e disk stage → StageHolds e after stage
  newest-stage Idle holds = tt
  newest-stage SuperblockWrite holds = tt
  newest-stage SuperblockFlush holds = ap (λ (c : Cell). c.reads) (keeps.log 0) ∙ holds
  newest-stage (Blocks k) holds = λ j below. ap (λ (c : Cell). c.reads) (keeps.log _) ∙ holds j below
  newest-stage CommitWrite holds = λ j below. keeps.log _ ∙ holds j below
  newest-stage CommitFlush holds = (λ j below. keeps.log _ ∙ holds.0 j below, ap (λ (c : Cell). c.reads) (keeps.log _) ∙ holds.1)

  -- the newest copies at home are durable still
  newest-home : (n : ℕ) → HomeHas e disk n → HomeHas e after n
  newest-home n has = λ i b v newest below. (keeps.copies i b v newest).durable v (has i b v newest below)

  -- what a round has done stays done
  newest-round : (round : Round) → RoundHolds e disk round → RoundHolds e after round
  newest-round NoRound holds = tt
  newest-round (Copies transaction block) holds = λ i b v pending below before. (keeps.copies i b v pending.newest).reads ∙ holds i b v pending below before
  newest-round TailWrite holds = newest-home e.bound holds
  newest-round TailFlush holds = (newest-home e.bound holds.0, ap (λ (c : Cell). c.reads) (keeps.log 0) ∙ holds.1)

  -- the engine stays sound
  newest-sound : Sound e disk → Sound e after
  newest-sound sound = record {
    plain = sound.plain;
    superblock = λ v one. sound.superblock v (subst (λ (c : Cell). IsOneOf (held c) v) (keeps.log 0) one);
    durable = λ k low high. keeps.log (ring_place e.ring k) ∙ sound.durable k low high;
    behind = λ k v low high one. sound.behind k v low high (subst (λ (c : Cell). IsOneOf (held c) v) (keeps.log (ring_place e.ring k)) one);
    stage = newest-stage e.stage sound.stage;
    home = newest-home e.released sound.home;
    round = newest-round e.round sound.round;
  }

-- a direct call that succeeds keeps the engine sound
pub direct-sound : (old new : Engine) (disk after : Disk) (call : Call) → Sound old disk → DirectSteps old disk call new after → Sound new after
direct-sound old new disk after call sound step =
    subst (λ (e : Engine). Sound e after) (sym step.engine)
    (subst (Sound old) (sym step.disk_is) (newest-sound old disk (after_success call disk) (call-newest old disk call step.due) sound))

-- a direct call that fails keeps the engine sound
pub direct-fault-sound : (old new : Engine) (disk after : Disk) (call : Call) → Sound old disk → DirectFaults old disk call new after → Sound new after
direct-fault-sound old new disk after call sound fault =
    subst (λ (e : Engine). Sound e after) (sym fault.engine)
    (abort-sound old after (newest-sound old disk after (fault-newest old disk after call fault.due fault.disk_is) sound))

-- a direct call adds to home only the bytes that it writes
pub direct-adds : (may : Addition) (e : Engine) (disk : Disk) (call : Call) → ((b : ℕ) (v : List ℕ) → call ≡ Write Home b v → IsLeftToHome e b → may b v) →
    DirectCall e call → HomeAddsOnly may disk (after_success call disk)
direct-adds may e disk call adds (WriteDirect b v left allowed whole) = adds-written may disk b v (adds b v refl left)
direct-adds may e disk call adds SyncDirect = adds-flushed may disk

-- a direct call that fails adds at most those
pub direct-fault-adds : (may : Addition) (e : Engine) (disk after : Disk) (call : Call) →
    ((b : ℕ) (v : List ℕ) → call ≡ Write Home b v → IsLeftToHome e b → may b v) → DirectCall e call → IsAfterFault call disk after → HomeAddsOnly may disk after
direct-fault-adds may e disk after call adds (WriteDirect b v left allowed whole) fault = write-adds may b v disk after (adds b v refl left) fault
direct-fault-adds may e disk after call adds SyncDirect fault = adds-none may disk after (λ b. ap (λ (d : Disk). d Home b) (flush-same disk after fault))
