-- What each move adds to home: an engine newest copies and direct writes, an opening newest live copies, others
-- nothing.
use Rattle.std.proofs.Common.{refl, sym, ap, subst, inl, inr, ⊎_elim}
use Rattle.std.specs.Prelude.{◌≡◌, ℕ, List, Option}
use Rattle.journal_model.specs.declared.number.Area.TheVariants.{Home}
use Rattle.journal_model.specs.Disk.{Disk, Image, IsOneOf, Leaves, Shape, disk_of, held}
use Rattle.log_model.specs.HomeChange.{Addition, HomeAddsOnly}
use Rattle.log_model.specs.Replay.{IsNewest}
use Rattle.journal_world.specs.Call.{Call, IsAfterFault, after_success}
use Rattle.journal_world.specs.Call.Call.{Write}
use Rattle.journal_world.specs.Direct.{IsAddedDirectly, IsLeftToHome}
use Rattle.journal_world.specs.Engine.{Engine}
use Rattle.journal_world.proofs.DirectCalls.{direct-adds, direct-fault-adds}
use Rattle.journal_world.proofs.DirectRights.{same-write}
use Rattle.journal_world.proofs.HomeCopies.{adds-flushed, adds-none, round-adds, round-fault-adds}
use Rattle.journal_world.proofs.Homes.{fault-home, step-home}
use Rattle.journal_world.proofs.Places.{is_write-fault}
use Rattle.log_epochs.specs.EnginePromise.{EngineMayAdd, MayAdd, OpeningMayAdd, StepMayAdd}
use Rattle.log_epochs.specs.EngineSteps.{Event, Happens, closed_superblock}
use Rattle.log_epochs.specs.EngineSteps.Event.{Accept, Read, CommitStep, CommitFault, CheckpointStep, CheckpointFault, ReadFault, DirectWrite, DirectWriteFault, DirectSync, DirectSyncFault}
use Rattle.log_epochs.specs.EngineWorld.{CloseCall, Move, Moves, Phase, World}
use Rattle.log_epochs.specs.EngineWorld.CloseCall.{WriteClosed, FlushClosed}
use Rattle.log_epochs.specs.EngineWorld.Move.{Step, CloseStep, CloseFault, GiveUp, Stop, Begin, OpeningStep, OpeningFault, AnswerOk, Upgrade}
use Rattle.log_epochs.specs.Epoch.{Epoch}
use Rattle.log_epochs.specs.OpeningSteps.{Found, OpeningCall, OpeningStage, clean_superblock}
use Rattle.log_epochs.specs.OpeningSteps.OpeningCall.{FlushClean, FlushLog, CopyHome, FlushHome, WriteSuperblock, FlushSuperblock}
use Rattle.log_epochs.proofs.Homes.{copying-fault, copying-flushed, copying-same, copying-written, flush-undone}
use Rattle.log_epochs.specs.UpgradeSteps.{UpgradeCall, UpgradeStage}
use Rattle.log_epochs.specs.UpgradeSteps.UpgradeCall.{FlushLog as UpgradeFlush, WriteSuperblock as UpgradeWrite, FlushSuperblock as UpgradeEnd}
use Rattle.log_epochs.specs.EngineWorld.UpgradeMove.{BeginUpgrade, UpgradeStep, UpgradeFault}
use Rattle.log_model.specs.Superblock.{widened}

-- an unchanged disk adds nothing
pub same-adds : (may : Addition) (old new : Disk) → new ≡ old → HomeAddsOnly may old new
same-adds may old new same = adds-none may old new (λ b. ap (λ (d : Disk). d Home b) same)

-- a direct write adds its own bytes
written-directly : (e : Engine) (b : ℕ) (v : List ℕ) (c : ℕ) (w : List ℕ) → Write Home b v ≡ Write Home c w → IsLeftToHome e c → IsAddedDirectly e b v c w
written-directly e b v c w same left = let is = same-write b c v w same in (subst (IsLeftToHome e) is.0 left, is.0, is.1)

-- a step of the engine adds a direct write's bytes, or newest committed copies
event-adds : (old new : Engine) (disk after : Disk) (event : Event) → Happens old disk event new after → HomeAddsOnly (StepMayAdd old event) disk after
event-adds old new disk after (Accept b) happens = same-adds (StepMayAdd old (Accept b)) disk after happens.disk_is
event-adds old new disk after (Read b v) happens = same-adds (StepMayAdd old (Read b v)) disk after happens.disk_is
event-adds old new disk after CommitStep happens = adds-none (StepMayAdd old CommitStep) disk after (step-home old new disk after happens).same
event-adds old new disk after CommitFault happens = adds-none (StepMayAdd old CommitFault) disk after (fault-home old new disk after happens).same
event-adds old new disk after CheckpointStep happens = round-adds (StepMayAdd old CheckpointStep) old new disk after (λ i b v newest. (i, newest)) happens
event-adds old new disk after CheckpointFault happens =
    round-fault-adds (StepMayAdd old CheckpointFault) old new disk after (λ i b v newest. (i, newest)) happens
event-adds old new disk after ReadFault happens = same-adds (StepMayAdd old ReadFault) disk after happens.disk_is
event-adds old new disk after (DirectWrite b v) happens =
    subst (HomeAddsOnly (StepMayAdd old (DirectWrite b v)) disk) (sym happens.disk_is)
    (direct-adds (StepMayAdd old (DirectWrite b v)) old disk (Write Home b v) (written-directly old b v) happens.due)
event-adds old new disk after (DirectWriteFault b v) happens =
    direct-fault-adds (StepMayAdd old (DirectWriteFault b v)) old disk after (Write Home b v) (written-directly old b v) happens.due happens.disk_is
event-adds old new disk after DirectSync happens =
    subst (HomeAddsOnly (StepMayAdd old DirectSync) disk) (sym happens.disk_is) (adds-flushed (StepMayAdd old DirectSync) disk)
event-adds old new disk after DirectSyncFault happens = same-adds (StepMayAdd old DirectSyncFault) disk after (flush-undone disk after happens.disk_is)

-- a call of a close adds nothing
close-adds : (may : Addition) (e : Engine) (disk : Disk) (phase next : Phase) (call : Call) → CloseCall e phase call next →
    HomeAddsOnly may disk (after_success call disk)
close-adds may e disk phase next call (WriteClosed allowed) = adds-none may disk _ (λ b. refl)
close-adds may e disk phase next call FlushClosed = adds-none may disk _ (λ b. refl)

close-fault-adds : (may : Addition) (e : Engine) (disk after : Disk) (phase next : Phase) (call : Call) → CloseCall e phase call next →
    IsAfterFault call disk after → HomeAddsOnly may disk after
close-fault-adds may e disk after phase next call (WriteClosed allowed) fault =
    adds-none may disk after (is_write-fault disk after 0 (closed_superblock e) fault).home.same
close-fault-adds may e disk after phase next call FlushClosed fault = same-adds may disk after (flush-undone disk after fault)

-- a call of an opening adds newest live copies alone
opening-adds : (shape : Shape) (found : Found) (disk : Disk) (stage next : OpeningStage) (call : Call) → OpeningCall shape found disk stage call next →
    HomeAddsOnly (IsNewest found.texts) disk (after_success call disk)
opening-adds shape found disk stage next call (FlushClean clean) = adds-none (IsNewest found.texts) disk _ (λ b. refl)
opening-adds shape found disk stage next call (FlushLog has) = adds-none (IsNewest found.texts) disk _ (λ b. refl)
opening-adds shape found disk stage next call (CopyHome b v newest) =
    (copying-written (IsNewest found.texts) disk disk b v newest (copying-same (IsNewest found.texts) disk)).home
opening-adds shape found disk stage next call (FlushHome replayed) =
    (copying-flushed (IsNewest found.texts) disk disk (copying-same (IsNewest found.texts) disk)).home
opening-adds shape found disk stage next call WriteSuperblock = adds-none (IsNewest found.texts) disk _ (λ b. refl)
opening-adds shape found disk stage next call FlushSuperblock = adds-none (IsNewest found.texts) disk _ (λ b. refl)

opening-fault-adds : (shape : Shape) (found : Found) (disk after : Disk) (stage next : OpeningStage) (call : Call) →
    OpeningCall shape found disk stage call next → IsAfterFault call disk after → HomeAddsOnly (IsNewest found.texts) disk after
opening-fault-adds shape found disk after stage next call (FlushClean clean) fault = same-adds (IsNewest found.texts) disk after (flush-undone disk after fault)
opening-fault-adds shape found disk after stage next call (FlushLog has) fault = same-adds (IsNewest found.texts) disk after (flush-undone disk after fault)
opening-fault-adds shape found disk after stage next call (CopyHome b v newest) fault =
    (copying-fault (IsNewest found.texts) disk disk after b v newest (copying-same (IsNewest found.texts) disk) fault).home
opening-fault-adds shape found disk after stage next call (FlushHome replayed) fault = same-adds (IsNewest found.texts) disk after (flush-undone disk after fault)
opening-fault-adds shape found disk after stage next call WriteSuperblock fault =
    adds-none (IsNewest found.texts) disk after (is_write-fault disk after 0 (clean_superblock found) fault).home.same
opening-fault-adds shape found disk after stage next call FlushSuperblock fault = same-adds (IsNewest found.texts) disk after (flush-undone disk after fault)

-- a call of an upgrade adds nothing
upgrade-adds : (may : Addition) (disk : Disk) (block : List ℕ) (stage next : UpgradeStage) (call : Call) → UpgradeCall block stage call next →
    HomeAddsOnly may disk (after_success call disk)
upgrade-adds may disk block stage next call UpgradeFlush = adds-none may disk _ (λ b. refl)
upgrade-adds may disk block stage next call UpgradeWrite = adds-none may disk _ (λ b. refl)
upgrade-adds may disk block stage next call UpgradeEnd = adds-none may disk _ (λ b. refl)

upgrade-fault-adds : (may : Addition) (disk after : Disk) (block : List ℕ) (stage next : UpgradeStage) (call : Call) → UpgradeCall block stage call next →
    IsAfterFault call disk after → HomeAddsOnly may disk after
upgrade-fault-adds may disk after block stage next call UpgradeFlush fault = same-adds may disk after (flush-undone disk after fault)
upgrade-fault-adds may disk after block stage next call UpgradeWrite fault = adds-none may disk after (is_write-fault disk after 0 (widened block) fault).home.same
upgrade-fault-adds may disk after block stage next call UpgradeEnd fault = same-adds may disk after (flush-undone disk after fault)

-- a crash leaves of each block a value held there
stop-adds : (disk : Disk) (left : Image) → Leaves disk left → HomeAddsOnly (λ b v. IsOneOf (held (disk Home b)) v) disk (disk_of left)
stop-adds disk left leaves = record {
  reads = λ b. inr (leaves.each Home b);
  left = λ b v one. inl (⊎_elim (λ is. subst (λ (w : List ℕ). IsOneOf (held (disk Home b)) w) (sym is) (leaves.each Home b)) (λ none. absurd none) one);
}

-- what the made world adds, an equal world adds
of-world : (may : Addition) (old : Disk) (new made : World) → new ≡ made → HomeAddsOnly may old made.disk → HomeAddsOnly may old new.disk
of-world may old new made is adds = subst (λ (w : World). HomeAddsOnly may old w.disk) (sym is) adds

-- each move adds to home only what it may
pub move-home : (w : World) (move : Move) (new : World) → Moves w move new → HomeAddsOnly (MayAdd w move) w.disk new.disk
move-home w (Step event) new moves =
    subst (λ (o : Option Epoch). HomeAddsOnly (EngineMayAdd o event) w.disk new.disk) (sym moves.now)
    (event-adds moves.epoch.engine moves.engine w.disk new.disk event moves.happens)
move-home w CloseStep new moves =
    of-world (MayAdd w CloseStep) w.disk new _ moves.after (close-adds (MayAdd w CloseStep) moves.epoch.engine w.disk w.phase moves.phase moves.call moves.due)
move-home w CloseFault new moves =
    close-fault-adds (MayAdd w CloseFault) moves.epoch.engine w.disk new.disk w.phase moves.phase moves.call moves.due moves.disk_is
move-home w GiveUp new moves = same-adds (MayAdd w GiveUp) w.disk new.disk (ap (λ (x : World). x.disk) moves.after)
move-home w (Stop left) new moves = of-world (MayAdd w (Stop left)) w.disk new _ moves.after (stop-adds w.disk left moves.leaves)
move-home w (Begin found) new moves = same-adds (MayAdd w (Begin found)) w.disk new.disk (ap (λ (x : World). x.disk) moves.after)
move-home w OpeningStep new moves =
    subst (λ (p : Phase). HomeAddsOnly (OpeningMayAdd p) w.disk new.disk) (sym moves.opening)
    (of-world (IsNewest moves.found.texts) w.disk new _ moves.after (opening-adds w.shape moves.found w.disk moves.stage moves.next moves.call moves.due))
move-home w OpeningFault new moves =
    subst (λ (p : Phase). HomeAddsOnly (OpeningMayAdd p) w.disk new.disk) (sym moves.opening)
    (opening-fault-adds w.shape moves.found w.disk new.disk moves.stage moves.next moves.call moves.due moves.disk_is)
move-home w (Upgrade (BeginUpgrade block)) new moves = same-adds (MayAdd w (Upgrade (BeginUpgrade block))) w.disk new.disk (ap (λ (x : World). x.disk) moves.after)
move-home w (Upgrade UpgradeStep) new moves =
    of-world (MayAdd w (Upgrade UpgradeStep)) w.disk new _ moves.after (upgrade-adds (MayAdd w (Upgrade UpgradeStep)) w.disk moves.block moves.stage moves.next moves.call moves.due)
move-home w (Upgrade UpgradeFault) new moves =
    upgrade-fault-adds (MayAdd w (Upgrade UpgradeFault)) w.disk new.disk moves.block moves.stage moves.next moves.call moves.due moves.disk_is
move-home w AnswerOk new moves = same-adds (MayAdd w AnswerOk) w.disk new.disk (ap (λ (x : World). x.disk) moves.after)
