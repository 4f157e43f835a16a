-- Until something is handed over, block 0 is durable as the opening left it.
use Rattle.std.proofs.Common.{refl, sym, ◌∙◌, ap, subst, arith}
use Rattle.std.specs.Prelude.{◌≡◌, ◌≢◌, ℕ, ◌<◌, Bool, true, false, if◌then◌else◌, List}
use Rattle.journal_model.specs.declared.entry.Batch.{Batch}
use Rattle.journal_model.specs.declared.number.Area.TheVariants.{Log}
use Rattle.journal_model.specs.Disk.{Disk, Shape}
use Rattle.journal_world.specs.declared.round.Round.{Round}
use Rattle.journal_world.specs.declared.round.Round.TheVariants.{Idle as NoRound, Copies, TailWrite, TailFlush}
use Rattle.journal_world.specs.declared.stage.Stage.{Stage}
use Rattle.journal_world.specs.declared.stage.Stage.TheVariants.{Idle, SuperblockWrite, SuperblockFlush, Blocks, CommitWrite, CommitFlush}
use Rattle.journal_world.specs.Call.{Call, IsAfterFault, after_success}
use Rattle.journal_world.specs.Call.IsAfterFault.{Undone}
use Rattle.journal_world.specs.Checkpoint.{HasRound, RoundCall, RoundFaults, RoundSteps, begun, begun_from}
use Rattle.journal_world.specs.Checkpoint.RoundCall.{CopyHome, FlushHome, WriteTail, FlushTail}
use Rattle.journal_world.specs.Direct.{DirectCall, DirectFaults, DirectSteps}
use Rattle.journal_world.specs.Direct.DirectCall.{SyncDirect, WriteDirect}
use Rattle.journal_world.specs.Engine.{Accepts, CommitFaults, CommitSteps, Engine, accepting, stepped_from}
use Rattle.journal_world.specs.Journal.{fresh_engine}
use Rattle.journal_world.specs.Opening.{IsOpenedLog}
use Rattle.journal_world.specs.Sound.{IsPlain, StageAgrees, durable_cell}
use Rattle.journal_world.proofs.Copying.{home-fault, home-written}
use Rattle.log_engine.specs.Close.{KeepsClean}
use Rattle.log_engine.proofs.Stepping.{busy}

-- while a commit is under way, nothing is claimed
clean-busy : (e : Engine) (disk : Disk) → e.stage ≢ Idle → KeepsClean e disk
clean-busy e disk busy = record { durable = λ fresh idle. absurd (busy idle) }

-- nor of a log that is not clean
clean-started : (e : Engine) (disk : Disk) → e.started ≡ true → KeepsClean e disk
clean-started e disk started = record { durable = λ fresh idle. cc }

-- an opening leaves it so
pub fresh-clean : (shape : Shape) (disk : Disk) (superblock : List ℕ) (next : ℕ) → IsOpenedLog shape disk superblock next →
    KeepsClean (fresh_engine shape superblock next) disk
fresh-clean shape disk superblock next log = record { durable = λ fresh idle. log.durable }

-- an unchanged engine and disk keep it
pub same-clean : (e new : Engine) (disk after : Disk) → new.started ≡ e.started → new.stage ≡ e.stage → new.superblock ≡ e.superblock → after ≡ disk →
    KeepsClean e disk → KeepsClean new after
same-clean e new disk after started stage superblock same keeps = record {
  durable = λ fresh idle.
      ap (λ (d : Disk). d Log 0) same ∙ keeps.durable (sym started ∙ fresh) (sym stage ∙ idle)
      ∙ ap (λ (block : List ℕ). durable_cell block) (sym superblock);
}

first-busy : (started : Bool) → (if started then Blocks 0 else SuperblockWrite) ≢ Idle
first-busy true is = cc
first-busy false is = cc

-- an accepted batch puts a commit under way
pub taken-clean : (e new : Engine) (b : Batch) (disk : Disk) → Accepts e b new → KeepsClean new disk
taken-clean e new b disk accepts =
    subst (λ (x : Engine). KeepsClean x disk) (sym accepts.after) (clean-busy (accepting e b) disk (first-busy e.started))

started-at : (e : Engine) (stage : Stage) → StageAgrees e stage → stage ≢ Idle → (stepped_from e stage).started ≡ true
started-at e Idle agrees busy = absurd (busy refl)
started-at e SuperblockWrite agrees busy = refl
started-at e SuperblockFlush agrees busy = agrees.1
started-at e (Blocks k) agrees busy = agrees.1
started-at e CommitWrite agrees busy = agrees.1
started-at e CommitFlush agrees busy = agrees.1

-- after a commit step the log is not clean
pub step-clean : (old new : Engine) (disk after : Disk) → IsPlain old → CommitSteps old disk new after → KeepsClean new after
step-clean old new disk after plain step =
    clean-started new after
    (ap (λ (e : Engine). e.started) step.engine ∙ started-at old old.stage plain.stage (busy old step.call step.due))

-- after a failed one the commit is still under way
pub fault-clean : (old new : Engine) (disk after : Disk) → CommitFaults old disk new after → KeepsClean new after
fault-clean old new disk after fault =
    clean-busy new after
    (λ idle. busy old fault.call fault.due (sym (ap (λ (e : Engine). e.stage) fault.engine) ∙ idle))

-- a round leaves the commit and what the superblock says of the log's start
record KeepsRest (e new : Engine) : Type 0 where
  started : new.started ≡ e.started
  stage : new.stage ≡ e.stage

begun-rest : (e : Engine) (round : Round) → KeepsRest e (begun_from e round)
begun-rest e NoRound = record { started = refl; stage = refl }
begun-rest e (Copies transaction block) = record { started = refl; stage = refl }
begun-rest e TailWrite = record { started = refl; stage = refl }
begun-rest e TailFlush = record { started = refl; stage = refl }

call-rest : (e : Engine) (round : Round) (call : Call) (new : Engine) → RoundCall e round call new → KeepsRest e new
call-rest e round call new (CopyHome transaction block i b v next) = record { started = refl; stage = refl }
call-rest e round call new (FlushHome transaction block none) = record { started = refl; stage = refl }
call-rest e round call new WriteTail = record { started = refl; stage = refl }
call-rest e round call new FlushTail = record { started = refl; stage = refl }

-- if there is something to release, a transaction was handed over
never-fresh : (e : Engine) → IsPlain e → HasRound e → e.started ≡ false → e.stage ≡ Idle → ⊥
never-fresh e plain has fresh idle =
    let agrees : StageAgrees e Idle = subst (StageAgrees e) idle plain.stage in
    let none : e.committed ≡ 0 = agrees.1 fresh in
    let some : e.released < e.committed = has in
    absurd (omega arith)

rest-clean : (e new : Engine) (disk : Disk) → IsPlain e → HasRound e → KeepsRest e new → KeepsClean new disk
rest-clean e new disk plain has rest = record {
  durable = λ fresh idle. absurd (never-fresh e plain has (sym rest.started ∙ fresh) (sym rest.stage ∙ idle));
}

-- so nothing is claimed after a checkpoint step
pub round-clean : (old new : Engine) (disk after : Disk) → IsPlain old → RoundSteps old disk new after → KeepsClean new after
round-clean old new disk after plain step =
    let begins = begun-rest old old.round in
    let calls = call-rest (begun old) (begun old).round step.call new step.due in
    rest-clean old new after plain step.round (record { started = calls.started ∙ begins.started; stage = calls.stage ∙ begins.stage })

-- nor after a failed one
pub round-fault-clean : (old new : Engine) (disk after : Disk) → IsPlain old → RoundFaults old disk new after → KeepsClean new after
round-fault-clean old new disk after plain fault =
    let begins = begun-rest old old.round in
    rest-clean old new after plain fault.round
    (record {
      started = ap (λ (e : Engine). e.started) fault.engine ∙ begins.started;
      stage = ap (λ (e : Engine). e.stage) fault.engine ∙ begins.stage;
    })

-- a successful direct call leaves the log
direct-log : (e : Engine) (disk : Disk) (call : Call) → DirectCall e call → (n : ℕ) → after_success call disk Log n ≡ disk Log n
direct-log e disk call (WriteDirect b v left allowed whole) n = (home-written disk b v).log n
direct-log e disk call SyncDirect n = refl

-- so does a failed one
fault-log : (e : Engine) (disk after : Disk) (call : Call) → DirectCall e call → IsAfterFault call disk after → (n : ℕ) → after Log n ≡ disk Log n
fault-log e disk after call (WriteDirect b v left allowed whole) fault n = (home-fault disk after b v fault).log n
fault-log e disk after call SyncDirect (Undone flush x y same) n = ap (λ (d : Disk). d Log n) same

-- so block 0 stays
pub direct-clean : (old new : Engine) (disk after : Disk) (call : Call) → DirectSteps old disk call new after → KeepsClean old disk → KeepsClean new after
direct-clean old new disk after call step keeps =
    subst (λ (e : Engine). KeepsClean e after) (sym step.engine)
    (record { durable = λ fresh idle. ap (λ (d : Disk). d Log 0) step.disk_is ∙ direct-log old disk call step.due 0 ∙ keeps.durable fresh idle })

pub direct-fault-clean : (old new : Engine) (disk after : Disk) (call : Call) → DirectFaults old disk call new after → KeepsClean old disk → KeepsClean new after
direct-fault-clean old new disk after call fault keeps =
    subst (λ (e : Engine). KeepsClean e after) (sym fault.engine)
    (record { durable = λ fresh idle. fault-log old disk after call fault.due fault.disk_is 0 ∙ keeps.durable fresh idle })
