-- Commit steps and a seal make no checkpoint step.
use Rattle.std.proofs.Common.{refl, sym, ◌∙◌, subst}
use Rattle.std.specs.Prelude.{◌≡◌, ◌≢◌, Result, Ok, Err, OnOk}
use Rattle.journal_model.specs.Disk.{Disk}
use Rattle.journal_model.specs.declared.refusal.JournalError.{JournalError}
use Rattle.block_device.specs.State.{DeviceState}
use Rattle.journal_world.specs.declared.stage.Stage.{Stage}
use Rattle.journal_world.specs.declared.stage.Stage.TheVariants.{Idle, SuperblockWrite, SuperblockFlush, Blocks, CommitWrite, CommitFlush}
use Rattle.journal_world.specs.Engine.{CommitSteps, Engine, stepped_from}
use Rattle.journal_world.specs.Journal.Event.{Seal}
use Rattle.journal_steps.specs.declared.turn.Turn.{Turn}
use Rattle.journal_steps.specs.declared.turn.Turn.TheVariants.{Idle as IdleTurn, Waiting, Step, Sealed, Committed}
use Rattle.journal_steps.specs.Journal.{Does, HasRoomFor, TurnDid}
use Rattle.journal_steps.specs.Values.{JournalValue}
use Rattle.group_commit.specs.Close.{Went, locked_journal}
use Rattle.group_commit.specs.Rounds.{MakesNoRound, MakesRoomAlone}
use Rattle.group_commit.proofs.Finishing.{went-nowhere}

stepped-rounds : (e : Engine) (stage : Stage) → MakesNoRound e (stepped_from e stage)
stepped-rounds e Idle = record { released = refl; tail = refl; round = refl }
stepped-rounds e SuperblockWrite = record { released = refl; tail = refl; round = refl }
stepped-rounds e SuperblockFlush = record { released = refl; tail = refl; round = refl }
stepped-rounds e (Blocks k) = record { released = refl; tail = refl; round = refl }
stepped-rounds e CommitWrite = record { released = refl; tail = refl; round = refl }
stepped-rounds e CommitFlush = record { released = refl; tail = refl; round = refl }

commit-rounds : (old new : Engine) (disk after : Disk) → CommitSteps old disk new after → MakesNoRound old new
commit-rounds old new disk after step = subst (MakesNoRound old) (sym step.engine) (stepped-rounds old old.stage)

-- an engine to itself makes no round
pub no-rounds : (e : Engine) → MakesNoRound e e
no-rounds e = record { released = refl; tail = refl; round = refl }

-- two parts without a round make one
pub rounds-after : (one two three : Engine) → MakesNoRound one two → MakesNoRound two three → MakesNoRound one three
rounds-after one two three first second = record {
  released = second.released ∙ first.released;
  tail = second.tail ∙ first.tail;
  round = second.round ∙ first.round;
}

module _ {D : Type 0} (state : D → DeviceState) where
  -- a step of the commit under way makes no round
  pub turn-rounds : (turn : Turn) (old new : JournalValue D) → old.journal.engine.stage ≢ Idle → TurnDid state turn old new →
      MakesNoRound old.journal.engine new.journal.engine
  turn-rounds IdleTurn old new busy did = absurd (busy did.0.idle)
  turn-rounds Waiting old new busy did = absurd (busy did.0.idle)
  turn-rounds Step old new busy did =
      commit-rounds old.journal.engine new.journal.engine (state old.device).disk (state new.device).disk did.commits.engine
  turn-rounds (Sealed tid) old new busy did = absurd (busy did.0.engine.idle)
  turn-rounds (Committed tid) old new busy did =
      subst (MakesNoRound old.journal.engine) (sym (did.raises.engine ∙ did.finishes.engine))
      (commit-rounds old.journal.engine did.mid.engine (state old.device).disk (state new.device).disk did.commits.engine)

  -- a seal makes no round
  pub seal-rounds : (old new : JournalValue D) → Does state (locked_journal old) Seal new → MakesNoRound old.journal.engine new.journal.engine
  seal-rounds old new did = subst (MakesNoRound old.journal.engine) (sym did.engine.after) (record { released = refl; tail = refl; round = refl })

  -- if the ring has room once the commit under way has ended, no round was made
  pub room-there : (old mid : JournalValue D) → Went state old mid → mid.journal.engine.stage ≡ Idle → MakesNoRound old.journal.engine mid.journal.engine →
      MakesRoomAlone state old mid
  room-there old mid went idle first = record {
    mid = mid;
    went = went;
    idle = idle;
    first = first;
    made = mid;
    makes = went-nowhere state mid went.running;
    none = λ has. no-rounds mid.journal.engine;
    last = no-rounds mid.journal.engine;
  }

  -- if it has none, any rounds are for lack of room
  pub room-wanted : {T : Type 0} (r : Result T JournalError) (old mid new : JournalValue D) → Went state old mid → mid.journal.engine.stage ≡ Idle →
      MakesNoRound old.journal.engine mid.journal.engine → (HasRoomFor mid.journal → ⊥) → OnOk r (Went state mid new) →
      OnOk r (MakesRoomAlone state old new)
  room-wanted (Ok x) old mid new went idle first lacks makes = record {
    mid = mid;
    went = went;
    idle = idle;
    first = first;
    made = new;
    makes = makes;
    none = λ has. absurd (lacks has);
    last = no-rounds new.journal.engine;
  }
  room-wanted (Err e) old mid new went idle first lacks makes = tt

  -- after the room is made, the seal and its commit make no round
  pub sealed-rounds : {T : Type 0} (r : Result T JournalError) (old mid sealed new : JournalValue D) → MakesRoomAlone state old mid →
      MakesNoRound mid.journal.engine sealed.journal.engine → OnOk r (MakesNoRound sealed.journal.engine new.journal.engine) →
      OnOk r (MakesRoomAlone state old new)
  sealed-rounds (Ok x) old mid sealed new room seal commit = record {
    mid = room.mid;
    went = room.went;
    idle = room.idle;
    first = room.first;
    made = room.made;
    makes = room.makes;
    none = room.none;
    last = rounds-after room.made.journal.engine mid.journal.engine new.journal.engine room.last
        (rounds-after mid.journal.engine sealed.journal.engine new.journal.engine seal commit);
  }
  sealed-rounds (Err e) old mid sealed new room seal commit = tt
