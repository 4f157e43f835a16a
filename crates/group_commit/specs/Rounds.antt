-- Which checkpoint steps a commit makes.
use Rattle.std.specs.Prelude.{◌≡◌, ◌⊎◌, ℕ, ◌+◌, ◌-◌, ◌≤◌}
use Rattle.block_device.specs.State.{DeviceState}
use Rattle.journal_world.specs.declared.stage.Stage.TheVariants.{Idle}
use Rattle.journal_world.specs.Engine.{Engine}
use Rattle.log_engine.specs.Rounds.{IsRoundDue}
use Rattle.journal_steps.specs.declared.turn.CheckTurn.{CheckTurn}
use Rattle.journal_steps.specs.Journal.{CheckTurnDid, HasRoomFor}
use Rattle.journal_steps.specs.Values.{JournalValue}
use Rattle.group_commit.specs.Close.{Went}

-- no checkpoint step was made: no more is released, and the round under way is where it was
pub record MakesNoRound (old new : Engine) : Type 0 where
  pub released : new.released ≡ old.released
  pub tail : new.tail ≡ old.tail
  pub round : new.round ≡ old.round

-- Rounds were made only for lack of room, and only before the seal: none until the commit under way had ended, none while room was made
-- if the ring then had it for the running transaction, and none later. Moves that make room seal nothing.
pub record MakesRoomAlone {D : Type 0} (state : D → DeviceState) (old new : JournalValue D) : Type 0 where
  pub mid : JournalValue D
  pub went : Went state old mid
  pub idle : mid.journal.engine.stage ≡ Idle
  pub first : MakesNoRound old.journal.engine mid.journal.engine
  pub made : JournalValue D
  pub makes : Went state mid made
  pub none : HasRoomFor mid.journal → MakesNoRound mid.journal.engine made.journal.engine
  pub last : MakesNoRound made.journal.engine new.journal.engine

-- so many checkpoint turns lead from the one journal to the other, each taken while a round is due
pub data TakesDueTurns {D : Type 0} (state : D → DeviceState) (old : JournalValue D) : ℕ → JournalValue D → Type 0 where
  NoTurn : TakesDueTurns state old 0 old
  OneMore : (n : ℕ) (mid new : JournalValue D) (turn : CheckTurn) → TakesDueTurns state old n mid → IsRoundDue mid.journal.engine →
      CheckTurnDid state turn mid new → TakesDueTurns state old (n + 1) new

-- so many turns ahead of need, or fewer if no round is due any more
pub record KeepsRoom {D : Type 0} (state : D → DeviceState) (turns : ℕ) (old new : JournalValue D) : Type 0 where
  pub count : ℕ
  pub takes : TakesDueTurns state old count new
  pub few : count ≤ turns
  pub all : (count ≡ turns) ⊎ (IsRoundDue new.journal.engine → ⊥)

-- a commit made rounds only for lack of room before its seal; once it had ended, turns ahead of need followed, no more than it and the
-- commit under way took ring blocks
pub record MakesRoomAhead {D : Type 0} (state : D → DeviceState) (old new : JournalValue D) : Type 0 where
  pub done : JournalValue D
  pub alone : MakesRoomAlone state old done
  pub idle : done.journal.engine.stage ≡ Idle
  pub ahead : KeepsRoom state (done.journal.engine.start - old.journal.engine.start) done new
