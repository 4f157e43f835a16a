-- The device calls of turns, in sequence.
use Rattle.std.proofs.Common.{refl, sym, ◌∙◌, ap, subst, arith, ⊎_elim}
use Rattle.std.specs.Prelude.{◌≡◌, ◌≢◌, ℕ, zero, suc, true, false, length, eqb}
use Rattle.std.proofs.lemmas.Bool.{true≢false}
use Rattle.std.proofs.lemmas.Bool.Decides.{eqb_tells}
use Rattle.journal_model.specs.declared.refusal.JournalError.{JournalError}
use Rattle.block_device.specs.State.{DeviceState, MakesAtMostOneCall}
use Rattle.journal_world.specs.declared.stage.Stage.TheVariants.{Idle}
use Rattle.journal_world.specs.Engine.{CommitFaults, CommitSteps, Engine}
use Rattle.journal_world.specs.Checkpoint.{RoundFaults}
use Rattle.journal_world.specs.Journal.{Journal, batch_of}
use Rattle.journal_world.specs.Journal.Event.{Seal}
use Rattle.log_engine.specs.Engine.{EngineValue}
use Rattle.journal_steps.specs.declared.turn.CheckTurn.{CheckTurn}
use Rattle.journal_steps.specs.declared.turn.CheckTurn.TheVariants.{Idle as IdleCheck, Step as StepCheck, Released}
use Rattle.journal_steps.specs.declared.turn.Turn.{Turn}
use Rattle.journal_steps.specs.declared.turn.Turn.TheVariants.{Idle as IdleTurn, Waiting, Step, Sealed, Committed}
use Rattle.journal_steps.specs.Journal.{CheckTurnDid, CheckTurnRefused, Does, Requests, TurnDid, TurnRefused}
use Rattle.journal_steps.specs.Journal.CheckTurnRefused.{CheckAborted, CheckFailed}
use Rattle.journal_steps.specs.Journal.TurnRefused.{DeviceFailed, MemoryIsShort, RingIsShort, WasAborted}
use Rattle.journal_steps.specs.Values.{JournalValue}
use Rattle.group_commit.specs.Calls.{CallsForTurns, IsOwnStep, MakesOwnCalls, engine_in}
use Rattle.group_commit.specs.Calls.IsOwnStep.{Commits, CommitFails, Checkpoints, CheckpointFails}
use Rattle.group_commit.specs.Calls.MakesOwnCalls.{NoCall, HandsOver, OneMore}
use Rattle.group_commit.specs.Close.{locked_journal}

module _ {D : Type 0} (state : D → DeviceState) where
  -- two sequences of own calls make one
  own-after : (a b c : EngineValue D) → MakesOwnCalls state a b → MakesOwnCalls state b c → MakesOwnCalls state a c
  own-after a b c first NoCall = first
  own-after a b c first (HandsOver mid new batch before accepts same) = HandsOver mid c batch (own-after a b mid first before) accepts same
  own-after a b c first (OneMore mid new before step one) = OneMore mid c (own-after a b mid first before) step one

  pub calls-after : (a b c : JournalValue D) → CallsForTurns state a b → CallsForTurns state b c → CallsForTurns state a c
  calls-after a b c first second = record { own = own-after (engine_in a) (engine_in b) (engine_in c) first.own second.own }

  -- if engine and device stay, there is no call
  pub no-calls : (old new : JournalValue D) → new.journal.engine ≡ old.journal.engine → new.device ≡ old.device → CallsForTurns state old new
  no-calls old new engine device = record {
    own =
        subst (λ (e : Engine). MakesOwnCalls state (engine_in old) (record { device = new.device; engine = e })) (sym engine)
        (subst (λ (d : D). MakesOwnCalls state (engine_in old) (record { device = d; engine = old.journal.engine })) (sym device) NoCall);
  }

  -- if the journal stays, there is no call
  pub same-calls : (old new : JournalValue D) → new ≡ old → CallsForTurns state old new
  same-calls old new same = no-calls old new (ap (λ (v : JournalValue D). v.journal.engine) same) (ap (λ (v : JournalValue D). v.device) same)

  -- one step makes one call at most
  one-call : (old new : JournalValue D) → IsOwnStep old.journal.engine (state old.device).disk new.journal.engine (state new.device).disk →
      MakesAtMostOneCall (state old.device) (state new.device) → CallsForTurns state old new
  one-call old new step one = record { own = OneMore (engine_in old) (engine_in new) NoCall step one }

  -- a step of the commit under way is an own step
  turn-step : (turn : Turn) (old new : JournalValue D) → old.journal.engine.stage ≢ Idle → TurnDid state turn old new →
      IsOwnStep old.journal.engine (state old.device).disk new.journal.engine (state new.device).disk
  turn-step IdleTurn old new busy did = absurd (busy did.0.idle)
  turn-step Waiting old new busy did = absurd (busy did.0.idle)
  turn-step Step old new busy did = Commits did.commits.engine
  turn-step (Sealed tid) old new busy did = absurd (busy did.0.engine.idle)
  turn-step (Committed tid) old new busy did =
      let engine : new.journal.engine ≡ did.mid.engine = did.raises.engine ∙ did.finishes.engine in
      Commits (subst (λ (e : Engine). CommitSteps old.journal.engine (state old.device).disk e (state new.device).disk) (sym engine) did.commits.engine)

  refused-step : (old new : JournalValue D) (e : JournalError) → old.journal.engine.aborted ≡ false → old.journal.engine.stage ≢ Idle →
      TurnRefused state old new e → IsOwnStep old.journal.engine (state old.device).disk new.journal.engine (state new.device).disk
  refused-step old new e running busy (WasAborted is same) = absurd (true≢false (sym is ∙ running))
  refused-step old new e running busy (RingIsShort due none same) = absurd (busy due.idle)
  refused-step old new e running busy (MemoryIsShort due room same) = absurd (busy due.idle)
  refused-step old new e running busy (DeviceFailed fails counted) =
      CommitFails (subst (λ (e : Engine). CommitFaults old.journal.engine (state old.device).disk e (state new.device).disk) (sym fails.notifies.engine) fails.fails.engine)

  pub turn-calls : (turn : Turn) (old new : JournalValue D) → old.journal.engine.stage ≢ Idle → TurnDid state turn old new →
      MakesAtMostOneCall (state old.device) (state new.device) → CallsForTurns state old new
  turn-calls turn old new busy did one = one-call old new (turn-step turn old new busy did) one

  pub refused-calls : (old new : JournalValue D) (e : JournalError) → old.journal.engine.aborted ≡ false → old.journal.engine.stage ≢ Idle →
      TurnRefused state old new e → MakesAtMostOneCall (state old.device) (state new.device) → CallsForTurns state old new
  refused-calls old new e running busy refused one = one-call old new (refused-step old new e running busy refused) one

  -- a checkpoint step makes own calls only
  pub check-calls : (turn : CheckTurn) (old new : JournalValue D) → CheckTurnDid state turn old new → (turn ≡ IdleCheck → new.device ≡ old.device) →
      MakesAtMostOneCall (state old.device) (state new.device) → CallsForTurns state old new
  check-calls IdleCheck old new did idle one = no-calls old new (ap (λ (j : Journal). j.engine) did.1) (idle refl)
  check-calls StepCheck old new did idle one = one-call old new (Checkpoints did.0.engine) one
  check-calls (Released tid) old new did idle one = one-call old new (Checkpoints did.0.engine) one

  pub refused_check-calls : (old new : JournalValue D) (e : JournalError) → old.journal.engine.aborted ≡ false → CheckTurnRefused state old new e →
      MakesAtMostOneCall (state old.device) (state new.device) → CallsForTurns state old new
  refused_check-calls old new e running (CheckAborted is same stays counted) one = absurd (true≢false (sym is ∙ running))
  refused_check-calls old new e running (CheckFailed fails counted) one =
      one-call old new
      (CheckpointFails (subst (λ (e : Engine). RoundFaults old.journal.engine (state old.device).disk e (state new.device).disk) (sym fails.notifies.engine) fails.fails.engine))
      one

  -- a seal makes no call
  pub seal-calls : (old new : JournalValue D) → Does state (locked_journal old) Seal new → new.device ≡ old.device → CallsForTurns state old new
  seal-calls old new did device = record { own = HandsOver (engine_in old) (engine_in new) (batch_of old.journal.front.running) NoCall did.engine device }

  -- a request leaves the engine
  asked-of : (tid : ℕ) (old new : JournalValue D) → Requests state tid old new → (n : ℕ) → length old.journal.front.running.handles ≡ n →
      new.journal.engine ≡ old.journal.engine
  asked-of tid old new asks zero none = ap (λ (v : JournalValue D). v.journal.engine) (asks.empty none)
  asked-of tid old new asks (suc n) some =
      ⊎_elim
      (λ (is : (eqb tid old.journal.front.running.tid ≡ true) × (tid ≡ old.journal.front.running.tid)).
      (asks.same is.1 (omega arith)).engine)
      (λ (other : (eqb tid old.journal.front.running.tid ≡ false) × (tid ≢ old.journal.front.running.tid)).
      ap (λ (v : JournalValue D). v.journal.engine) (asks.other other.1))
      (eqb_tells tid old.journal.front.running.tid)

  pub asked-calls : (tid : ℕ) (old new : JournalValue D) → Requests state tid old new → new.device ≡ old.device → CallsForTurns state old new
  asked-calls tid old new asks device = no-calls old new (asked-of tid old new asks (length old.journal.front.running.handles) refl) device
