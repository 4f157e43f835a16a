-- The machine's moves that an engine makes alone, and those of a reconciliation.
use Rattle.std.proofs.Common.{refl, sym, ap, subst}
use Rattle.std.specs.Prelude.{◌≡◌, ℕ, List, [], ◌∷◌, ◌++◌}
use Rattle.journal_model.specs.Disk.{Disk}
use Rattle.block_device.specs.State.{DeviceState}
use Rattle.journal_world.specs.Engine.{Engine}
use Rattle.journal_world.specs.Front.{Front}
use Rattle.journal_world.specs.Front.FrontEvent.{Raise}
use Rattle.journal_world.specs.Journal.{Event, Happens, Journal}
use Rattle.journal_world.specs.Journal.Event.{AbortMark, CheckpointFault, CheckpointStep, CommitFault, CommitStep, Finish, FrontStep}
use Rattle.log_epochs.specs.EngineWorld.Phase.{Running}
use Rattle.log_epochs.specs.JournalWorld.{with_directs}
use Rattle.log_epochs.specs.JournalWorld.Move.{Step}
use Rattle.log_epochs.proofs.Leading.{leads-after}
use Rattle.log_engine.specs.Engine.{EngineValue}
use Rattle.group_commit.specs.Close.{ComesTo, world_with}
use Rattle.journal_steps.specs.Values.{JournalValue, together}
use Rattle.locked_journal.specs.Alone.{RanAlone, RunsAlone, StepsAlone}
use Rattle.locked_journal.specs.Alone.StepsAlone.{Commits, CommitFails, Checkpoints, CheckpointFails, Rests}
use Rattle.locked_journal.specs.Sides.{CatchesUp, Finishes, Reconciles, Notifies, engine_of}
use Rattle.locked_journal.specs.Sides.Finishes.{NoneFinished, OneFinished}
use Rattle.locked_journal.specs.Sides.Notifies.{NotNotified, Notified}

-- No move.
nowhere : (old new : Journal) (disk after : Disk) → new ≡ old → after ≡ disk → ComesTo old disk new after Running
nowhere old new disk after same still =
    subst (λ (j : Journal). ComesTo old disk j after Running) (sym same)
    (subst (λ (d : Disk). ComesTo old disk old d Running) (sym still) (record { moves = []; leads = λ w epoch. refl }))

-- Some moves after others.
behind : (a b c : Journal) (d e f : Disk) → ComesTo a d b e Running → ComesTo b e c f Running → ComesTo a d c f Running
behind a b c d e f one two = record {
  moves = one.moves ++ two.moves;
  leads = λ w epoch.
      leads-after (world_with w epoch a d Running) (world_with w epoch b e Running) (world_with w epoch c f Running) one.moves two.moves
      (one.leads w epoch) (two.leads w epoch);
}

-- A step of the journal without a direct write.
by-step : (old new : Journal) (disk after : Disk) (event : Event) → ((directs : List (ℕ × List ℕ)) → with_directs event directs ≡ directs) →
    Happens old disk event new after → ComesTo old disk new after Running
by-step old new disk after event indirect happens = record {
  moves = Step event ∷ [];
  leads = λ w epoch. (
    world_with w epoch new after Running,
    record {
      running = refl;
      epoch = record epoch { engine = old.engine };
      now = refl;
      journal = new;
      happens = happens;
      after = ap (λ (directs : List (ℕ × List ℕ)). world_with w (record epoch { directs = directs }) new after Running) (sym (indirect epoch.directs));
    },
    refl,
  );
}

module _ {D : Type 0} (state : D → DeviceState) where
  -- One step of the engine.
  step-moves : (f : Front) (old new : EngineValue D) → StepsAlone state old new →
      ComesTo (together f old).journal (state old.device).disk (together f new).journal (state new.device).disk Running
  step-moves f old new (Commits step counted) =
      by-step (together f old).journal (together f new).journal (state old.device).disk (state new.device).disk CommitStep (λ directs. refl) (record { front = refl; engine = step })
  step-moves f old new (CommitFails fault counted) =
      by-step (together f old).journal (together f new).journal (state old.device).disk (state new.device).disk CommitFault (λ directs. refl) (record { front = refl; engine = fault })
  step-moves f old new (Checkpoints step counted) =
      by-step (together f old).journal (together f new).journal (state old.device).disk (state new.device).disk CheckpointStep (λ directs. refl) (record { front = refl; engine = step })
  step-moves f old new (CheckpointFails fault counted) =
      by-step (together f old).journal (together f new).journal (state old.device).disk (state new.device).disk CheckpointFault (λ directs. refl) (record { front = refl; engine = fault })
  step-moves f old new (Rests same still counted) =
      nowhere (together f old).journal (together f new).journal (state old.device).disk (state new.device).disk
      (ap (λ (e : Engine). let j : Journal = record { front = f; engine = e } in j) same) still

  -- All steps of a run.
  run-moves : (f : Front) (old : EngineValue D) (mids : List (EngineValue D)) (new : EngineValue D) → RunsAlone state old mids new →
      ComesTo (together f old).journal (state old.device).disk (together f new).journal (state new.device).disk Running
  run-moves f old [] new same =
      nowhere (together f old).journal (together f new).journal (state old.device).disk (state new.device).disk
      (ap (λ (e : EngineValue D). (together f e).journal) same) (ap (λ (e : EngineValue D). (state e.device).disk) same)
  run-moves f old (mid ∷ mids) new (ran, step) =
      behind (together f old).journal (together f mid).journal (together f new).journal (state old.device).disk (state mid.device).disk (state new.device).disk
      (run-moves f old mids mid ran) (step-moves f mid new step)

  pub alone-moves : (f : Front) (old new : EngineValue D) → RanAlone state old new →
      ComesTo (together f old).journal (state old.device).disk (together f new).journal (state new.device).disk Running
  alone-moves f old new ran = run-moves f old ran.before new ran.runs

-- The front learns of a failure, or not.
notify-moves : (old : Journal) (disk : Disk) (new : Journal) → Notifies old disk new → ComesTo old disk new disk Running
notify-moves old disk new (NotNotified same) = nowhere old new disk disk same refl
notify-moves old disk new (Notified notified) = by-step old new disk disk AbortMark (λ directs. refl) notified

-- It finishes and acknowledges a transaction, or not.
finish-moves : (old : Journal) (disk : Disk) (new : Journal) → Finishes old disk new → ComesTo old disk new disk Running
finish-moves old disk new (NoneFinished same) = nowhere old new disk disk same refl
finish-moves old disk new (OneFinished done finishes raises) =
    behind old done new disk disk disk (by-step old done disk disk Finish (λ directs. refl) finishes)
    (by-step done new disk disk (FrontStep (Raise done.front.finished)) (λ directs. refl) raises)

-- It catches up.
catch-moves : (old : Journal) (disk : Disk) (new : Journal) → CatchesUp old disk new → ComesTo old disk new disk Running
catch-moves old disk new caught =
    behind old caught.notified new disk disk disk (notify-moves old disk caught.notified caught.notifies) (finish-moves caught.notified disk new caught.finishes)

-- Both are reconciled.
pub reconciler-moves : {D : Type 0} (state : D → DeviceState) (front : JournalValue D) (engine : EngineValue D) (mid : JournalValue D) → Reconciles state front engine mid →
    ComesTo front.journal (state front.device).disk mid.journal (state mid.device).disk Running
reconciler-moves {D} state front engine mid reconciles =
    let f = front.journal.front in
    let disk : (state engine.device).disk ≡ (state mid.device).disk = ap (λ (e : EngineValue D). (state e.device).disk) (sym reconciles.engine_is) in
    subst (λ (d : Disk). ComesTo front.journal (state front.device).disk mid.journal d Running) disk
    (behind front.journal (together f engine).journal mid.journal (state front.device).disk (state engine.device).disk (state engine.device).disk
    (alone-moves state f (engine_of front) engine reconciles.since)
    (catch-moves (together f engine).journal (state engine.device).disk mid.journal reconciles.caught))
