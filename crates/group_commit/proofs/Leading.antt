-- The machine's moves from one journal to another, in sequence.
use Rattle.std.proofs.Common.{refl, sym, ap, subst}
use Rattle.std.specs.Prelude.{◌≡◌, ℕ, List, [], ◌∷◌, ◌++◌}
use Rattle.journal_model.specs.Disk.{Disk}
use Rattle.journal_world.specs.Journal.{Event, Happens, Journal}
use Rattle.log_epochs.specs.EngineWorld.{Phase, World}
use Rattle.log_epochs.specs.EngineWorld.Move.{CloseStep, CloseFault, GiveUp}
use Rattle.log_epochs.specs.EngineWorld.Phase.{Closed, Running, Shut}
use Rattle.log_epochs.specs.JournalWorld.{with_directs}
use Rattle.log_epochs.specs.JournalWorld.Move.{Step, Below}
use Rattle.log_epochs.proofs.Leading.{leads-after}
use Rattle.log_engine.specs.Close.{ClosesBy}
use Rattle.group_commit.specs.Close.{ComesTo, world_with}

-- no moves lead from a journal to itself
pub comes-nowhere : (j : Journal) (disk : Disk) → ComesTo j disk j disk Running
comes-nowhere j disk = record { moves = []; leads = λ w epoch. refl }

-- two sequences of moves make one
pub comes-after : (a b c : Journal) (d e f : Disk) (phase : Phase) → ComesTo a d b e Running → ComesTo b e c f phase → ComesTo a d c f phase
comes-after a b c d e f phase one two = record {
  moves = one.moves ++ two.moves;
  leads = λ w epoch.
      leads-after (world_with w epoch a d Running) (world_with w epoch b e Running) (world_with w epoch c f phase) one.moves two.moves
      (one.leads w epoch) (two.leads w epoch);
}

-- no moves are needed if neither journal nor disk changes
pub comes-same : (old new : Journal) (disk after : Disk) → new ≡ old → after ≡ disk → ComesTo old disk new after Running
comes-same old new disk after same still =
    subst (λ (j : Journal). ComesTo old disk j after Running) (sym same)
    (subst (λ (d : Disk). ComesTo old disk old d Running) (sym still) (comes-nowhere old disk))

-- a step that is no direct write is one move
pub comes-step : (old new : Journal) (disk after : Disk) (event : Event) → ((directs : List (ℕ × List ℕ)) → with_directs event directs ≡ directs) →
    Happens old disk event new after → ComesTo old disk new after Running
comes-step old new disk after event indirect happens = record {
  moves = Step event ∷ [];
  leads = λ w epoch. (
    world_with w epoch new after Running,
    record {
      running = refl;
      epoch = record epoch { engine = old.engine };
      now = refl;
      journal = new;
      happens = happens;
      after = ap (λ (directs : List (ℕ × List ℕ)). world_with w (record epoch { directs = directs }) new after Running) (sym (indirect epoch.directs));
    },
    refl,
  );
}

-- handing out the journal is one move
pub comes-out : (j : Journal) (disk : Disk) → ComesTo j disk j disk Shut
comes-out j disk = record {
  moves = Below GiveUp ∷ [];
  leads = λ w epoch. (
    world_with w epoch j disk Shut,
    record { below = record { after = refl }; tells = record { told = refl; past = refl } },
    refl,
  );
}

-- the engine's close of the log is two moves
pub comes-closed : (j : Journal) (disk after : Disk) → ClosesBy j.engine disk (CloseStep ∷ CloseStep ∷ []) after Closed → ComesTo j disk j after Closed
comes-closed j disk after closes = record {
  moves = Below CloseStep ∷ Below CloseStep ∷ [];
  leads = λ w epoch.
      let old = world_with w epoch j disk Running in
      let both = closes.leads w.below epoch in (
        record old { below = both.0 },
        record { below = both.1; tells = record { told = refl; past = refl } },
        (
          record old { below = both.2.0 },
          record { below = both.2.1; tells = record { told = refl; past = refl } },
          ap (λ (below : World). record old { below = below }) both.2.2,
        ),
      );
}

-- a failed close of the log is one move
pub comes-failed : (j : Journal) (disk after : Disk) → ClosesBy j.engine disk (CloseFault ∷ []) after Shut → ComesTo j disk j after Shut
comes-failed j disk after closes = record {
  moves = Below CloseFault ∷ [];
  leads = λ w epoch.
      let old = world_with w epoch j disk Running in
      let one = closes.leads w.below epoch in (
        record old { below = one.0 },
        record { below = one.1; tells = record { told = refl; past = refl } },
        ap (λ (below : World). record old { below = below }) one.2,
      );
}
