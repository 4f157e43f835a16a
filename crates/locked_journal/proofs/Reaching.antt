-- Each step under the lock is moves of the machine, which follow those since the journal's beginning.
use Rattle.std.proofs.Common.{refl, sym, ap, subst, ◌∙◌, arith, ⊎_elim}
use Rattle.std.specs.Prelude.{◌≡◌, ◌≢◌, ◌⊎◌, ℕ, ◌<◌, ◌≤◌, Bool, true, false, List, [], ◌∷◌, ◌++◌, length, Option, Some, None, Result, Ok, Err, IfErr, IfOk, OnOk}
use Rattle.std.proofs.lemmas.Bool.{false≢true}
use Rattle.std.proofs.lemmas.Bool.Decides.{eqb_tells, leb_tells}
use Rattle.journal_model.specs.declared.refusal.JournalError.{JournalError}
use Rattle.journal_model.specs.Disk.{Disk}
use Rattle.block_device.specs.Call.{OnlyReads}
use Rattle.block_device.specs.State.{DeviceState}
use Rattle.journal_world.specs.Front.{FrontEvent}
use Rattle.journal_world.specs.Front.FrontEvent.{ExtendHandle, Join, Lock, Raise, Reserve}
use Rattle.journal_world.specs.Journal.{Event, Happens, Journal}
use Rattle.journal_world.specs.Journal.Event.{AbortMark, CommitFault, CommitStep, DirectSync, DirectSyncFault, DirectWrite, DirectWriteFault, Finish, FrontStep, ReadBlock, ReadFault, Seal}
use Rattle.handle.specs.Name.{JournalId}
use Rattle.log_epochs.specs.EngineWorld.{Phase}
use Rattle.log_epochs.specs.EngineWorld.Phase.{Running}
use Rattle.log_epochs.specs.JournalWorld.{with_directs}
use Rattle.log_epochs.specs.JournalWorld.Move.{Step as StepMove}
use Rattle.log_epochs.proofs.Leading.{leads-after, leads-more}
use Rattle.log_engine.specs.Engine.{EngineValue}
use Rattle.journal_front.specs.Values.{HandleValue}
use Rattle.journal_steps.specs.declared.turn.Turn.{Turn}
use Rattle.journal_steps.specs.declared.turn.Turn.TheVariants.{Idle as IdleTurn, Waiting, Step as StepTurn, Sealed, Committed}
use Rattle.journal_steps.specs.Direct.{DirectSyncRefused, DirectWriteRefused}
use Rattle.journal_steps.specs.Direct.DirectSyncRefused.{SyncAborted, SyncFailed}
use Rattle.journal_steps.specs.Direct.DirectWriteRefused.{WriteAborted, WriteFailed, WriteNotDirect, WriteOutside}
use Rattle.journal_steps.specs.Journal.{Does, FailsAndNotifies, NewestRefused, ReadRefused, NewestDid, Requests, SealDid, TurnDid, TurnRefused}
use Rattle.journal_steps.specs.Journal.NewestRefused.{NewestAborted, NewestFailed, NewestOutside, NewestRevoked}
use Rattle.journal_steps.specs.Journal.ReadRefused.{ReadFailed, ReadKeptOut, ReadRevoked, ReadUnnoted}
use Rattle.journal_steps.specs.Journal.TurnRefused.{DeviceFailed, MemoryIsShort, RingIsShort, WasAborted}
use Rattle.journal_steps.specs.Values.{JournalValue}
use Rattle.journal_steps.specs.Verbs.{LeftByRead, Reads, ReadsNewest, SyncsDirectly, WritesDirectly}
use Rattle.group_commit.specs.Close.{ComesTo}
use Rattle.group_commit.specs.Extension.{Extends, Starts}
use Rattle.locked_journal.specs.Sides.{HeldReadDid, Reconciles, ReconcilesAnd, engine_of}
use Rattle.locked_journal.proofs.Moving.{reconciler-moves}
use Rattle.locked_journal.specs.Begun.{ComesFrom, IsReached, epoch_since, world_begun, world_since}

-- Without the right to write directly, the step is no direct write.
abbrev IsPermitted : JournalId → Event → Type 0
IsPermitted name event = name.direct ≡ false → (directs : List (ℕ × List ℕ)) → with_directs event directs ≡ directs

permitted-write : (name : JournalId) (b : ℕ) (v : List ℕ) → name.direct ≡ true → IsPermitted name (DirectWrite b v)
permitted-write name b v right without directs = absurd (false≢true (sym without ∙ right))

permitted-fault : (name : JournalId) (b : ℕ) (v : List ℕ) → name.direct ≡ true → IsPermitted name (DirectWriteFault b v)
permitted-fault name b v right without directs = absurd (false≢true (sym without ∙ right))

module _ (name : JournalId) (old : Journal) (disk : Disk) (new : Journal) (after : Disk) where
  -- Further moves that write nothing directly.
  pub reached-comes : (phase : Phase) → IsReached name old disk Running → ComesTo old disk new after phase → IsReached name new after phase
  reached-comes phase was comes = record {
    opening = was.opening;
    log = was.log;
    home = was.home;
    begins = was.begins;
    moves = was.moves ++ comes.moves;
    directs = was.directs;
    leads =
        leads-after (world_begun name was.opening) (world_since name was.opening was.directs old disk Running)
        (world_since name was.opening was.directs new after phase) was.moves comes.moves was.leads
        (comes.leads (world_since name was.opening was.directs old disk Running) (epoch_since was.opening was.directs old.engine));
    none = was.none;
  }

  -- One step of the journal.
  reached-step : (event : Event) → IsPermitted name event → IsReached name old disk Running → Happens old disk event new after → IsReached name new after Running
  reached-step event permitted was happens = record {
    opening = was.opening;
    log = was.log;
    home = was.home;
    begins = was.begins;
    moves = was.moves ++ StepMove event ∷ [];
    directs = with_directs event was.directs;
    leads =
        leads-more (world_begun name was.opening) (world_since name was.opening was.directs old disk Running)
        (world_since name was.opening (with_directs event was.directs) new after Running) was.moves (StepMove event) was.leads (record {
          running = refl;
          epoch = epoch_since was.opening was.directs old.engine;
          now = refl;
          journal = new;
          happens = happens;
          after = refl;
        });
    none = λ without. permitted without was.directs ∙ was.none without;
  }

module _ {D : Type 0} (state : D → DeviceState) (honest : D → Type 0) (name : JournalId) (old new : JournalValue D) (was : ComesFrom state honest name old) where
  pub from-same : new ≡ old → ComesFrom state honest name new
  from-same same = subst (ComesFrom state honest name) (sym same) was

  from-alike : (honest new.device → honest old.device) → new.journal ≡ old.journal → (state new.device).disk ≡ (state old.device).disk → ComesFrom state honest name new
  from-alike back same still = record {
    reached = λ h.
        subst (λ (j : Journal). IsReached name j (state new.device).disk Running) (sym same)
        (subst (λ (d : Disk). IsReached name old.journal d Running) (sym still) (was.reached (back h)));
  }

  pub from-comes : (honest new.device → honest old.device) → ComesTo old.journal (state old.device).disk new.journal (state new.device).disk Running →
      ComesFrom state honest name new
  from-comes back comes = record {
    reached = λ h. reached-comes name old.journal (state old.device).disk new.journal (state new.device).disk Running (was.reached (back h)) comes;
  }

  from-step : (event : Event) → IsPermitted name event → (honest new.device → honest old.device) → Does state old event new → ComesFrom state honest name new
  from-step event permitted back did = record {
    reached = λ h. reached-step name old.journal (state old.device).disk new.journal (state new.device).disk event permitted (was.reached (back h)) did;
  }

  -- A step of the front calls no device.
  pub from-front : (event : FrontEvent) → new.device ≡ old.device → Does state old (FrontStep event) new → ComesFrom state honest name new
  from-front event same did = from-step (FrontStep event) (λ without directs. refl) (λ h. subst honest same h) did

  pub from-front_or : {A : Type 0} (P Q : JournalError → Type 0) (r : Result A JournalError) (event : FrontEvent) → new.device ≡ old.device →
      OnOk r (Does state old (FrontStep event) new) →
      IfErr r (λ e. P e × (new ≡ old) × Q e) → ComesFrom state honest name new
  from-front_or P Q (Ok a) event same ok err = from-front event same ok
  from-front_or P Q (Err e) event same ok err = from-same err.1

  pub from-requests : (tid : ℕ) → new.device ≡ old.device → Requests state tid old new → ComesFrom state honest name new
  from-requests tid same asks =
      ⊎_elim
      (λ (here : _ × (tid ≡ old.journal.front.running.tid)).
      ⊎_elim
      (λ (none : _ × (length old.journal.front.running.handles ≤ 0)). from-same (asks.empty (omega (arith, none.1))))
      (λ (some : _ × (0 < length old.journal.front.running.handles)). from-front Lock same (asks.same here.1 some.1))
      (leb_tells (length old.journal.front.running.handles) 0))
      (λ (other : _ × (tid ≢ old.journal.front.running.tid)). from-same (asks.other other.1))
      (eqb_tells tid old.journal.front.running.tid)

  -- A read of a copy that the front holds.
  pub from-held : (held : Bool) (h : HandleValue) (b : ℕ) (v : List ℕ) → new.device ≡ old.device → HeldReadDid state held h b v old new → ComesFrom state honest name new
  from-held true h b v same did = from-step (ReadBlock h.number b v) (λ without directs. refl) (λ k. subst honest same k) did.0
  from-held false h b v same did = from-same did.2

  from-commit_fails : (honest new.device → honest old.device) → FailsAndNotifies state CommitFault old new → ComesFrom state honest name new
  from-commit_fails back did = record {
    reached = λ h.
        let after = (state new.device).disk in
        reached-step name did.mid after new.journal after AbortMark (λ without directs. refl)
        (reached-step name old.journal (state old.device).disk did.mid after CommitFault (λ without directs. refl) (was.reached (back h)) did.fails) did.notifies;
  }

  from-turn : (t : Turn) → (honest new.device → honest old.device) → TurnDid state t old new → ComesFrom state honest name new
  from-turn IdleTurn back did = from-same did.1
  from-turn Waiting back did = from-same did.1
  from-turn StepTurn back did = from-step CommitStep (λ without directs. refl) back did.commits
  from-turn (Sealed tid) back did = from-step Seal (λ without directs. refl) back did.0
  from-turn (Committed tid) back did = record {
    reached = λ h.
        let after = (state new.device).disk in
        reached-step name did.done after new.journal after (FrontStep (Raise tid)) (λ without directs. refl)
        (reached-step name did.mid after did.done after Finish (λ without directs. refl)
        (reached-step name old.journal (state old.device).disk did.mid after CommitStep (λ without directs. refl) (was.reached (back h)) did.commits) did.finishes) did.raises;
  }

  from-seal : (t : Option Turn) → (honest new.device → honest old.device) → SealDid state t old new → ComesFrom state honest name new
  from-seal None back did = from-same did.1
  from-seal (Some t) back did = from-turn t back did.1

  from-turn_refused : (e : JournalError) → (honest new.device → honest old.device) → TurnRefused state old new e → ComesFrom state honest name new
  from-turn_refused _ back (WasAborted aborted same) = from-same same
  from-turn_refused _ back (RingIsShort due short same) = from-same same
  from-turn_refused _ back (MemoryIsShort due room same) = from-same same
  from-turn_refused _ back (DeviceFailed did faults) = from-commit_fails back did

  from-read_refused : (h : HandleValue) (b : ℕ) (e : JournalError) → (honest new.device → honest old.device) → (state new.device).disk ≡ (state old.device).disk →
      ReadRefused state old h b new e → ComesFrom state honest name new
  from-read_refused h b e back still (ReadKeptOut out same) = from-same same
  from-read_refused h b e back still (ReadRevoked may last same is) = from-same same
  from-read_refused h b e back still (ReadUnnoted may last same faults is) = from-alike back same still
  from-read_refused h b e back still (ReadFailed may last kept did faults is) = from-step ReadFault (λ without directs. refl) back did

  from-newest_refused : (b : ℕ) (e : JournalError) → (honest new.device → honest old.device) → NewestRefused state old b new e → ComesFrom state honest name new
  from-newest_refused b e back (NewestAborted aborted same is) = from-same same
  from-newest_refused b e back (NewestOutside running may same is) = from-same same
  from-newest_refused b e back (NewestRevoked running may last same is) = from-same same
  from-newest_refused b e back (NewestFailed running may last kept did faults is) = from-step ReadFault (λ without directs. refl) back did

  from-write_refused : (b : ℕ) (v : List ℕ) (e : JournalError) → name.direct ≡ true → (honest new.device → honest old.device) → DirectWriteRefused state old b v new e → ComesFrom state honest name new
  from-write_refused b v _ right back (WriteAborted aborted same) = from-same same
  from-write_refused b v _ right back (WriteOutside running may same) = from-same same
  from-write_refused b v _ right back (WriteNotDirect running may not same) = from-same same
  from-write_refused b v _ right back (WriteFailed did faults) = from-step (DirectWriteFault b v) (permitted-fault name b v right) back did

  from-sync_refused : (e : JournalError) → (honest new.device → honest old.device) → DirectSyncRefused state old new e → ComesFrom state honest name new
  from-sync_refused _ back (SyncAborted aborted same) = from-same same
  from-sync_refused _ back (SyncFailed did faults) = from-step DirectSyncFault (λ without directs. refl) back did

  -- Whatever a call answers.
  from-read_answer : {A : Type 0} (r : Result A JournalError) (h : HandleValue) (b : ℕ) (v : List ℕ) → OnlyReads state honest old.device new.device →
      OnOk r (honest new.device → Does state old (ReadBlock h.number b v) new) → IfErr r (ReadRefused state old h b new) → ComesFrom state honest name new
  from-read_answer (Ok a) h b v only ok err =
      record { reached = λ well. (from-step (ReadBlock h.number b v) (λ without directs. refl) only.honest (ok well)).reached well }
  from-read_answer (Err e) h b v only ok err = from-read_refused h b e only.honest only.stays.disk err

  from-newest_answer : {A : Type 0} (r : Result A JournalError) (b : ℕ) (v : List ℕ) → OnlyReads state honest old.device new.device →
      OnOk r (NewestDid state honest old b v new) → IfErr r (NewestRefused state old b new) → ComesFrom state honest name new
  from-newest_answer (Ok a) b v only ok err = from-alike only.honest ok.same only.stays.disk
  from-newest_answer (Err e) b v only ok err = from-newest_refused b e only.honest err

  from-write_answer : {A : Type 0} (r : Result A JournalError) (b : ℕ) (v : List ℕ) → name.direct ≡ true → (honest new.device → honest old.device) →
      OnOk r (Does state old (DirectWrite b v) new) → IfErr r (DirectWriteRefused state old b v new) → ComesFrom state honest name new
  from-write_answer (Ok a) b v right back ok err = from-step (DirectWrite b v) (permitted-write name b v right) back ok
  from-write_answer (Err e) b v right back ok err = from-write_refused b v e right back err

  from-sync_answer : {A : Type 0} (r : Result A JournalError) → (honest new.device → honest old.device) → OnOk r (Does state old DirectSync new) →
      IfErr r (DirectSyncRefused state old new) → ComesFrom state honest name new
  from-sync_answer (Ok a) back ok err = from-step DirectSync (λ without directs. refl) back ok
  from-sync_answer (Err e) back ok err = from-sync_refused e back err

-- Credits are granted, and the handle gets them.
module _ {D : Type 0} (state : D → DeviceState) (honest : D → Type 0) (name : JournalId) (old new : JournalValue D) (was : ComesFrom state honest name old)
    (same : new.device ≡ old.device) where
  pub from-starts : (n : ℕ) → Starts state n old new → ComesFrom state honest name new
  from-starts n s =
      from-front state honest name s.granted new (from-front state honest name old s.granted was (Reserve n) s.device s.reserves)
      (Join n) (same ∙ sym s.device) s.joins

  pub from-extends : (h n : ℕ) → Extends state h n old new → ComesFrom state honest name new
  from-extends h n s =
      from-front state honest name s.granted new (from-front state honest name old s.granted was (Reserve n) s.device s.reserves)
      (ExtendHandle h n) (same ∙ sym s.device) s.extends

-- Front and engine are reconciled, and make a step.
module _ {D : Type 0} (state : D → DeviceState) (honest : D → Type 0) (name : JournalId) (old : JournalValue D) (engine : EngineValue D)
    (was : ComesFrom state honest name old) (before : honest engine.device → honest old.device) where
  reconciled-device : (mid : JournalValue D) → Reconciles state old engine mid → mid.device ≡ engine.device
  reconciled-device mid reconciles = ap (λ (e : EngineValue D). e.device) reconciles.engine_is

  pub from-reconciled : (mid : JournalValue D) → Reconciles state old engine mid → ComesFrom state honest name mid
  from-reconciled mid reconciles =
      from-comes state honest name old mid was (λ h. before (subst honest (reconciled-device mid reconciles) h)) (reconciler-moves state old engine mid reconciles)

  from-both : (new : JournalValue D) (P : JournalValue D → Type 0) → ReconcilesAnd state old engine P →
      ((mid : JournalValue D) → P mid → mid.device ≡ engine.device → ComesFrom state honest name mid → ComesFrom state honest name new) → ComesFrom state honest name new
  from-both new P m step = step m.mid m.did (reconciled-device m.mid m.reconciles) (from-reconciled m.mid m.reconciles)

  module _ {A : Type 0} (new : JournalValue D) (r : Result A JournalError) where
    pub from-read : (h : HandleValue) (b : ℕ) (before v : List ℕ) →
        ReconcilesAnd state old engine (λ (mid : JournalValue D). Reads state honest mid h b before v new r × LeftByRead state honest mid new r) → ComesFrom state honest name new
    from-read h b before v m =
        from-both new _ m (λ mid did same there. from-read_answer state honest name mid new there r h b v did.1.device did.0.ok did.0.err)

    pub from-read_newest : (b : ℕ) (before v : List ℕ) →
        ReconcilesAnd state old engine (λ (mid : JournalValue D). ReadsNewest state honest mid b before v new r × LeftByRead state honest mid new r) → ComesFrom state honest name new
    from-read_newest b before v m =
        from-both new _ m (λ mid did same there. from-newest_answer state honest name mid new there r b v did.1.device did.0.ok did.0.err)

    pub from-write_direct : (b : ℕ) (v : List ℕ) → name.direct ≡ true →
        ReconcilesAnd state old engine (λ (mid : JournalValue D). WritesDirectly state honest mid b v new r) → ComesFrom state honest name new
    from-write_direct b v right m =
        from-both new _ m (λ mid did same there. from-write_answer state honest name mid new there r b v right did.device.honest did.ok did.err)

    pub from-sync_direct : ReconcilesAnd state old engine (λ (mid : JournalValue D). SyncsDirectly state honest mid new r) → ComesFrom state honest name new
    from-sync_direct m = from-both new _ m (λ mid did same there. from-sync_answer state honest name mid new there r did.device.honest did.ok did.err)

  module _ (new : JournalValue D) (back : honest new.device → honest engine.device) where
    back-to : (mid : JournalValue D) → mid.device ≡ engine.device → honest new.device → honest mid.device
    back-to mid same h = subst honest (sym same) (back h)

    pub from-sealed : (r : Result (Option Turn) JournalError) → IfOk r (λ turn. ReconcilesAnd state old engine (λ (mid : JournalValue D). SealDid state turn mid new)) →
        IfErr r (λ e. ReconcilesAnd state old engine (λ (mid : JournalValue D). TurnRefused state mid new e)) → ComesFrom state honest name new
    from-sealed (Ok t) ok err = from-both new _ ok (λ mid did same there. from-seal state honest name mid new there t (back-to mid same) did)
    from-sealed (Err e) ok err = from-both new _ err (λ mid why same there. from-turn_refused state honest name mid new there e (back-to mid same) why)

-- A device that was not called is the engine's of before.
pub back-uncalled : {D : Type 0} (honest : D → Type 0) (engine after : EngineValue D) (new : JournalValue D) → after ≡ engine_of new → after.device ≡ engine.device →
    honest new.device → honest engine.device
back-uncalled {D} honest engine after new is uncalled h = subst honest (sym (ap (λ (e : EngineValue D). e.device) is) ∙ uncalled) h
