-- The turns of a close: what each comes to, up to the end.
use Rattle.std.proofs.Common.{refl, sym, ◌∙◌, ap, subst, arith, inl, inr}
use Rattle.std.specs.Prelude.{◌≡◌, ◌≢◌, ℕ, ◌/◌, ◌<◌, ◌≤◌, true, false, List, [], ◌∷◌, length, Result, Ok, Err, IfErr, OnOk}
use Rattle.std.proofs.lemmas.Bool.{true≢false}
use Rattle.std.proofs.lemmas.Option.{none-some}
use Rattle.journal_model.specs.declared.refusal.JournalError.{JournalError}
use Rattle.journal_model.specs.declared.refusal.JournalError.TheVariants.{Device}
use Rattle.journal_model.specs.Layout.{Layout}
use Rattle.log_model.specs.Chain.{Ring}
use Rattle.journal_model.specs.Transaction.{Transaction}
use Rattle.block_device.specs.State.{DeviceState, one_more_fault}
use Rattle.journal_world.specs.declared.round.Round.{Round}
use Rattle.journal_world.specs.declared.round.Round.TheVariants.{Idle as NoRound, Copies, TailWrite, TailFlush}
use Rattle.journal_world.specs.declared.stage.Stage.{Stage}
use Rattle.journal_world.specs.declared.stage.Stage.TheVariants.{Idle, SuperblockWrite, SuperblockFlush, Blocks, CommitWrite, CommitFlush}
use Rattle.journal_world.specs.Call.{Call}
use Rattle.journal_world.specs.Checkpoint.{RoundCall, RoundSteps, begun, begun_from}
use Rattle.journal_world.specs.Checkpoint.RoundCall.{CopyHome, FlushHome, WriteTail, FlushTail}
use Rattle.journal_world.specs.Engine.{CommitSteps, Engine, call_in, stepped_from}
use Rattle.journal_world.specs.Front.{Front, aborting, finishing, raising, sealing}
use Rattle.journal_world.specs.Front.FrontEvent.{Lock, Raise}
use Rattle.journal_world.specs.Journal.{Event, Journal}
use Rattle.journal_world.specs.Journal.Event.{AbortMark, CheckpointFault, CheckpointStep, CommitFault, CommitStep, Finish, FrontStep, Seal}
use Rattle.journal_world.specs.Sound.{IsPlain, StageAgrees, position}
use Rattle.journal_model.specs.Disk.{Disk}
use Rattle.journal_world.proofs.Batches.{same-length}
use Rattle.journal_steps.specs.declared.turn.CheckTurn.{CheckTurn}
use Rattle.journal_steps.specs.declared.turn.CheckTurn.TheVariants.{Idle as IdleCheck, Step as StepCheck, Released}
use Rattle.journal_steps.specs.declared.turn.Turn.{Turn}
use Rattle.journal_steps.specs.declared.turn.Turn.TheVariants.{Idle as IdleTurn, Waiting, Step, Sealed, Committed}
use Rattle.log_epochs.specs.EngineWorld.Phase.{Running}
use Rattle.log_epochs.specs.JournalWorld.{with_directs}
use Rattle.group_commit.specs.Close.{CloseRefused, ComesTo, GoesOn, HasSealed, IsFinished, LastRefused, SealRefused, StaysUnsealed, Went, WentWrong, closing, closing_front, locked_journal, sealed_with, told_as, with_running}
use Rattle.group_commit.specs.Close.CloseRefused.{CloseFailed, NoMemory, NotReady}
use Rattle.group_commit.specs.Close.LastRefused.{FailedBefore, FailedAfter, LeftUnsealed, NotMadeReady}
use Rattle.group_commit.specs.Close.SealRefused.{NoMemoryForIt, NoRoomForIt}
use Rattle.journal_steps.specs.Journal.{Agrees, CheckTurnDid, CheckTurnRefused, Does, FailsAndNotifies, FitsQuarter, HasRoomFor, NothingToRelease, TurnDid, TurnRefused, need_of}
use Rattle.journal_steps.specs.Journal.CheckTurnRefused.{CheckAborted, CheckFailed}
use Rattle.journal_steps.specs.Journal.TurnRefused.{DeviceFailed, MemoryIsShort, RingIsShort, WasAborted}
use Rattle.journal_steps.specs.Values.{JournalValue}
use Rattle.group_commit.proofs.Leading.{comes-after, comes-nowhere, comes-same, comes-step}

-- the parts of the log that a commit or checkpoint step leaves
record KeepsLog (old new : Engine) : Type 0 where
  measures : new.shape ≡ old.shape
  layout : new.layout ≡ old.layout
  ring : new.ring ≡ old.ring
  aborted : new.aborted ≡ old.aborted
  committed : old.committed ≤ new.committed

stepped-log : (e : Engine) (stage : Stage) → KeepsLog e (stepped_from e stage)
stepped-log e Idle = record { measures = refl; layout = refl; ring = refl; aborted = refl; committed = omega arith }
stepped-log e SuperblockWrite = record { measures = refl; layout = refl; ring = refl; aborted = refl; committed = omega arith }
stepped-log e SuperblockFlush = record { measures = refl; layout = refl; ring = refl; aborted = refl; committed = omega arith }
stepped-log e (Blocks k) = record { measures = refl; layout = refl; ring = refl; aborted = refl; committed = omega arith }
stepped-log e CommitWrite = record { measures = refl; layout = refl; ring = refl; aborted = refl; committed = omega arith }
stepped-log e CommitFlush = record { measures = refl; layout = refl; ring = refl; aborted = refl; committed = omega arith }

commit-log : (old new : Engine) (disk after : Disk) → CommitSteps old disk new after → KeepsLog old new
commit-log old new disk after step = subst (KeepsLog old) (sym step.engine) (stepped-log old old.stage)

-- a checkpoint step also leaves the commit stage and the committed count
record KeepsStage (old new : Engine) : Type 0 where
  log : KeepsLog old new
  stage : new.stage ≡ old.stage
  count : new.committed ≡ old.committed

begun-stage : (e : Engine) (round : Round) → KeepsStage e (begun_from e round)
begun-stage e NoRound = record { log = record { measures = refl; layout = refl; ring = refl; aborted = refl; committed = omega arith }; stage = refl; count = refl }
begun-stage e (Copies transaction block) = record { log = record { measures = refl; layout = refl; ring = refl; aborted = refl; committed = omega arith }; stage = refl; count = refl }
begun-stage e TailWrite = record { log = record { measures = refl; layout = refl; ring = refl; aborted = refl; committed = omega arith }; stage = refl; count = refl }
begun-stage e TailFlush = record { log = record { measures = refl; layout = refl; ring = refl; aborted = refl; committed = omega arith }; stage = refl; count = refl }

call-stage : (e : Engine) (round : Round) (call : Call) (new : Engine) → RoundCall e round call new → KeepsStage e new
call-stage e round call new (CopyHome transaction block i b v next) =
    record { log = record { measures = refl; layout = refl; ring = refl; aborted = refl; committed = omega arith }; stage = refl; count = refl }
call-stage e round call new (FlushHome transaction block none) =
    record { log = record { measures = refl; layout = refl; ring = refl; aborted = refl; committed = omega arith }; stage = refl; count = refl }
call-stage e round call new WriteTail = record { log = record { measures = refl; layout = refl; ring = refl; aborted = refl; committed = omega arith }; stage = refl; count = refl }
call-stage e round call new FlushTail = record { log = record { measures = refl; layout = refl; ring = refl; aborted = refl; committed = omega arith }; stage = refl; count = refl }

round-stage : (old new : Engine) (disk after : Disk) → RoundSteps old disk new after → KeepsStage old new
round-stage old new disk after step =
    let one = begun-stage old old.round in
    let two = call-stage (begun old) (begun old).round step.call new step.due in
    let low : old.committed ≤ (begun old).committed = one.log.committed in
    let high : (begun old).committed ≤ new.committed = two.log.committed in
    record {
      log = record {
        measures = two.log.measures ∙ one.log.measures;
        layout = two.log.layout ∙ one.log.layout;
        ring = two.log.ring ∙ one.log.ring;
        aborted = two.log.aborted ∙ one.log.aborted;
        committed = omega arith;
      };
      stage = two.stage ∙ one.stage;
      count = two.count ∙ one.count;
    }

module _ {D : Type 0} (state : D → DeviceState) where
  -- moves of the machine lead from one journal to the other, each on its disk
  abbrev ComesBy : JournalValue D → JournalValue D → Type 0
  ComesBy old new = ComesTo old.journal (state old.device).disk new.journal (state new.device).disk Running

  -- one step is such a path
  by-step : (old new : JournalValue D) (event : Event) → ((directs : List (ℕ × List ℕ)) → with_directs event directs ≡ directs) → Does state old event new →
      ComesBy old new
  by-step old new event indirect does = comes-step old.journal new.journal (state old.device).disk (state new.device).disk event indirect does

  -- two paths make one
  pub ways : (a b c : JournalValue D) → ComesBy a b → ComesBy b c → ComesBy a c
  ways a b c one two = comes-after a.journal b.journal c.journal (state a.device).disk (state b.device).disk (state c.device).disk Running one two

  -- locking a transaction that a handle has joined is a path
  by-lock : (v : JournalValue D) → v.journal.front.aborted ≡ false → 0 < length v.journal.front.running.handles → ComesBy v (locked_journal v)
  by-lock v running joined =
      by-step v (locked_journal v) (FrontStep Lock) (λ directs. refl) (record { front = record { running = running; joined = joined; after = refl }; engine = refl; disk_is = refl })

  -- a front that differs only in `finished`, `mark` and `aborted` stays so through an equality
  told-only : (old made new : Front) → new ≡ made → made ≡ told_as old made → new ≡ told_as old new
  told-only old made new is only = is ∙ only ∙ ap (told_as old) (sym is)

  -- sealed and running transactions stay as they were
  pub same-sealed : (old new : JournalValue D) → GoesOn state old new → new.journal.front.sealed ≡ old.journal.front.sealed
  same-sealed old new on = ap (λ (f : Front). f.sealed) on.front

  pub same-running : (old new : JournalValue D) → GoesOn state old new → new.journal.front.running ≡ old.journal.front.running
  same-running old new on = ap (λ (f : Front). f.running) on.front

  -- two runs of commit and checkpoint steps make one
  on-on : (a b c : JournalValue D) → GoesOn state a b → GoesOn state b c → GoesOn state a c
  on-on a b c one two =
      let low : a.journal.engine.committed ≤ b.journal.engine.committed = one.committed in
      let high : b.journal.engine.committed ≤ c.journal.engine.committed = two.committed in
      record {
        front = two.front ∙ ap (λ (f : Front). told_as f c.journal.front) one.front;
        measures = two.measures ∙ one.measures;
        layout = two.layout ∙ one.layout;
        ring = two.ring ∙ one.ring;
        committed = omega arith;
        shape = two.shape ∙ one.shape;
        path = ways a b c one.path two.path;
      }

  -- no step at all is such a run
  pub went-nowhere : (v : JournalValue D) → v.journal.engine.aborted ≡ false → Went state v v
  went-nowhere v running = record {
    on = record {
      front = refl;
      measures = refl;
      layout = refl;
      ring = refl;
      committed = omega arith;
      shape = refl;
      path = comes-nowhere v.journal (state v.device).disk;
    };
    running = running;
    faults = refl;
  }

  pub went-went : (a b c : JournalValue D) → Went state a b → Went state b c → Went state a c
  went-went a b c one two = record { on = on-on a b c one.on two.on; running = two.running; faults = two.faults ∙ one.faults }

  pub went-wrong : (a b c : JournalValue D) → Went state a b → WentWrong state b c → WentWrong state a c
  went-wrong a b c one two = record { on = on-on a b c one.on two.on; aborted = two.aborted; faults = two.faults ∙ ap one_more_fault one.faults }

  -- a run may start from an equal journal
  pub went-from : (old ready new : JournalValue D) → ready ≡ old → Went state ready new → Went state old new
  went-from old ready new same went = subst (λ (v : JournalValue D). Went state v new) same went

  -- two runs make one, whatever the later answer
  pub went-on : {T : Type 0} (r : Result T JournalError) (old mid new : JournalValue D) → Went state old mid → OnOk r (Went state mid new) →
      OnOk r (Went state old new)
  went-on (Ok x) old mid new one two = went-went old mid new one two
  went-on (Err e) old mid new one two = tt

  pub wrong-on : {T : Type 0} (r : Result T JournalError) (old mid new : JournalValue D) → Went state old mid →
      IfErr r (λ e. (e ≡ Device) × WentWrong state mid new) → IfErr r (λ e. (e ≡ Device) × WentWrong state old new)
  wrong-on (Ok x) old mid new one wrong = tt
  wrong-on (Err e) old mid new one wrong = (wrong.0, went-wrong old mid new one wrong.1)

  -- a step that keeps the front and the log is a run
  on-log : (old new : JournalValue D) → new.journal.front ≡ old.journal.front → KeepsLog old.journal.engine new.journal.engine →
      (state new.device).shape ≡ (state old.device).shape → ComesBy old new → GoesOn state old new
  on-log old new front log shape path = record {
    front = told-only old.journal.front old.journal.front new.journal.front front refl;
    measures = log.measures;
    layout = log.layout;
    ring = log.ring;
    committed = log.committed;
    shape = shape;
    path = path;
  }

  -- a commit step is one
  pub commit-went : (turn : Turn) (old new : JournalValue D) → old.journal.engine.aborted ≡ false → old.journal.engine.stage ≢ Idle →
      TurnDid state turn old new → (state new.device).shape ≡ (state old.device).shape → (state new.device).faults ≡ (state old.device).faults →
      Went state old new
  commit-went IdleTurn old new running busy did shape faults = absurd (busy did.0.idle)
  commit-went Waiting old new running busy did shape faults = absurd (busy did.0.idle)
  commit-went Step old new running busy did shape faults =
      let log = commit-log old.journal.engine new.journal.engine (state old.device).disk (state new.device).disk did.commits.engine in
      record {
        on = on-log old new did.commits.front log shape (by-step old new CommitStep (λ directs. refl) did.commits);
        running = log.aborted ∙ running;
        faults = faults;
      }
  commit-went (Sealed tid) old new running busy did shape faults = absurd (busy did.0.engine.idle)
  commit-went (Committed tid) old new running busy did shape faults =
      let before = old.journal.front in
      let told : new.journal.front ≡ raising (finishing before) tid =
      did.raises.front.after ∙ ap (λ (f : Front). raising f tid) (did.finishes.front ∙ ap finishing did.commits.front) in
      let engine : new.journal.engine ≡ did.mid.engine = did.raises.engine ∙ did.finishes.engine in
      let log : KeepsLog old.journal.engine new.journal.engine =
      subst (KeepsLog old.journal.engine) (sym engine)
      (commit-log old.journal.engine did.mid.engine (state old.device).disk (state new.device).disk did.commits.engine) in
      record {
        on = record {
          front = told-only before (raising (finishing before) tid) new.journal.front told refl;
          measures = log.measures;
          layout = log.layout;
          ring = log.ring;
          committed = log.committed;
          shape = shape;
          path =
              comes-after old.journal did.done new.journal (state old.device).disk (state new.device).disk (state new.device).disk Running
              (comes-after old.journal did.mid did.done (state old.device).disk (state new.device).disk (state new.device).disk Running
              (comes-step old.journal did.mid (state old.device).disk (state new.device).disk CommitStep (λ directs. refl) did.commits)
              (comes-step did.mid did.done (state new.device).disk (state new.device).disk Finish (λ directs. refl) did.finishes))
              (comes-step did.done new.journal (state new.device).disk (state new.device).disk (FrontStep (Raise tid)) (λ directs. refl) did.raises);
        };
        running = log.aborted ∙ running;
        faults = faults;
      }

  -- a failed step, of which the front is then notified, is a path
  by-fault : (old new : JournalValue D) (fault : Event) → ((directs : List (ℕ × List ℕ)) → with_directs fault directs ≡ directs) →
      FailsAndNotifies state fault old new → ComesBy old new
  by-fault old new fault indirect fails =
      comes-after old.journal fails.mid new.journal (state old.device).disk (state new.device).disk (state new.device).disk Running
      (comes-step old.journal fails.mid (state old.device).disk (state new.device).disk fault indirect fails.fails)
      (comes-step fails.mid new.journal (state new.device).disk (state new.device).disk AbortMark (λ directs. refl) fails.notifies)

  -- a refused commit step has failed
  pub commit-wrong : (old new : JournalValue D) (e : JournalError) → old.journal.engine.aborted ≡ false → old.journal.engine.stage ≢ Idle →
      TurnRefused state old new e → (state new.device).shape ≡ (state old.device).shape → (e ≡ Device) × WentWrong state old new
  commit-wrong old new e running busy (WasAborted is same) shape = absurd (true≢false (sym is ∙ running))
  commit-wrong old new e running busy (RingIsShort due none same) shape = absurd (busy due.idle)
  commit-wrong old new e running busy (MemoryIsShort due room same) shape = absurd (busy due.idle)
  commit-wrong old new e running busy (DeviceFailed fails counted) shape =
      let told : new.journal.front ≡ aborting old.journal.front = fails.notifies.front ∙ ap (λ (f : Front). aborting f) fails.fails.front in
      let engine : new.journal.engine ≡ record old.journal.engine { aborted = true } = fails.notifies.engine ∙ fails.fails.engine.engine in (
        refl,
        record {
          on = record {
            front = told-only old.journal.front (aborting old.journal.front) new.journal.front told refl;
            measures = ap (λ (x : Engine). x.shape) engine;
            layout = ap (λ (x : Engine). x.layout) engine;
            ring = ap (λ (x : Engine). x.ring) engine;
            committed = (let same : new.journal.engine.committed ≡ old.journal.engine.committed = ap (λ (x : Engine). x.committed) engine in omega arith);
            shape = shape;
            path = by-fault old new CommitFault (λ directs. refl) fails;
          };
          aborted = ap (λ (x : Engine). x.aborted) engine;
          faults = counted;
        },
      )

  -- a checkpoint step is a run, and leaves commit and front as they were
  pub check-went : (turn : CheckTurn) (old new : JournalValue D) → old.journal.engine.aborted ≡ false → CheckTurnDid state turn old new →
      (state new.device).shape ≡ (state old.device).shape → (state new.device).faults ≡ (state old.device).faults →
      Went state old new × (new.journal.engine.stage ≡ old.journal.engine.stage) × (new.journal.engine.committed ≡ old.journal.engine.committed)
      × (new.journal.front ≡ old.journal.front)
  check-went IdleCheck old new running did shape faults = (
    record {
      on = record {
        front = told-only old.journal.front old.journal.front new.journal.front (ap (λ (j : Journal). j.front) did.1) refl;
        measures = ap (λ (j : Journal). j.engine.shape) did.1;
        layout = ap (λ (j : Journal). j.engine.layout) did.1;
        ring = ap (λ (j : Journal). j.engine.ring) did.1;
        committed = (let same : new.journal.engine.committed ≡ old.journal.engine.committed = ap (λ (j : Journal). j.engine.committed) did.1 in omega arith);
        shape = shape;
        path = comes-same old.journal new.journal (state old.device).disk (state new.device).disk did.1 did.2;
      };
      running = ap (λ (j : Journal). j.engine.aborted) did.1 ∙ running;
      faults = faults;
    },
    ap (λ (j : Journal). j.engine.stage) did.1,
    ap (λ (j : Journal). j.engine.committed) did.1,
    ap (λ (j : Journal). j.front) did.1,
  )
  check-went StepCheck old new running did shape faults =
      let keeps = round-stage old.journal.engine new.journal.engine (state old.device).disk (state new.device).disk did.0.engine in (
        record {
          on = on-log old new did.0.front keeps.log shape (by-step old new CheckpointStep (λ directs. refl) did.0);
          running = keeps.log.aborted ∙ running;
          faults = faults;
        },
        keeps.stage,
        keeps.count,
        did.0.front,
      )
  check-went (Released tid) old new running did shape faults =
      let keeps = round-stage old.journal.engine new.journal.engine (state old.device).disk (state new.device).disk did.0.engine in (
        record {
          on = on-log old new did.0.front keeps.log shape (by-step old new CheckpointStep (λ directs. refl) did.0);
          running = keeps.log.aborted ∙ running;
          faults = faults;
        },
        keeps.stage,
        keeps.count,
        did.0.front,
      )

  -- a refused checkpoint step has failed, and leaves the commit as it was
  pub check-wrong : (old new : JournalValue D) (e : JournalError) → old.journal.engine.aborted ≡ false → CheckTurnRefused state old new e →
      (state new.device).shape ≡ (state old.device).shape →
      (e ≡ Device) × WentWrong state old new × (new.journal.engine.stage ≡ old.journal.engine.stage)
      × (new.journal.engine.committed ≡ old.journal.engine.committed)
  check-wrong old new e running (CheckAborted is same stays counted) shape = absurd (true≢false (sym is ∙ running))
  check-wrong old new e running (CheckFailed fails counted) shape =
      let told : new.journal.front ≡ aborting old.journal.front = fails.notifies.front ∙ ap (λ (f : Front). aborting f) fails.fails.front in
      let engine : new.journal.engine ≡ record (begun old.journal.engine) { aborted = true } = fails.notifies.engine ∙ fails.fails.engine.engine in
      let begins = begun-stage old.journal.engine old.journal.engine.round in (
        refl,
        record {
          on = record {
            front = told-only old.journal.front (aborting old.journal.front) new.journal.front told refl;
            measures = ap (λ (x : Engine). x.shape) engine ∙ begins.log.measures;
            layout = ap (λ (x : Engine). x.layout) engine ∙ begins.log.layout;
            ring = ap (λ (x : Engine). x.ring) engine ∙ begins.log.ring;
            committed =
                (let same : new.journal.engine.committed ≡ (begun old.journal.engine).committed = ap (λ (x : Engine). x.committed) engine in
                let low : old.journal.engine.committed ≤ (begun old.journal.engine).committed = begins.log.committed in
                omega arith);
            shape = shape;
            path = by-fault old new CheckpointFault (λ directs. refl) fails;
          };
          aborted = ap (λ (x : Engine). x.aborted) engine;
          faults = counted;
        },
        ap (λ (x : Engine). x.stage) engine ∙ begins.stage,
        ap (λ (x : Engine). x.committed) engine ∙ begins.count,
      )

  -- if all committed transactions are released, the whole ring is free
  pub all-free : (j : Journal) → IsPlain j.engine → NothingToRelease j.engine → j.engine.start ≡ j.engine.tail
  all-free j plain nothing = plain.start ∙ ap (position j.engine) (sym nothing.released) ∙ sym plain.tail

  -- the whole ring has as many blocks as the running transaction needs
  abbrev FitsRing : Journal → Type 0
  FitsRing j = need_of j.engine.layout j.front.running ≤ j.engine.ring.blocks

  -- it still does after commit and checkpoint steps
  fits-on : (old mid : JournalValue D) → Went state old mid → FitsRing old.journal → FitsRing mid.journal
  fits-on old mid went fits =
      let on = went.on in
      subst (λ (r : Ring). need_of mid.journal.engine.layout mid.journal.front.running ≤ r.blocks) (sym on.ring)
      (subst (λ (l : Layout). need_of l mid.journal.front.running ≤ old.journal.engine.ring.blocks) (sym on.layout)
      (subst (λ (t : Transaction). need_of old.journal.engine.layout t ≤ old.journal.engine.ring.blocks)
      (sym (same-running old mid on)) fits))

  -- a free ring has room for the running transaction, which needs at most a quarter
  pub free-room : (old new : JournalValue D) → Went state old new → new.journal.engine.start ≡ new.journal.engine.tail →
      need_of old.journal.engine.layout old.journal.front.running ≤ old.journal.engine.ring.blocks / 4 → HasRoomFor new.journal
  free-room old new went free quarter =
      let fits : FitsRing old.journal = omega arith in
      let here = fits-on old new went fits in
      omega arith

  -- rounds that release everything make that room
  pub room-made : {A E : Type 0} (r : Result A E) (old new : JournalValue D) → FitsQuarter old.journal → OnOk r (Went state old new) →
      OnOk r (new.journal.engine.start ≡ new.journal.engine.tail) → OnOk r (HasRoomFor new.journal)
  room-made (Ok a) old new quarter went free = free-room old new went free quarter
  room-made (Err e) old new quarter went free = went

  -- why the seal of the running transaction is refused
  pub seal-wrong : (old mid new : JournalValue D) (e : JournalError) → mid ≡ locked_journal old → old.journal.engine.aborted ≡ false →
      old.journal.engine.stage ≡ Idle → TurnRefused state mid new e → SealRefused old.journal e × (new ≡ locked_journal old)
  seal-wrong old mid new e is running idle (WasAborted aborted same) =
      absurd (true≢false (sym aborted ∙ ap (λ (v : JournalValue D). v.journal.engine.aborted) is ∙ running))
  seal-wrong old mid new e is running idle (RingIsShort due none same) =
      (NoRoomForIt (λ room. none (subst (λ (v : JournalValue D). HasRoomFor v.journal) (sym is) room)), same ∙ is)
  seal-wrong old mid new e is running idle (MemoryIsShort due room same) =
      (NoMemoryForIt (subst (λ (v : JournalValue D). HasRoomFor v.journal) is room), same ∙ is)
  seal-wrong old mid new e is running idle (DeviceFailed fails counted) =
      let fault = fails.fails.engine in
      absurd (none-some fault.call
      (sym (ap (call_in mid.journal.engine) (ap (λ (v : JournalValue D). v.journal.engine.stage) is ∙ idle)) ∙ fault.due))

  -- if a handle has joined, the front is the one after a seal
  with-seal : (f : Front) (handles : List ℕ) → 0 < length handles → sealed_with f handles ≡ sealing f
  with-seal f [] some = absurd (omega arith)
  with-seal f (h ∷ handles) some = refl

  -- if none has, it is the front itself
  without-seal : (f : Front) (handles : List ℕ) → (0 < length handles → ⊥) → sealed_with f handles ≡ f
  without-seal f [] none = refl
  without-seal f (h ∷ handles) none = absurd (none (omega arith))

  -- that front has sealed what a close seals
  sealed-closing : (f : Front) (handles : List ℕ) → (sealed_with f handles).sealed ≡ with_running f.sealed f.running handles
  sealed-closing f [] = refl
  sealed-closing f (h ∷ handles) = refl

  -- everything that a close seals is sealed
  pub all-closing : (old new : JournalValue D) → HasSealed state old new → new.journal.front.sealed ≡ closing old.journal.front
  all-closing old new has = ap (λ (f : Front). f.sealed) has.front ∙ sealed-closing old.journal.front old.journal.front.running.handles

  -- the seal seals everything that a close seals
  pub seal-done : (old mid new : JournalValue D) → Went state old mid → mid.journal.front.aborted ≡ false → 0 < length mid.journal.front.running.handles →
      Does state (locked_journal mid) Seal new → new.device ≡ mid.device → HasSealed state old new
  seal-done old mid new went running joined did device =
      let on = went.on in
      let after = did.engine.after in
      let low : old.journal.engine.committed ≤ mid.journal.engine.committed = on.committed in
      let same : new.journal.engine.committed ≡ mid.journal.engine.committed = ap (λ (e : Engine). e.committed) after in
      let before = old.journal.front in
      let made = sealing mid.journal.front in
      let first : 0 < length before.running.handles = subst (λ (t : Transaction). 0 < length t.handles) (same-running old mid on) joined in
      record {
        front =
            told-only (closing_front before) made new.journal.front did.front
            (ap sealing on.front ∙ ap (λ (f : Front). told_as f made) (sym (with-seal before before.running.handles first)));
        measures = ap (λ (e : Engine). e.shape) after ∙ on.measures;
        committed = omega arith;
        shape = ap (λ (d : D). (state d).shape) device ∙ on.shape;
        running = ap (λ (e : Engine). e.aborted) after ∙ went.running;
        faults = ap (λ (d : D). (state d).faults) device ∙ went.faults;
        path = ways old mid new on.path (ways mid (locked_journal mid) new (by-lock mid running joined) (by-step (locked_journal mid) new Seal (λ directs. refl) did));
      }

  -- later steps leave it sealed
  pub sealed-went : (old mid new : JournalValue D) → HasSealed state old mid → Went state mid new → HasSealed state old new
  sealed-went old mid new has went =
      let low : old.journal.engine.committed ≤ mid.journal.engine.committed = has.committed in
      let high : mid.journal.engine.committed ≤ new.journal.engine.committed = went.on.committed in
      record {
        front = went.on.front ∙ ap (λ (f : Front). told_as f new.journal.front) has.front;
        measures = went.on.measures ∙ has.measures;
        committed = omega arith;
        shape = went.on.shape ∙ has.shape;
        running = went.running;
        faults = went.faults ∙ has.faults;
        path = ways old mid new has.path went.on.path;
      }

  pub sealed-on : {T : Type 0} (r : Result T JournalError) (old mid new : JournalValue D) → HasSealed state old mid → OnOk r (Went state mid new) →
      OnOk r (HasSealed state old new)
  sealed-on (Ok x) old mid new has went = sealed-went old mid new has went
  sealed-on (Err e) old mid new has went = tt

  -- if no handle has joined the running transaction, no seal is needed
  pub none-sealed : (old new : JournalValue D) → Went state old new → (0 < length old.journal.front.running.handles → ⊥) → HasSealed state old new
  none-sealed old new went none = record {
    front =
        went.on.front
        ∙ ap (λ (f : Front). told_as f new.journal.front) (sym (without-seal old.journal.front old.journal.front.running.handles none));
    measures = went.on.measures;
    committed = went.on.committed;
    shape = went.on.shape;
    running = went.running;
    faults = went.faults;
    path = went.on.path;
  }

  -- once everything is released, only the close of the log remains
  pub finished : (old new : JournalValue D) → old.journal.engine.aborted ≡ false → HasSealed state old new → new.journal.engine.stage ≡ Idle →
      NothingToRelease new.journal.engine → IsFinished state old new
  finished old new running has idle nothing = record {
    was_running = running;
    sealed = all-closing old new has;
    all = record { idle = idle; released = nothing.released };
    running = has.running;
    committed = has.committed;
    faults = has.faults;
  }

  -- before the seal, everything sealed is committed
  pub all-sealed : (j : Journal) → Agrees j → IsPlain j.engine → j.engine.stage ≡ Idle → j.engine.committed ≡ length j.front.sealed
  all-sealed j agrees plain idle =
      let stage : StageAgrees j.engine Idle = subst (StageAgrees j.engine) idle plain.stage in
      let all : length j.engine.accepted ≡ j.engine.committed = stage.0 in
      let same = same-length j.front.sealed j.engine.accepted agrees.batches in
      omega arith

  -- a failure before the seal refuses the close
  pub wrong-refused : (old new : JournalValue D) (e : JournalError) → old.journal.engine.aborted ≡ false → (e ≡ Device) × WentWrong state old new →
      CloseRefused state old new.device new.journal.front.sealed new.journal.engine.committed e
  wrong-refused old new e running wrong =
      subst (CloseRefused state old new.device new.journal.front.sealed new.journal.engine.committed) (sym wrong.0)
      (CloseFailed running (inl (same-sealed old new wrong.1.on)) wrong.1.on.committed wrong.1.faults)

  -- a failure after the seal refuses the close too
  sealed-wrong : (old mid new : JournalValue D) (e : JournalError) → old.journal.engine.aborted ≡ false → HasSealed state old mid →
      (e ≡ Device) × WentWrong state mid new → CloseRefused state old new.device new.journal.front.sealed new.journal.engine.committed e
  sealed-wrong old mid new e running has wrong =
      let low : old.journal.engine.committed ≤ mid.journal.engine.committed = has.committed in
      let high : mid.journal.engine.committed ≤ new.journal.engine.committed = wrong.1.on.committed in
      subst (CloseRefused state old new.device new.journal.front.sealed new.journal.engine.committed) (sym wrong.0)
      (CloseFailed running (inr (same-sealed mid new wrong.1.on ∙ all-closing old mid has)) (omega arith) (wrong.1.faults ∙ ap one_more_fault has.faults))

  -- so it does for either answer
  pub sealed-refused : {T : Type 0} (r : Result T JournalError) (old mid new : JournalValue D) → old.journal.engine.aborted ≡ false →
      HasSealed state old mid → IfErr r (λ e. (e ≡ Device) × WentWrong state mid new) →
      IfErr r (λ e. CloseRefused state old new.device new.journal.front.sealed new.journal.engine.committed e)
  sealed-refused (Ok x) old mid new running has wrong = tt
  sealed-refused (Err e) old mid new running has wrong = sealed-wrong old mid new e running has wrong

  -- an unsealed transaction leaves what was sealed before, all of it committed
  unsealed : (old mid new : JournalValue D) → Went state old mid → 0 < length old.journal.front.running.handles →
      mid.journal.engine.committed ≡ length mid.journal.front.sealed → new ≡ locked_journal mid →
      StaysUnsealed old.journal new.journal.front.sealed new.journal.engine.committed
  unsealed old mid new went joined all is = record {
    joined = joined;
    same = ap (λ (v : JournalValue D). v.journal.front.sealed) is ∙ same-sealed old mid went.on;
    all =
        ap (λ (v : JournalValue D). v.journal.engine.committed) is ∙ all
        ∙ sym (ap (λ (v : JournalValue D). length v.journal.front.sealed) is);
  }

  -- a failure before the seal leaves the running transaction unsealed
  pub last-failed : (old new : JournalValue D) (e : JournalError) → (e ≡ Device) × WentWrong state old new → LastRefused state old new e
  last-failed old new e wrong = subst (LastRefused state old new) (sym wrong.0) (FailedBefore wrong.1)

  -- a failure after the seal leaves it sealed and not committed, for either answer
  pub last-uncommitted : {T : Type 0} (r : Result T JournalError) (old mid new : JournalValue D) → HasSealed state old mid →
      IfErr r (λ e. (e ≡ Device) × WentWrong state mid new) → IfErr r (LastRefused state old new)
  last-uncommitted (Ok x) old mid new has wrong = tt
  last-uncommitted (Err e) old mid new has wrong = subst (LastRefused state old new) (sym wrong.0) (FailedAfter mid has wrong.1)

  -- if there is room for the seal, only lack of memory refuses it
  pub seal-refused : (old mid new : JournalValue D) (e : JournalError) → Went state old mid → HasRoomFor mid.journal →
      mid.journal.engine.committed ≡ length mid.journal.front.sealed → SealRefused mid.journal e → new ≡ locked_journal mid →
      LastRefused state old new e
  seal-refused old mid new e went room all (NoRoomForIt none) is = absurd (none room)
  seal-refused old mid new e went room all (NoMemoryForIt has) is = LeftUnsealed mid went all is

  -- if the running transaction is not sealed and committed, the close is refused
  pub last-refused : (old new : JournalValue D) (e : JournalError) → old.journal.engine.aborted ≡ false →
      0 < length old.journal.front.running.handles → LastRefused state old new e →
      CloseRefused state old new.device new.journal.front.sealed new.journal.engine.committed e
  last-refused old new e running joined (FailedBefore wrong) = wrong-refused old new e running (refl, wrong)
  last-refused old new e running joined (FailedAfter mid has wrong) = sealed-wrong old mid new e running has (refl, wrong)
  last-refused old new e running joined (NotMadeReady same) =
      NotReady running joined (ap (λ (v : JournalValue D). v.device) same) (ap (λ (v : JournalValue D). v.journal.front.sealed) same)
      (ap (λ (v : JournalValue D). v.journal.engine.committed) same)
  last-refused old new e running joined (LeftUnsealed mid went all is) =
      NoMemory running (unsealed old mid new went joined all is) (ap (λ (v : JournalValue D). (state v.device).faults) is ∙ went.faults)

  -- a path goes on by commit or checkpoint steps, even if the last of them failed
  pub way-on : {T : Type 0} (r : Result T JournalError) (old mid new : JournalValue D) → ComesBy old mid →
      OnOk r (Went state mid new) → IfErr r (λ e. (e ≡ Device) × WentWrong state mid new) → ComesBy old new
  way-on (Ok x) old mid new way went wrong = ways old mid new way went.on.path
  way-on (Err e) old mid new way went wrong = ways old mid new way wrong.1.on.path

  -- if the seal is refused, the transaction is locked
  pub way-locked : (old mid new : JournalValue D) → Went state old mid → mid.journal.front.aborted ≡ false → 0 < length mid.journal.front.running.handles → new ≡ locked_journal mid → ComesBy old new
  way-locked old mid new went running joined is =
      subst (ComesBy old) (sym is) (ways old mid (locked_journal mid) went.on.path (by-lock mid running joined))
