-- A synced direct write stays: moves add only its bytes to home, or a later one's.
use Rattle.std.proofs.Common.{refl, sym, ◌∙◌, ap, subst, inl, inr, ⊎_elim}
use Rattle.std.specs.Prelude.{◌≡◌, ◌⊎◌, ⊤, ℕ, ◌<◌, List, [], ◌∷◌, ◌++◌, Option, Some, None, Contains}
use Rattle.std.specs.List.{AllByRecursion}
use Rattle.std.proofs.lemmas.List.Elements.{Contains-append_left, Contains-append_right}
use Rattle.std.proofs.lemmas.Option.{none-some}
use Rattle.journal_model.proofs.ListElements.{contains-behind, contains-first}
use Rattle.log_model.proofs.Newest.{newest-same}
use Rattle.journal_model.specs.declared.entry.Content.{Content}
use Rattle.journal_model.specs.declared.entry.Content.TheVariants.{Direct}
use Rattle.log_model.specs.declared.log.Text.{Text}
use Rattle.journal_model.specs.declared.number.Area.TheVariants.{Home}
use Rattle.journal_model.specs.Disk.{Cell, Disk, Image, IsOneOf, Shape, held, reading}
use Rattle.log_model.specs.Opening.{HasChain}
use Rattle.log_model.specs.Replay.{IsNewest}
use Rattle.journal_model.specs.Transaction.{History, after, bytes_of}
use Rattle.journal_world.specs.Call.{Call}
use Rattle.journal_world.specs.Call.Call.{Write}
use Rattle.journal_world.specs.Checkpoint.{IsRead}
use Rattle.journal_world.specs.Direct.{DirectCall, IsLeftToHome}
use Rattle.journal_world.specs.Direct.DirectCall.{WriteDirect}
use Rattle.journal_world.specs.Engine.{Engine}
use Rattle.journal_world.proofs.Copying.{put-there}
use Rattle.journal_world.proofs.DirectRights.{left-direct}
use Rattle.journal_world.proofs.LeftToHome.{fresh-left, left-going, left-taken}
use Rattle.log_epochs.specs.DirectPromise.{IsNoStop, IsSynced, IsThatOrLater, KeepsDirect, LeavesAlone, since_write}
use Rattle.log_epochs.specs.DirectPromise.IsHandedOver.{Succeeded, Failed}
use Rattle.log_epochs.specs.EnginePromise.{EngineMayAdd, Kept, KeepsNow, MayAdd, OpeningMayAdd, StepMayAdd}
use Rattle.log_epochs.specs.EngineSteps.{Event, Happens}
use Rattle.log_epochs.specs.EngineSteps.Event.{Accept, Read, CommitStep, CommitFault, CheckpointStep, CheckpointFault, ReadFault, DirectWrite, DirectWriteFault, DirectSync, DirectSyncFault}
use Rattle.log_epochs.specs.EngineWorld.{Begins, CloseCall, Leads, Move, Moves, Phase, World}
use Rattle.log_epochs.specs.EngineWorld.CloseCall.{WriteClosed, FlushClosed}
use Rattle.log_epochs.specs.EngineWorld.Move.{Step, CloseStep, CloseFault, GiveUp, Stop, Begin, OpeningStep, OpeningFault, AnswerOk, Upgrade}
use Rattle.log_epochs.specs.EngineWorld.Phase.{Shut, Opening, Upgrading, Running, Closing, Closed}
use Rattle.log_epochs.specs.Epoch.{Epoch}
use Rattle.log_epochs.specs.OpeningRun.{IsFoundOn}
use Rattle.log_epochs.specs.OpeningSteps.{Found, HasTexts}
use Rattle.log_epochs.specs.OpeningSteps.HasTexts.{NoTexts, Texts}
use Rattle.log_epochs.proofs.EngineRuns.{HasHistory, IsOnward, OfEngine, begin-history, event-onward, move-engine, move-history, move-shape, now-engine, run-history}
use Rattle.log_epochs.proofs.EngineRuns.IsOnward.{Taken, Going}
use Rattle.log_epochs.proofs.HomeRule.{move-home}
use Rattle.log_epochs.proofs.Keeping.{reads-left}
use Rattle.log_epochs.proofs.Lives.{Holds, HoldsAt, begin-holds, life-holds, move-holds, phase-keeps, runs-in}
use Rattle.log_epochs.proofs.Replaying.{IsOpened, opened-by_chain}
use Rattle.log_epochs.specs.EngineWorld.UpgradeMove.{BeginUpgrade, UpgradeStep, UpgradeFault}

-- a block stays left to home over each step that leaves it alone
event-left : (b : ℕ) (old new : Engine) (disk after : Disk) (event : Event) → LeavesAlone b (Step event) → Happens old disk event new after →
    IsLeftToHome old b → IsLeftToHome new b
event-left b old new disk after event alone happens left = by (event-onward old new disk after event happens)
  where
    by : IsOnward old event new → IsLeftToHome new b
    by (Taken batch is accepts) = left-taken old new batch b accepts (subst (λ (x : Event). LeavesAlone b (Step x)) is alone) left
    by (Going on) = left-going old new b on left

-- a log with a newest copy is not clean
newest-chain : (shape : Shape) (image : Image) (texts : List Text) (limit b : ℕ) (u : List ℕ) → HasTexts shape image texts limit → IsNewest texts b u →
    HasChain shape image texts
newest-chain shape image texts limit b u (NoTexts clean) newest = absurd (none-some newest.live.text newest.live.stands)
newest-chain shape image texts limit b u (Texts ts has) newest = has

-- a replay would write what home reads, if the transactions leave the block to home
found-same : (shape : Shape) (found : Found) (epoch : Epoch) (disk : Disk) (b : ℕ) (u : List ℕ) → b < shape.home_blocks → KeepsNow shape (Some epoch) disk →
    HasHistory epoch.engine → IsLeftToHome epoch.engine b → IsFoundOn shape found disk → IsNewest found.texts b u → u ≡ (disk Home b).reads
found-same shape found epoch disk b u within keeps has left is newest =
    let ts : History = has.history in
    let kept : Kept shape epoch ts (reading disk) = keeps (reading disk) (reads-left disk) ts has.batches in
    let direct : after ts kept.n b ≡ Direct = left-direct epoch.engine ts kept.n b kept.low has.batches left in
    let chain : HasChain shape (reading disk) found.texts =
    subst (λ (image : Image). HasChain shape image found.texts) is.read (newest-chain shape found.image found.texts found.limit b u is.good.has newest) in
    let opened : IsOpened shape (reading disk) found.texts kept.opens.got = opened-by_chain shape (reading disk) found.texts kept.opens.got chain kept.opens.opens in
    let got : kept.opens.got b ≡ (disk Home b).reads =
    kept.opens.recovered b within ∙ ap (λ (c : Content). bytes_of c (disk Home b).reads) direct in
    elim (opened.replayed b within) [
      | inl also ↦ sym (newest-same found.texts b (kept.opens.got b) u also newest) ∙ got
      | inr none ↦ absurd (none.0 newest.i newest.k u newest.live)
    ]

-- a direct write of block b hands over bytes that satisfy P
abbrev pub HandsAt : (List ℕ → Type 0) → ℕ → Event → Type 0
HandsAt P b (DirectWrite c v) = c ≡ b → P v
HandsAt P b (DirectWriteFault c v) = c ≡ b → P v
HandsAt P b DirectSync = ⊤
HandsAt P b DirectSyncFault = ⊤
HandsAt P b (Accept batch) = ⊤
HandsAt P b (Read c v) = ⊤
HandsAt P b CommitStep = ⊤
HandsAt P b CommitFault = ⊤
HandsAt P b CheckpointStep = ⊤
HandsAt P b CheckpointFault = ⊤
HandsAt P b ReadFault = ⊤

abbrev pub HandsOver : (List ℕ → Type 0) → ℕ → Move → Type 0
HandsOver P b (Step event) = HandsAt P b event
HandsOver P b CloseStep = ⊤
HandsOver P b CloseFault = ⊤
HandsOver P b GiveUp = ⊤
HandsOver P b (Stop left) = ⊤
HandsOver P b (Begin found) = ⊤
HandsOver P b OpeningStep = ⊤
HandsOver P b OpeningFault = ⊤
HandsOver P b AnswerOk = ⊤
HandsOver P b (Upgrade move) = ⊤

-- a replay writes to block b bytes that satisfy P
abbrev pub ReplaysAs : (List ℕ → Type 0) → ℕ → Phase → Type 0
ReplaysAs P b (Opening found stage) = (u : List ℕ) → IsNewest found.texts b u → P u
ReplaysAs P b Shut = ⊤
ReplaysAs P b (Upgrading block stage) = ⊤
ReplaysAs P b Running = ⊤
ReplaysAs P b Closing = ⊤
ReplaysAs P b Closed = ⊤

-- block b reads as P says, and nothing that may come home violates P
pub record IsSafe (P : List ℕ → Type 0) (b : ℕ) (w : World) : Type 0 where
  pub within : b < w.shape.home_blocks
  pub reads : P (w.disk Home b).reads
  pub left : OfEngine ⊥ (λ e. IsLeftToHome e b) w.epoch
  pub replays : ReplaysAs P b w.phase

-- home holds only such bytes of it
abbrev pub HoldsAs : (List ℕ → Type 0) → ℕ → World → Type 0
HoldsAs P b w = (u : List ℕ) → IsOneOf (held (w.disk Home b)) u → P u

module _ (P : List ℕ → Type 0) (b : ℕ) where
  -- an engine step adds only such bytes to the block
  step-may : (e : Engine) (event : Event) (u : List ℕ) → HandsAt P b event → IsLeftToHome e b → StepMayAdd e event b u → P u
  step-may e (DirectWrite c v) u hands left (free, here, is) = subst P (sym is) (hands (sym here))
  step-may e (DirectWriteFault c v) u hands left (free, here, is) = subst P (sym is) (hands (sym here))
  step-may e DirectSync u hands left may = absurd may
  step-may e DirectSyncFault u hands left may = absurd may
  step-may e (Accept batch) u hands left may = absurd may
  step-may e (Read c v) u hands left may = absurd may
  step-may e CommitStep u hands left may = absurd may
  step-may e CommitFault u hands left may = absurd may
  step-may e CheckpointStep u hands left (i, newest) = absurd (left.none_newest i u newest)
  step-may e CheckpointFault u hands left (i, newest) = absurd (left.none_newest i u newest)
  step-may e ReadFault u hands left may = absurd may

  engine-may : (epoch : Option Epoch) (event : Event) (u : List ℕ) → HandsAt P b event → OfEngine ⊥ (λ e. IsLeftToHome e b) epoch →
      EngineMayAdd epoch event b u → P u
  engine-may None event u hands left may = absurd may
  engine-may (Some epoch) event u hands left may = step-may epoch.engine event u hands left may

  -- an opening adds only such bytes
  opening-may : (phase : Phase) (u : List ℕ) → ReplaysAs P b phase → OpeningMayAdd phase b u → P u
  opening-may (Opening found stage) u replays may = replays u may
  opening-may Shut u replays may = absurd may
  opening-may (Upgrading block stage) u replays may = absurd may
  opening-may Running u replays may = absurd may
  opening-may Closing u replays may = absurd may
  opening-may Closed u replays may = absurd may

  -- a move that is no crash adds only such bytes
  move-may : (w : World) (move : Move) (u : List ℕ) → IsNoStop move → HandsOver P b move → IsSafe P b w → MayAdd w move b u → P u
  move-may w (Step event) u goes hands safe may = engine-may w.epoch event u hands safe.left may
  move-may w OpeningStep u goes hands safe may = opening-may w.phase u safe.replays may
  move-may w OpeningFault u goes hands safe may = opening-may w.phase u safe.replays may
  move-may w (Stop left) u goes hands safe may = absurd goes
  move-may w CloseStep u goes hands safe may = absurd may
  move-may w CloseFault u goes hands safe may = absurd may
  move-may w GiveUp u goes hands safe may = absurd may
  move-may w (Begin found) u goes hands safe may = absurd may
  move-may w AnswerOk u goes hands safe may = absurd may
  move-may w (Upgrade move) u goes hands safe may = absurd may

  -- a new opening replays only such bytes
  begin-replays : (epoch : Option Epoch) (shape : Shape) (found : Found) (disk : Disk) → b < shape.home_blocks → P (disk Home b).reads →
      KeepsNow shape epoch disk → OfEngine ⊤ HasHistory epoch → OfEngine ⊥ (λ e. IsLeftToHome e b) epoch → IsFoundOn shape found disk →
      (u : List ℕ) → IsNewest found.texts b u → P u
  begin-replays None shape found disk within reads keeps history left is u newest = absurd left
  begin-replays (Some epoch) shape found disk within reads keeps history left is u newest =
      subst P (sym (found-same shape found epoch disk b u within keeps history left is newest)) reads

  -- each phase replays only such bytes
  move-replays : (w new : World) (move : Move) → Holds w → OfEngine ⊤ HasHistory w.epoch → IsSafe P b w → Moves w move new → ReplaysAs P b new.phase
  move-replays w new (Step event) holds history safe moves =
      subst (λ (x : World). ReplaysAs P b x.phase) (sym moves.after) (subst (ReplaysAs P b) (sym moves.running) tt)
  move-replays w new CloseStep holds history safe moves = subst (λ (x : World). ReplaysAs P b x.phase) (sym moves.after) (closing w.phase moves.phase moves.call moves.due)
    where
      closing : (phase next : Phase) (call : Call) → CloseCall moves.epoch.engine phase call next → ReplaysAs P b next
      closing phase next call (WriteClosed may) = tt
      closing phase next call FlushClosed = tt
  move-replays w new CloseFault holds history safe moves = subst (λ (x : World). ReplaysAs P b x.phase) (sym moves.after) tt
  move-replays w new GiveUp holds history safe moves = subst (λ (x : World). ReplaysAs P b x.phase) (sym moves.after) tt
  move-replays w new (Stop left) holds history safe moves = subst (λ (x : World). ReplaysAs P b x.phase) (sym moves.after) tt
  move-replays w new (Begin found) holds history safe moves =
      subst (λ (x : World). ReplaysAs P b x.phase) (sym moves.after)
      (begin-replays w.epoch w.shape found w.disk safe.within safe.reads (phase-keeps w.shape w.epoch w.disk w.phase holds.0) history safe.left moves.found_is)
  move-replays w new OpeningStep holds history safe moves =
      subst (λ (x : World). ReplaysAs P b x.phase) (sym moves.after) (subst (ReplaysAs P b) moves.opening safe.replays)
  move-replays w new OpeningFault holds history safe moves = subst (λ (x : World). ReplaysAs P b x.phase) (sym moves.after) tt
  move-replays w new (Upgrade (BeginUpgrade block)) holds history safe moves = subst (λ (x : World). ReplaysAs P b x.phase) (sym moves.after) tt
  move-replays w new (Upgrade UpgradeStep) holds history safe moves = subst (λ (x : World). ReplaysAs P b x.phase) (sym moves.after) tt
  move-replays w new (Upgrade UpgradeFault) holds history safe moves = subst (λ (x : World). ReplaysAs P b x.phase) (sym moves.after) tt
  move-replays w new AnswerOk holds history safe moves = subst (λ (x : World). ReplaysAs P b x.phase) (sym moves.after) tt

  -- a move keeps the block safe, if it still reads so
  move-safe : (w new : World) (move : Move) → Holds w → OfEngine ⊤ HasHistory w.epoch → LeavesAlone b move → IsSafe P b w → Moves w move new →
      P (new.disk Home b).reads → IsSafe P b new
  move-safe w new move holds history alone safe moves reads = record {
    within = subst (λ (shape : Shape). b < shape.home_blocks) (sym (move-shape w new move moves)) safe.within;
    reads = reads;
    left =
        move-engine ⊥ (λ e. IsLeftToHome e b) w new move
        (λ e f disk after event is happens left. event-left b e f disk after event (subst (LeavesAlone b) is alone) happens left)
        (λ e none. fresh-left e b none) moves safe.left;
    replays = move-replays w new move holds history safe moves;
  }

  -- the block reads so after a move that is no crash
  move-reads : (w new : World) (move : Move) → IsNoStop move → HandsOver P b move → IsSafe P b w → Moves w move new → P (new.disk Home b).reads
  move-reads w new move goes hands safe moves =
      ⊎_elim
      (λ same. subst P (sym same) safe.reads)
      (λ may. move-may w move (new.disk Home b).reads goes hands safe may)
      ((move-home w move new moves).reads b)

  -- the block holds only such bytes after any move
  move-held : (w new : World) (move : Move) → HandsOver P b move → IsSafe P b w → HoldsAs P b w → Moves w move new → HoldsAs P b new
  move-held w new move hands safe has moves u one =
      ⊎_elim (λ was. has u was) (λ may. held-may move hands may) ((move-home w move new moves).left b u one)
    where
      held-may : (move : Move) → HandsOver P b move → MayAdd w move b u → P u
      held-may (Stop left) hands may = has u may
      held-may (Step event) hands may = move-may w (Step event) u tt hands safe may
      held-may CloseStep hands may = move-may w CloseStep u tt hands safe may
      held-may CloseFault hands may = move-may w CloseFault u tt hands safe may
      held-may GiveUp hands may = move-may w GiveUp u tt hands safe may
      held-may (Begin found) hands may = move-may w (Begin found) u tt hands safe may
      held-may OpeningStep hands may = move-may w OpeningStep u tt hands safe may
      held-may OpeningFault hands may = move-may w OpeningFault u tt hands safe may
      held-may (Upgrade move) hands may = move-may w (Upgrade move) u tt hands safe may
      held-may AnswerOk hands may = move-may w AnswerOk u tt hands safe may

  -- what a world carries along
  pub record Carries (w : World) : Type 0 where
    pub holds : Holds w
    pub history : OfEngine ⊤ HasHistory w.epoch
    pub safe : IsSafe P b w

  carries-on : (old new : World) (move : Move) → LeavesAlone b move → Moves old move new → Carries old → P (new.disk Home b).reads → Carries new
  carries-on old new move alone moves carries reads = record {
    holds = move-holds old new move carries.holds moves;
    history = move-history old new move moves carries.history;
    safe = move-safe old new move carries.holds carries.history alone carries.safe moves reads;
  }

  -- a move that is no crash keeps the block safe
  pub on-safe : (old new : World) (move : Move) → HandsOver P b move → IsNoStop move → LeavesAlone b move → Moves old move new → Carries old → Carries new
  on-safe old new move hands goes alone moves carries =
      carries-on old new move alone moves carries (move-reads old new move goes hands carries.safe moves)

  -- any move does, if home holds nothing else of the block
  pub on-held : (old new : World) (move : Move) → HandsOver P b move → LeavesAlone b move → Moves old move new → Carries old × HoldsAs P b old →
      Carries new × HoldsAs P b new
  on-held old new move hands alone moves (carries, has) =
      let now : HoldsAs P b new = move-held old new move hands carries.safe has moves in
      (carries-on old new move alone moves carries (now (new.disk Home b).reads (inl refl)), now)

  -- so does a sequence of moves
  run-safe : (old new : World) (moves : List Move) → ((move : Move) → Contains moves move → HandsOver P b move) → AllByRecursion IsNoStop moves →
      AllByRecursion (LeavesAlone b) moves → Leads old moves new → Carries old → Carries new
  run-safe old new [] hands goes alone same carries = subst Carries (sym same) carries
  run-safe old new (move ∷ moves) hands goes alone (mid, first, rest) carries =
      run-safe mid new moves (λ m among. hands m (contains-behind move moves m among)) goes.1 alone.1 rest
      (on-safe old mid move (hands move (contains-first move moves move refl)) goes.0 alone.0 first carries)

  run-held : (old new : World) (moves : List Move) → ((move : Move) → Contains moves move → HandsOver P b move) → AllByRecursion (LeavesAlone b) moves →
      Leads old moves new → Carries old × HoldsAs P b old → Carries new × HoldsAs P b new
  run-held old new [] hands alone same has = subst (λ (w : World). Carries w × HoldsAs P b w) (sym same) has
  run-held old new (move ∷ moves) hands alone (mid, first, rest) has =
      run-held mid new moves (λ m among. hands m (contains-behind move moves m among)) alone.1 rest
      (on-held old mid move (hands move (contains-first move moves move refl)) alone.0 first has)

-- a fact of a joined list holds of both parts
split-all : (Q : Move → Type 0) (xs ys : List Move) → AllByRecursion Q (xs ++ ys) → AllByRecursion Q xs × AllByRecursion Q ys
split-all Q [] ys all = (tt, all)
split-all Q (x ∷ xs) ys all = let rest = split-all Q xs ys all.1 in ((all.0, rest.0), rest.1)

-- a block that is written directly has the right to it
write-left : (e : Engine) (b : ℕ) (v : List ℕ) → DirectCall e (Write Home b v) → IsLeftToHome e b × (b < e.shape.home_blocks)
write-left e b v (WriteDirect c w left allowed whole) = (left, allowed.in_home)

-- a direct write among some moves is one of them
handed-among : (since moves : List Move) (b : ℕ) (v : List ℕ) → ((move : Move) → Contains moves move → Contains since move) →
    (move : Move) → Contains moves move → HandsOver (IsThatOrLater since b v) b move
handed-among since moves b v within (Step (DirectWrite c w)) among =
    λ here. inr (Succeeded (subst (λ (n : ℕ). Contains since (Step (DirectWrite n w))) here (within (Step (DirectWrite c w)) among)))
handed-among since moves b v within (Step (DirectWriteFault c w)) among =
    λ here. inr (Failed (subst (λ (n : ℕ). Contains since (Step (DirectWriteFault n w))) here (within (Step (DirectWriteFault c w)) among)))
handed-among since moves b v within (Step DirectSync) among = tt
handed-among since moves b v within (Step DirectSyncFault) among = tt
handed-among since moves b v within (Step (Accept batch)) among = tt
handed-among since moves b v within (Step (Read c w)) among = tt
handed-among since moves b v within (Step CommitStep) among = tt
handed-among since moves b v within (Step CommitFault) among = tt
handed-among since moves b v within (Step CheckpointStep) among = tt
handed-among since moves b v within (Step CheckpointFault) among = tt
handed-among since moves b v within (Step ReadFault) among = tt
handed-among since moves b v within CloseStep among = tt
handed-among since moves b v within CloseFault among = tt
handed-among since moves b v within GiveUp among = tt
handed-among since moves b v within (Stop left) among = tt
handed-among since moves b v within (Begin found) among = tt
handed-among since moves b v within OpeningStep among = tt
handed-among since moves b v within OpeningFault among = tt
handed-among since moves b v within AnswerOk among = tt
handed-among since moves b v within (Upgrade move) among = tt

-- after a direct write the block is safe
pub written-safe : (P : List ℕ → Type 0) (b : ℕ) (v : List ℕ) (w new : World) → Holds w → OfEngine ⊤ HasHistory w.epoch → Moves w (Step (DirectWrite b v)) new →
    P v → Carries P b new
written-safe P b v w new holds history moves is =
    let right = write-left moves.epoch.engine b v moves.happens.due in
    let runs = runs-in w.shape w.epoch moves.epoch w.disk moves.now (subst (HoldsAt w.shape w.epoch w.disk) moves.running holds.0) in
    let within : b < w.shape.home_blocks = subst (λ (shape : Shape). b < shape.home_blocks) runs.runs.shape_is right.1 in
    let reads : (new.disk Home b).reads ≡ v =
    ap (λ (d : Disk). (d Home b).reads) moves.happens.disk_is ∙ ap (λ (c : Cell). c.reads) (put-there b b _ (w.disk Home b) refl) in
    record {
      holds = move-holds w new (Step (DirectWrite b v)) holds moves;
      history = move-history w new (Step (DirectWrite b v)) moves history;
      safe = record {
        within = subst (λ (shape : Shape). b < shape.home_blocks) (sym (move-shape w new (Step (DirectWrite b v)) moves)) within;
        reads = subst P (sym reads) is;
        left =
            subst (λ (x : World). OfEngine ⊥ (λ e. IsLeftToHome e b) x.epoch) (sym moves.after)
            (subst (λ (e : Engine). IsLeftToHome e b) (sym moves.happens.engine) right.0);
        replays = subst (λ (x : World). ReplaysAs P b x.phase) (sym moves.after) (subst (ReplaysAs P b) (sym moves.running) tt);
      };
    }

-- after a flush of home it holds what it read
pub synced-held : (P : List ℕ → Type 0) (b : ℕ) (w new : World) → IsSafe P b w → Moves w (Step DirectSync) new → HoldsAs P b new
synced-held P b w new safe moves u one =
    only (subst (λ (d : Disk). IsOneOf (held (d Home b)) u) moves.happens.disk_is one)
  where
    only : (u ≡ (w.disk Home b).reads) ⊎ ⊥ → P u
    only (inl is) = subst P (sym is) safe.reads
    only (inr none) = absurd none

-- a running engine reads what home holds
pub safe-reads : (P : List ℕ → Type 0) (b : ℕ) (w : World) (epoch : Epoch) (u : List ℕ) → IsSafe P b w → w.epoch ≡ Some epoch → IsRead epoch.engine w.disk b u → P u
safe-reads P b w epoch u safe now read =
    let left : IsLeftToHome epoch.engine b = now-engine ⊥ (λ e. IsLeftToHome e b) w.epoch epoch now safe.left in
    subst P (sym (read.other (λ i v newest. left.none_newest i v newest))) safe.reads

-- a synced direct write stays
pub synced-stays : (start end : World) (b : ℕ) (v : List ℕ) (run : IsSynced start b v end) → Begins start → KeepsDirect (since_write start b v end run) b v end
synced-stays start end b v run begins =
    let since : List Move = run.between ++ run.behind in
    let P : List ℕ → Type 0 = IsThatOrLater since b v in
    let alone = split-all (LeavesAlone b) run.between run.behind run.alone in
    let holds : Holds run.ready = life-holds start run.ready run.before (begin-holds start begins) run.leads_to in
    let history : OfEngine ⊤ HasHistory run.ready.epoch = run-history start run.ready run.before (begin-history start begins) run.leads_to in
    let first : Carries P b run.written = written-safe P b v run.ready run.written holds history run.writes (inl refl) in
    let unsynced : Carries P b run.unsynced =
    run-safe P b run.written run.unsynced run.between
    (handed-among since run.between b v (λ move among. Contains-append_left run.between run.behind move among))
    run.unstopped alone.0 run.leads_on first in
    let synced : Carries P b run.synced = on-safe P b run.unsynced run.synced (Step DirectSync) tt tt tt run.syncs unsynced in
    let last =
    run-held P b run.synced end run.behind
    (handed-among since run.behind b v (λ move among. Contains-append_right run.between run.behind move among))
    alone.1 run.leads (synced, synced-held P b run.unsynced run.synced unsynced.safe run.syncs) in
    record {
      holds = last.1;
      reads = λ epoch u running now read. safe-reads P b end epoch u last.0.safe now read;
    }
