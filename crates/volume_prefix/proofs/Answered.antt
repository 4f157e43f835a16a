-- Every answered transaction is a sealed one.
use Rattle.std.proofs.Common.{refl, sym, ap, subst, arith}
use Rattle.std.specs.Prelude.{◌≡◌, ◌≤◌, ◌<◌, ◌+◌, ◌-◌, ℕ, suc, max, List, [], ◌∷◌, ◌++◌, length, Option, Some, None}
use Rattle.std.specs.List.{AllByRecursion}
use Rattle.journal_model.specs.Disk.{Disk, reading}
use Rattle.journal_world.specs.Front.{Front, FrontEvent, FrontHappens}
use Rattle.journal_world.specs.Front.FrontEvent.{Reserve, RefuseReserve, TakeBack, GiveBack, LoadCredits, LoadMark, Join, ExtendHandle, WriteBlock, RevokeBlock, StopHandle, Lock, Raise}
use Rattle.journal_world.specs.Journal.{Event, Happens, Journal, KeepsFront}
use Rattle.journal_world.specs.Journal.Event.{FrontStep, Seal, CommitStep, CommitFault, CheckpointStep, CheckpointFault, ReadBlock, ReadFault, DirectWrite, DirectWriteFault, DirectSync, DirectSyncFault, Finish, AbortMark}
use Rattle.journal_world.proofs.Elements.{all-weaker}
use Rattle.log_epochs.specs.EnginePromise.{KeepsNow as BelowKeepsNow, KeepsPromise as BelowKeepsPromise, Kept as BelowKept}
use Rattle.log_epochs.specs.Epoch.{Epoch}
use Rattle.log_epochs.specs.JournalPromise.{KeepsFrontNow, KeepsPromise}
use Rattle.log_epochs.specs.JournalWorld.{Begins, IsFreshTold, JournalWorld, Leads, Move, Moves, Told}
use Rattle.log_epochs.specs.JournalWorld.Move.{Step as StepOf, Answer, Below}
use Rattle.log_epochs.proofs.Journals.{journal-promise, run-below}
use Rattle.log_epochs.proofs.Keeping.{reads-left}
use Rattle.log_epochs.proofs.Leading.{leads-more}
use Rattle.log_epochs.proofs.Lives.{life-promise}
use Rattle.volume_prefix.proofs.Lasting.{Now, begin-now, below-now, now-some}

-- the numbers of finished and of answered transactions are below the running one's
abbrev pub IsBelow : Front → List ℕ → Type 0
IsBelow f answered = (f.finished < f.running.tid) × (f.mark < f.running.tid) × AllByRecursion (λ n. n < f.running.tid) answered

raised : (mark t most : ℕ) → mark < most → t < most → max mark t < most
raised mark t most low high = omega arith

-- each step of the front
front-below : (old new : Front) (answered : List ℕ) (event : FrontEvent) → FrontHappens old event new → IsBelow old answered →
    IsBelow new answered
front-below old new answered (Reserve n) step low = subst (λ (f : Front). IsBelow f answered) (sym step.after) low
front-below old new answered (RefuseReserve n) step low = subst (λ (f : Front). IsBelow f answered) (sym step.after) low
front-below old new answered (TakeBack n) step low = subst (λ (f : Front). IsBelow f answered) (sym step.after) low
front-below old new answered (GiveBack n) step low = subst (λ (f : Front). IsBelow f answered) (sym step.after) low
front-below old new answered (LoadCredits found) step low = subst (λ (f : Front). IsBelow f answered) (sym step.after) low
front-below old new answered (LoadMark found) step low = subst (λ (f : Front). IsBelow f answered) (sym step.after) low
front-below old new answered (Join n) step low = subst (λ (f : Front). IsBelow f answered) (sym step.after) low
front-below old new answered (ExtendHandle h n) step low = subst (λ (f : Front). IsBelow f answered) (sym step.after) low
front-below old new answered (WriteBlock h b v) step low = subst (λ (f : Front). IsBelow f answered) (sym step.after) low
front-below old new answered (RevokeBlock h b) step low = subst (λ (f : Front). IsBelow f answered) (sym step.after) low
front-below old new answered (StopHandle h) step low = subst (λ (f : Front). IsBelow f answered) (sym step.after) low
front-below old new answered Lock step low = subst (λ (f : Front). IsBelow f answered) (sym step.after) low
front-below old new answered (Raise t) step low =
    let done : t ≤ old.finished = step.finished in
    let least : old.finished < old.running.tid = low.0 in
    let small : t < old.running.tid = omega arith in
    subst (λ (f : Front). IsBelow f answered) (sym step.after) (low.0, raised old.mark t old.running.tid low.1 small, low.2)

-- each step of the journal, if no more transactions are committed than are sealed
event-below : (old new : Journal) (disk after : Disk) (answered : List ℕ) (event : Event) → Happens old disk event new after →
    old.engine.first + old.engine.committed ≤ old.front.running.tid → IsBelow old.front answered → IsBelow new.front answered
event-below old new disk after answered (FrontStep event) step few low = front-below old.front new.front answered event step.front low
event-below old new disk after answered Seal step few low =
    let finished : old.front.finished < old.front.running.tid = low.0 in
    let marked : old.front.mark < old.front.running.tid = low.1 in
    let more : old.front.finished < suc old.front.running.tid = omega arith in
    let above : old.front.mark < suc old.front.running.tid = omega arith in
    subst (λ (f : Front). IsBelow f answered) (sym step.front)
    (more, above, all-weaker (λ n. n < old.front.running.tid) (λ n. n < suc old.front.running.tid) (λ n less. omega arith) answered low.2)
event-below old new disk after answered CommitStep step few low = subst (λ (f : Front). IsBelow f answered) (sym step.front) low
event-below old new disk after answered CommitFault step few low = subst (λ (f : Front). IsBelow f answered) (sym step.front) low
event-below old new disk after answered CheckpointStep step few low = subst (λ (f : Front). IsBelow f answered) (sym step.front) low
event-below old new disk after answered CheckpointFault step few low = subst (λ (f : Front). IsBelow f answered) (sym step.front) low
event-below old new disk after answered (ReadBlock h b v) step few low = subst (λ (f : Front). IsBelow f answered) (sym step.front) low
event-below old new disk after answered ReadFault step few low = subst (λ (f : Front). IsBelow f answered) (sym step.front) low
event-below old new disk after answered (DirectWrite b v) step few low = subst (λ (f : Front). IsBelow f answered) (sym step.front) low
event-below old new disk after answered (DirectWriteFault b v) step few low = subst (λ (f : Front). IsBelow f answered) (sym step.front) low
event-below old new disk after answered DirectSync step few low = subst (λ (f : Front). IsBelow f answered) (sym step.front) low
event-below old new disk after answered DirectSyncFault step few low = subst (λ (f : Front). IsBelow f answered) (sym step.front) low
event-below old new disk after answered Finish step few low =
    let done : old.front.finished + 1 < old.engine.first + old.engine.committed = step.committed in
    let next : old.front.finished + 1 < old.front.running.tid = omega arith in
    subst (λ (f : Front). IsBelow f answered) (sym step.front) (next, low.1, low.2)
event-below old new disk after answered AbortMark step few low = subst (λ (f : Front). IsBelow f answered) (sym step.front) low

-- the promise of a reached world, and that no more transactions are committed than are sealed
pub record IsPromised (w : JournalWorld) (epoch : Epoch) : Type 0 where
  pub promise : KeepsPromise w
  pub front : KeepsFront w.told.front epoch.engine
  pub few : epoch.engine.first + epoch.engine.committed ≤ w.told.front.running.tid

pub promised : (start w : JournalWorld) (moves : List Move) (epoch : Epoch) → Begins start → Leads start moves w →
    w.below.epoch ≡ Some epoch → IsPromised w epoch
promised start w moves epoch begins leads now =
    let promise : KeepsPromise w = journal-promise life-promise start w moves begins leads in
    let front : KeepsFront w.told.front epoch.engine = subst (λ (o : Option Epoch). KeepsFrontNow o w.told) now promise.front in
    let below = run-below start w moves leads in
    let engine : BelowKeepsPromise w.below = life-promise start.below w.below below.0 begins.below below.1 in
    let keeps : BelowKeepsNow w.below.shape (Some epoch) w.below.disk =
    subst (λ (o : Option Epoch). BelowKeepsNow w.below.shape o w.below.disk) now engine.now in
    let kept : BelowKept w.below.shape epoch w.told.front.sealed (reading w.below.disk) =
    keeps (reading w.below.disk) (reads-left w.below.disk) w.told.front.sealed front.accepted in
    let low : epoch.engine.committed ≤ kept.n = kept.low in
    let high : kept.n ≤ length epoch.engine.accepted = kept.high in
    let number : w.told.front.running.tid ≡ epoch.engine.first + length epoch.engine.accepted = front.number in
    record { promise = promise; front = front; few = omega arith }

-- what is told is so
abbrev AreBelow : Told → Type 0
AreBelow told = IsBelow told.front told.answered

new-below : (epoch : Epoch) (told : Told) → 0 < epoch.engine.first → IsFreshTold epoch told → AreBelow told
new-below epoch told some fresh =
    let is = fresh.journal.front in
    let finished : told.front.finished ≡ epoch.engine.first - 1 = ap (λ (f : Front). f.finished) is in
    let mark : told.front.mark ≡ epoch.engine.first - 1 = ap (λ (f : Front). f.mark) is in
    let number : told.front.running.tid ≡ epoch.engine.first = ap (λ (f : Front). f.running.tid) is in
    (omega arith, omega arith, subst (AllByRecursion (λ n. n < told.front.running.tid)) (sym fresh.unanswered) tt)

move-below : (start old new : JournalWorld) (before : List Move) (move : Move) → Begins start → Leads start before old →
    Moves old move new → Now AreBelow old.below.epoch old.told → Now AreBelow new.below.epoch new.told
move-below start old new before (StepOf event) begins leads step now =
    let few = (promised start old before step.epoch begins leads step.now).few in
    subst (λ (w : JournalWorld). Now AreBelow w.below.epoch w.told) (sym step.after)
    (event-below _ step.journal old.below.disk new.below.disk old.told.answered event step.happens few
    (now-some AreBelow old.below.epoch step.epoch old.told step.now now))
move-below start old new before (Answer tid) begins leads step now =
    subst (λ (w : JournalWorld). Now AreBelow w.below.epoch w.told) (sym step.after) (answered old.below.epoch now)
  where
    answered : (epoch : Option Epoch) → Now AreBelow epoch old.told →
        Now AreBelow epoch (record old.told { answered = tid ∷ old.told.answered })
    answered None low = tt
    answered (Some epoch) low =
        let least : tid ≤ old.told.front.mark = step.marked in
        let marked : old.told.front.mark < old.told.front.running.tid = low.1 in
        let small : tid < old.told.front.running.tid = omega arith in
        (low.0, low.1, (small, low.2))
move-below start old new before (Below move) begins leads step now = below-now AreBelow new-below old new move step.below step.tells now

moves-below : (start old new : JournalWorld) (before moves : List Move) → Begins start → Leads start before old → Leads old moves new →
    Now AreBelow old.below.epoch old.told → Now AreBelow new.below.epoch new.told
moves-below start old new before [] begins leads same now = subst (λ (w : JournalWorld). Now AreBelow w.below.epoch w.told) (sym same) now
moves-below start old new before (move ∷ moves) begins leads (mid, first, rest) now =
    moves-below start mid new (before ++ move ∷ []) moves begins (leads-more start old mid before move leads first) rest
    (move-below start old mid before move begins leads first now)

-- whatever the run, each answered transaction comes before the running one
pub answered-below : (start end : JournalWorld) (moves : List Move) (epoch : Epoch) → Begins start → Leads start moves end →
    end.below.epoch ≡ Some epoch → AllByRecursion (λ n. n < end.told.front.running.tid) end.told.answered
answered-below start end moves epoch begins leads now =
    (now-some AreBelow end.below.epoch epoch end.told now
    (moves-below start start end [] moves begins refl leads (begin-now AreBelow new-below start begins))).2
