-- Where no handle joins while another one is open, the record goes from handle to handle.
use Rattle.std.proofs.Common.{refl, sym, ◌∙◌, ap, subst, arith}
use Rattle.std.specs.Prelude.{◌≡◌, ◌≤◌, ◌<◌, ◌+◌, ℕ, List, [], ◌∷◌, ◌++◌, Option, Some, None}
use Rattle.std.specs.List.{AllByRecursion}
use Rattle.journal_model.specs.declared.transaction.Step.{Step}
use Rattle.journal_model.specs.Disk.{Disk}
use Rattle.journal_model.specs.Record.{steps_of}
use Rattle.journal_model.specs.Transaction.{History}
use Rattle.journal_world.specs.Front.{Front, FrontEvent, FrontHappens, IsOpen, extending, transactions}
use Rattle.journal_world.specs.Front.FrontEvent.{Reserve, RefuseReserve, TakeBack, GiveBack, LoadCredits, LoadMark, Join, ExtendHandle, WriteBlock, RevokeBlock, StopHandle, Lock, Raise}
use Rattle.journal_world.specs.Journal.{Event, Happens, Journal}
use Rattle.journal_world.specs.Journal.Event.{FrontStep, Seal, CommitStep, CommitFault, CheckpointStep, CheckpointFault, ReadBlock, ReadFault, DirectWrite, DirectWriteFault, DirectSync, DirectSyncFault, Finish, AbortMark}
use Rattle.journal_world.proofs.Elements.{all-weaker}
use Rattle.log_epochs.specs.Epoch.{Epoch}
use Rattle.log_epochs.specs.JournalWorld.{Begins, IsFreshTold, JournalWorld, Leads, Move, Moves, Told}
use Rattle.log_epochs.specs.JournalWorld.Move.{Step as StepOf, Answer, Below}
use Rattle.volume_prefix.specs.Runs.{JoinsAlone, OneAtATime}
use Rattle.volume_prefix.proofs.Lasting.{Now, begin-now, below-now, now-some}
use Rattle.volume_prefix.proofs.Orders.{AreInOrder, KeepsOrder}
use Rattle.volume_prefix.proofs.Steps.{steps-last, steps-more, steps-same, steps-sealed}

-- one more step of the last handle
order-push : (least : ℕ) (ss : List Step) (s : Step) → AreInOrder least ss → AllByRecursion (λ x. x.handle ≤ s.handle) ss →
    least ≤ s.handle → AreInOrder least (ss ++ s ∷ [])
order-push least [] s order most low = (low, tt)
order-push least (x ∷ ss) s order most low = (order.0, order-push x.handle ss s order.1 most.1 most.0)

most-push : (most : ℕ) (ss : List Step) (s : Step) → AllByRecursion (λ x. x.handle ≤ most) ss → s.handle ≤ most →
    AllByRecursion (λ x. x.handle ≤ most) (ss ++ s ∷ [])
most-push most [] s all one = (one, tt)
most-push most (x ∷ ss) s all one = (all.0, most-push most ss s all.1 one)

-- the same steps, and no other open handle
same-order : (old new : Front) → new.sealed ≡ old.sealed → new.running.steps ≡ old.running.steps → new.given ≡ old.given →
    new.open_handles ≡ old.open_handles → KeepsOrder old → KeepsOrder new
same-order old new sealed steps given handles keeps =
    let same = steps-same old new sealed steps in
    record {
      order = subst (AreInOrder 0) (sym same) keeps.order;
      most = subst (λ (n : ℕ). AllByRecursion (λ s. s.handle ≤ n) (steps_of (transactions new))) (sym given)
          (subst (AllByRecursion (λ s. s.handle ≤ old.given)) (sym same) keeps.most);
      last = subst (λ (n : ℕ). AllByRecursion (λ h. h.0 ≡ n) new.open_handles) (sym given)
          (subst (AllByRecursion (λ h. h.0 ≡ old.given)) (sym handles) keeps.last);
    }

-- an open handle between others
handles-is : (n h left : ℕ) (before behind : List (ℕ × ℕ)) → AllByRecursion (λ o. o.0 ≡ n) (before ++ (h, left) ∷ behind) → h ≡ n
handles-is n h left [] behind all = all.0
handles-is n h left (o ∷ before) behind all = handles-is n h left before behind all.1

handles-again : (n h left other : ℕ) (before behind : List (ℕ × ℕ)) → AllByRecursion (λ o. o.0 ≡ n) (before ++ (h, left) ∷ behind) →
    AllByRecursion (λ o. o.0 ≡ n) (before ++ (h, other) ∷ behind)
handles-again n h left other [] behind all = all
handles-again n h left other (o ∷ before) behind all = (all.0, handles-again n h left other before behind all.1)

handles-gone : (n h left : ℕ) (before behind : List (ℕ × ℕ)) → AllByRecursion (λ o. o.0 ≡ n) (before ++ (h, left) ∷ behind) →
    AllByRecursion (λ o. o.0 ≡ n) (before ++ behind)
handles-gone n h left [] behind all = all.1
handles-gone n h left (o ∷ before) behind all = (all.0, handles-gone n h left before behind all.1)

opened : (f : Front) (h : ℕ) (handle : IsOpen f h) → KeepsOrder f →
    AllByRecursion (λ o. o.0 ≡ f.given) (handle.before ++ (h, handle.left) ∷ handle.behind)
opened f h handle keeps = subst (AllByRecursion (λ o. o.0 ≡ f.given)) handle.stands keeps.last

-- a step of the open handle
touch-order : (old new : Front) (h left : ℕ) (s : Step) (handle : IsOpen old h) → s.handle ≡ h → new.sealed ≡ old.sealed →
    new.running.steps ≡ old.running.steps ++ s ∷ [] → new.given ≡ old.given →
    new.open_handles ≡ handle.before ++ (h, left) ∷ handle.behind → KeepsOrder old → KeepsOrder new
touch-order old new h left s handle mine sealed steps given handles keeps =
    let more = steps-more old new s sealed steps in
    let all = opened old h handle keeps in
    let is : h ≡ old.given = handles-is old.given h handle.left handle.before handle.behind all in
    let by : s.handle ≡ old.given = mine ∙ is in
    let most : AllByRecursion (λ x. x.handle ≤ s.handle) (steps_of (transactions old)) =
    subst (λ (n : ℕ). AllByRecursion (λ x. x.handle ≤ n) (steps_of (transactions old))) (sym by) keeps.most in
    let low : 0 ≤ s.handle = omega arith in
    let high : s.handle ≤ old.given = omega arith in
    record {
      order = subst (AreInOrder 0) (sym more) (order-push 0 (steps_of (transactions old)) s keeps.order most low);
      most = subst (λ (n : ℕ). AllByRecursion (λ x. x.handle ≤ n) (steps_of (transactions new))) (sym given)
          (subst (AllByRecursion (λ x. x.handle ≤ old.given)) (sym more)
          (most-push old.given (steps_of (transactions old)) s keeps.most high));
      last = subst (λ (n : ℕ). AllByRecursion (λ o. o.0 ≡ n) new.open_handles) (sym given)
          (subst (AllByRecursion (λ o. o.0 ≡ old.given)) (sym handles)
          (handles-again old.given h handle.left left handle.before handle.behind all));
    }

-- a handle that joins alone
join-order : (old new : Front) (n : ℕ) → new.sealed ≡ old.sealed → new.running.steps ≡ old.running.steps → new.given ≡ old.given + 1 →
    new.open_handles ≡ old.open_handles ++ (old.given + 1, n) ∷ [] → old.open_handles ≡ [] → KeepsOrder old → KeepsOrder new
join-order old new n sealed steps given handles alone keeps =
    let same = steps-same old new sealed steps in
    let only : new.open_handles ≡ (old.given + 1, n) ∷ [] = handles ∙ ap (λ (os : List (ℕ × ℕ)). os ++ (old.given + 1, n) ∷ []) alone in
    record {
      order = subst (AreInOrder 0) (sym same) keeps.order;
      most = subst (AllByRecursion (λ s. s.handle ≤ new.given)) (sym same)
          (all-weaker (λ s. s.handle ≤ old.given) (λ s. s.handle ≤ new.given) (λ s low. omega arith)
          (steps_of (transactions old)) keeps.most);
      last = subst (AllByRecursion (λ o. o.0 ≡ new.given)) (sym only) (sym given, tt);
    }

-- a handle with more credits
extended : (f : Front) (h n : ℕ) (handle : IsOpen f h) → KeepsOrder f → KeepsOrder (extending f h n handle)
extended f h n handle keeps =
    let same = steps-same f (extending f h n handle) refl refl in
    record {
      order = subst (AreInOrder 0) (sym same) keeps.order;
      most = subst (AllByRecursion (λ s. s.handle ≤ f.given)) (sym same) keeps.most;
      last = handles-again f.given h handle.left (handle.left + n) handle.before handle.behind (opened f h handle keeps);
    }

-- each step of the front
front-order : (old new : Front) (event : FrontEvent) → FrontHappens old event new → ((n : ℕ) → event ≡ Join n → old.open_handles ≡ []) →
    KeepsOrder old → KeepsOrder new
front-order old new (Reserve n) step alone keeps = subst KeepsOrder (sym step.after) (same-order old _ refl refl refl refl keeps)
front-order old new (RefuseReserve n) step alone keeps = subst KeepsOrder (sym step.after) (same-order old _ refl refl refl refl keeps)
front-order old new (TakeBack n) step alone keeps = subst KeepsOrder (sym step.after) (same-order old _ refl refl refl refl keeps)
front-order old new (GiveBack n) step alone keeps = subst KeepsOrder (sym step.after) (same-order old _ refl refl refl refl keeps)
front-order old new (LoadCredits found) step alone keeps = subst KeepsOrder (sym step.after) keeps
front-order old new (LoadMark found) step alone keeps = subst KeepsOrder (sym step.after) keeps
front-order old new (Join n) step alone keeps =
    subst KeepsOrder (sym step.after) (join-order old _ n refl refl refl refl (alone n refl) keeps)
front-order old new (ExtendHandle h n) step alone keeps = subst KeepsOrder (sym step.after) (extended old h n step.handle keeps)
front-order old new (WriteBlock h b v) step alone keeps =
    subst KeepsOrder (sym step.after) (touch-order old _ h _ _ step.handle refl refl refl refl refl keeps)
front-order old new (RevokeBlock h b) step alone keeps =
    subst KeepsOrder (sym step.after) (touch-order old _ h _ _ step.handle refl refl refl refl refl keeps)
front-order old new (StopHandle h) step alone keeps =
    subst KeepsOrder (sym step.after)
    (record {
      order = keeps.order;
      most = keeps.most;
      last = handles-gone old.given h step.handle.left step.handle.before step.handle.behind (opened old h step.handle keeps);
    })
front-order old new Lock step alone keeps = subst KeepsOrder (sym step.after) (same-order old _ refl refl refl refl keeps)
front-order old new (Raise t) step alone keeps = subst KeepsOrder (sym step.after) (same-order old _ refl refl refl refl keeps)

-- a seal moves the running transaction's steps
seal-order : (old new : Front) → new.sealed ≡ old.sealed ++ old.running ∷ [] → new.running.steps ≡ [] → new.given ≡ old.given →
    new.open_handles ≡ old.open_handles → KeepsOrder old → KeepsOrder new
seal-order old new sealed none given handles keeps =
    let same : steps_of (transactions new) ≡ steps_of (transactions old) = steps-sealed old new sealed none in
    record {
      order = subst (AreInOrder 0) (sym same) keeps.order;
      most = subst (λ (n : ℕ). AllByRecursion (λ s. s.handle ≤ n) (steps_of (transactions new))) (sym given)
          (subst (AllByRecursion (λ s. s.handle ≤ old.given)) (sym same) keeps.most);
      last = subst (λ (n : ℕ). AllByRecursion (λ h. h.0 ≡ n) new.open_handles) (sym given)
          (subst (AllByRecursion (λ h. h.0 ≡ old.given)) (sym handles) keeps.last);
    }

-- each step of the journal
event-order : (old new : Journal) (disk after : Disk) (event : Event) → Happens old disk event new after →
    ((n : ℕ) → event ≡ FrontStep (Join n) → old.front.open_handles ≡ []) → KeepsOrder old.front → KeepsOrder new.front
event-order old new disk after (FrontStep event) step alone keeps =
    front-order old.front new.front event step.front (λ n is. alone n (ap (λ (e : FrontEvent). FrontStep e) is)) keeps
event-order old new disk after Seal step alone keeps = subst KeepsOrder (sym step.front) (seal-order old.front _ refl refl refl refl keeps)
event-order old new disk after CommitStep step alone keeps = subst KeepsOrder (sym step.front) keeps
event-order old new disk after CommitFault step alone keeps = subst KeepsOrder (sym step.front) keeps
event-order old new disk after CheckpointStep step alone keeps = subst KeepsOrder (sym step.front) keeps
event-order old new disk after CheckpointFault step alone keeps = subst KeepsOrder (sym step.front) keeps
event-order old new disk after (ReadBlock h b v) step alone keeps =
    subst KeepsOrder (sym step.front)
    (touch-order old.front _ h step.handle.left _ step.handle refl refl refl refl step.handle.stands keeps)
event-order old new disk after ReadFault step alone keeps =
    subst KeepsOrder (sym step.front) (same-order old.front _ refl refl refl refl keeps)
event-order old new disk after (DirectWrite b v) step alone keeps = subst KeepsOrder (sym step.front) keeps
event-order old new disk after (DirectWriteFault b v) step alone keeps =
    subst KeepsOrder (sym step.front) (same-order old.front _ refl refl refl refl keeps)
event-order old new disk after DirectSync step alone keeps = subst KeepsOrder (sym step.front) keeps
event-order old new disk after DirectSyncFault step alone keeps =
    subst KeepsOrder (sym step.front) (same-order old.front _ refl refl refl refl keeps)
event-order old new disk after Finish step alone keeps =
    subst KeepsOrder (sym step.front) (same-order old.front _ refl refl refl refl keeps)
event-order old new disk after AbortMark step alone keeps =
    subst KeepsOrder (sym step.front) (same-order old.front _ refl refl refl refl keeps)

-- a fresh front has no steps
fresh-order : (f : Front) → f.sealed ≡ [] → f.running.steps ≡ [] → f.open_handles ≡ [] → KeepsOrder f
fresh-order f sealed none handles =
    let same : steps_of (transactions f) ≡ [] =
    steps-last f.sealed f.running ∙ (ap (λ (ts : History). steps_of ts ++ f.running.steps) sealed ∙ none) in
    record {
      order = subst (AreInOrder 0) (sym same) tt;
      most = subst (AllByRecursion (λ s. s.handle ≤ f.given)) (sym same) tt;
      last = subst (AllByRecursion (λ h. h.0 ≡ f.given)) (sym handles) tt;
    }

-- the record of what is told goes from handle to handle
abbrev pub Ordered : Told → Type 0
Ordered told = KeepsOrder told.front

-- so does that of a new epoch
new-order : (epoch : Epoch) (told : Told) → 0 < epoch.engine.first → IsFreshTold epoch told → Ordered told
new-order epoch told some fresh =
    let is = fresh.journal.front in
    fresh-order told.front (ap (λ (f : Front). f.sealed) is) (ap (λ (f : Front). f.running.steps) is)
    (ap (λ (f : Front). f.open_handles) is)

move-order : (old new : JournalWorld) (move : Move) → Moves old move new → JoinsAlone move old.told.front →
    Now Ordered old.below.epoch old.told → Now Ordered new.below.epoch new.told
move-order old new (StepOf event) step alone now =
    let keeps : KeepsOrder old.told.front = now-some Ordered old.below.epoch step.epoch old.told step.now now in
    subst (λ (w : JournalWorld). Now Ordered w.below.epoch w.told) (sym step.after)
    (event-order _ step.journal old.below.disk new.below.disk event step.happens (λ n is. alone n (ap (λ (e : Event). StepOf e) is)) keeps)
move-order old new (Answer tid) step alone now =
    subst (λ (w : JournalWorld). Now Ordered w.below.epoch w.told) (sym step.after) (answered old.below.epoch now)
  where
    answered : (epoch : Option Epoch) → Now Ordered epoch old.told →
        Now Ordered epoch (record old.told { answered = tid ∷ old.told.answered })
    answered None keeps = tt
    answered (Some epoch) keeps = keeps
move-order old new (Below move) step alone now = below-now Ordered new-order old new move step.below step.tells now

moves-order : (old : JournalWorld) (moves : List Move) (new : JournalWorld) (leads : Leads old moves new) → OneAtATime old moves new leads →
    Now Ordered old.below.epoch old.told → Now Ordered new.below.epoch new.told
moves-order old [] new same alone now = subst (λ (w : JournalWorld). Now Ordered w.below.epoch w.told) (sym same) now
moves-order old (move ∷ moves) new (mid, first, rest) alone now =
    moves-order mid moves new rest alone.1 (move-order old mid move first alone.0 now)

pub run-order : (start end : JournalWorld) (moves : List Move) (leads : Leads start moves end) (epoch : Epoch) → Begins start →
    OneAtATime start moves end leads → end.below.epoch ≡ Some epoch → KeepsOrder end.told.front
run-order start end moves leads epoch begins alone now =
    now-some Ordered end.below.epoch epoch end.told now
    (moves-order start moves end leads alone (begin-now Ordered new-order start begins))
