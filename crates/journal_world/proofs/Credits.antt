-- The credits held, and the credit word, after each event of a front and of a journal.
use Rattle.std.proofs.Common.{refl, sym, ap, subst, ◌∙◌, arith, inl, inr}
use Rattle.std.specs.Prelude.{◌≡◌, ℕ, ◌+◌, ◌-◌, ◌<◌, ◌≤◌, if◌then◌else◌, List, [], ◌∷◌, ◌++◌, length, map, sum, is_some, Option, Some, None}
use Rattle.std.proofs.lemmas.List.{length-map, length_push}
use Rattle.std.proofs.lemmas.List.Sums.{sum-map, sum_by_push}
use Rattle.journal_model.specs.Credits.{credit_word as word_of, credits_held}
use Rattle.journal_model.specs.Disk.{Disk}
use Rattle.journal_model.proofs.Effects.{entries-push_known, entries-push_new, entries-push_read}
use Rattle.journal_model.proofs.ListElements.{option-known}
use Rattle.journal_model.specs.declared.entry.Entry.{Entry}
use Rattle.journal_model.specs.declared.entry.Entry.TheVariants.{Copy, Revoke}
use Rattle.journal_model.specs.declared.transaction.Op.{Op}
use Rattle.journal_model.specs.declared.transaction.Op.TheVariants.{Write, Revoke as RevokeOp}
use Rattle.journal_model.specs.declared.transaction.Step.{Step}
use Rattle.journal_model.specs.Transaction.{effect, entries, entry_of}
use Rattle.journal_world.specs.Credits.{HeldAfter, HeldAfterEvent, IsAtHand, NeedsFront, RefusedAfter, accounts_of, beside, beside_all}
use Rattle.journal_world.specs.Front.{ExtendsHandle, Front, FrontEvent, FrontHappens, GivesBack, IsFirstTouch, IsOpen, Joins, Reserves, RevokesBlock, StopsHandle, WritesBlock, credit_word, extending, giving_back, held, joining, left_after, left_in, read_step, reading_block, reserving, sealing, stopping, touching}
use Rattle.journal_world.specs.Journal.{Event, Happens, Journal}
use Rattle.journal_world.specs.Journal.Event.{FrontStep, Seal, CommitStep, CommitFault, CheckpointStep, CheckpointFault, ReadBlock, ReadFault, DirectWrite, DirectWriteFault, DirectSync, DirectSyncFault, Finish, AbortMark}
use Rattle.journal_world.specs.Front.FrontEvent.{Reserve, RefuseReserve, TakeBack, GiveBack, LoadCredits, LoadMark, Join, ExtendHandle, WriteBlock, RevokeBlock, StopHandle, Lock, Raise}
use Rattle.journal_world.proofs.OpenHandles.{left-among, left-without}

-- a touch takes a credit for the entry that it adds, or none
touched-credits : (f : Front) (left : ℕ) (s : Step) (e : Entry) → entry_of s.op ≡ Some e → (effect s.block f.running.steps ≡ None → 0 < left) →
    left_after f s.block left + length (entries (f.running.steps ++ s ∷ [])) ≡ left + length (entries f.running.steps)
touched-credits f left s e leaves credit =
    let ss : List Step = f.running.steps in
    elim (option-known (effect s.block ss)) [
      | inl none ↦
          let more : length (entries (ss ++ s ∷ [])) ≡ length (entries ss) + 1 =
          ap (λ (es : List (ℕ × Entry)). length es) (entries-push_new ss s e leaves none) ∙ length_push (entries ss) (s.block, e) in
          let some : 0 < left = credit none in
          let spent : left_after f s.block left ≡ left - 1 = ap (λ (o : Option Entry). if is_some o then left else left - 1) none in
          omega arith
      | inr (old, known) ↦
          let same : length (entries (ss ++ s ∷ [])) ≡ length (entries ss) =
          ap (λ (es : List (ℕ × Entry)). length es) (entries-push_known ss s e old leaves known) ∙ length-map (entries ss) _ in
          let kept : left_after f s.block left ≡ left = ap (λ (o : Option Entry). if is_some o then left else left - 1) known in
          omega arith
    ]

-- a granted reserve adds its credits
reserved-credits : (old new : Front) (n : ℕ) → Reserves old n new → held new ≡ held old + n
reserved-credits old new n step =
    let same : held new ≡ held (reserving old n) = ap (λ (f : Front). held f) step.after in omega arith

-- credits given back are no longer held
given-credits : (old new : Front) (n : ℕ) → GivesBack old n new → held new + n ≡ held old
given-credits old new n step =
    let same : held new ≡ held (giving_back old n) = ap (λ (f : Front). held f) step.after in
    let granted : n ≤ old.reserved = step.granted in
    omega arith

-- a join keeps the credits held
joined-credits : (old new : Front) (n : ℕ) → Joins old n new → held new ≡ held old
joined-credits old new n step =
    let same : held new ≡ held (joining old n) = ap (λ (f : Front). held f) step.after in
    let more : left_in (old.open_handles ++ (old.given + 1, n) ∷ []) ≡ left_in old.open_handles + n = sum_by_push (λ h. h.1) old.open_handles (old.given + 1, n) in
    let granted : n ≤ old.reserved = step.credits in
    omega arith

-- more credits of a handle keep the credits held
extended-credits : (old new : Front) (h n : ℕ) → ExtendsHandle old h n new → held new ≡ held old
extended-credits old new h n step =
    let handle : IsOpen old h = step.handle in
    let same : held new ≡ held (extending old h n handle) = ap (λ (f : Front). held f) step.after in
    let was : left_in old.open_handles ≡ left_in handle.before + handle.left + left_in handle.behind =
    ap (λ (hs : List (ℕ × ℕ)). left_in hs) handle.stands ∙ left-among handle.before h handle.left handle.behind in
    let now = left-among handle.before h (handle.left + n) handle.behind in
    let granted : n ≤ old.reserved = step.credits in
    omega arith

-- a touch keeps the credits held
touch-credits : (old new : Front) (h b : ℕ) (op : Op) (e : Entry) (handle : IsOpen old h) → entry_of op ≡ Some e → (IsFirstTouch old b → 0 < handle.left) →
    new ≡ touching old h b op handle → held new ≡ held old
touch-credits old new h b op e handle leaves credit after =
    let same : held new ≡ held (touching old h b op handle) = ap (λ (f : Front). held f) after in
    let was : left_in old.open_handles ≡ left_in handle.before + handle.left + left_in handle.behind =
    ap (λ (hs : List (ℕ × ℕ)). left_in hs) handle.stands ∙ left-among handle.before h handle.left handle.behind in
    let now = left-among handle.before h (left_after old b handle.left) handle.behind in
    let taken = touched-credits old handle.left (record { handle = h; block = b; op = op }) e leaves credit in
    omega arith

-- a write keeps the credits held
write-credits : (old new : Front) (h b : ℕ) (v : List ℕ) → WritesBlock old h b v new → held new ≡ held old
write-credits old new h b v step = touch-credits old new h b (Write v) (Copy v) step.handle refl step.credit step.after

-- a revoke keeps the credits held
revoke-credits : (old new : Front) (h b : ℕ) → RevokesBlock old h b new → held new ≡ held old
revoke-credits old new h b step = touch-credits old new h b RevokeOp Revoke step.handle refl step.credit step.after

-- a stopped handle's credits are no longer held
pub stopped-credits : (old new : Front) (h : ℕ) (step : StopsHandle old h new) → held new + step.handle.left ≡ held old
stopped-credits old new h step =
    let handle : IsOpen old h = step.handle in
    let same : held new ≡ held (stopping old h handle) = ap (λ (f : Front). held f) step.after in
    let was : left_in old.open_handles ≡ left_in handle.before + handle.left + left_in handle.behind =
    ap (λ (hs : List (ℕ × ℕ)). left_in hs) handle.stands ∙ left-among handle.before h handle.left handle.behind in
    let now = left-without handle.before handle.behind in
    omega arith

-- the credits held after each event of a front
pub event-held : (old new : Front) (event : FrontEvent) → FrontHappens old event new → HeldAfter old event (held new)
event-held old new (Reserve n) step = reserved-credits old new n step
event-held old new (RefuseReserve n) step = ap (λ (f : Front). held f) step.after
event-held old new (TakeBack n) step = ap (λ (f : Front). held f) step.after
event-held old new (GiveBack n) step = given-credits old new n step
event-held old new (LoadCredits found) step = ap (λ (f : Front). held f) step.after
event-held old new (LoadMark found) step = ap (λ (f : Front). held f) step.after
event-held old new (Join n) step = joined-credits old new n step
event-held old new (ExtendHandle h n) step = extended-credits old new h n step
event-held old new (WriteBlock h b v) step = write-credits old new h b v step
event-held old new (RevokeBlock h b) step = revoke-credits old new h b step
event-held old new (StopHandle h) step = (step.handle, stopped-credits old new h step)
event-held old new Lock step = ap (λ (f : Front). held f) step.after
event-held old new (Raise t) step = ap (λ (f : Front). held f) step.after

-- the credits of refused reserves after each event
pub event-refused : (old new : Front) (event : FrontEvent) → FrontHappens old event new → RefusedAfter old event new.refused
event-refused old new (Reserve n) step = ap (λ (f : Front). f.refused) step.after
event-refused old new (RefuseReserve n) step = ap (λ (f : Front). f.refused) step.after
event-refused old new (TakeBack n) step =
    let same : new.refused ≡ old.refused - n = ap (λ (f : Front). f.refused) step.after in
    let some : n ≤ old.refused = step.refused in
    omega arith
event-refused old new (GiveBack n) step = ap (λ (f : Front). f.refused) step.after
event-refused old new (LoadCredits found) step = ap (λ (f : Front). f.refused) step.after
event-refused old new (LoadMark found) step = ap (λ (f : Front). f.refused) step.after
event-refused old new (Join n) step = ap (λ (f : Front). f.refused) step.after
event-refused old new (ExtendHandle h n) step = ap (λ (f : Front). f.refused) step.after
event-refused old new (WriteBlock h b v) step = ap (λ (f : Front). f.refused) step.after
event-refused old new (RevokeBlock h b) step = ap (λ (f : Front). f.refused) step.after
event-refused old new (StopHandle h) step = ap (λ (f : Front). f.refused) step.after
event-refused old new Lock step = ap (λ (f : Front). f.refused) step.after
event-refused old new (Raise t) step = ap (λ (f : Front). f.refused) step.after

-- no event exceeds the capacity
pub held-within : (old new : Front) (event : FrontEvent) → FrontHappens old event new → held old ≤ old.capacity → held new ≤ new.capacity
held-within old new (Reserve n) step within =
    let free : n ≤ old.capacity - (held old + old.refused) = step.free in
    let after = reserved-credits old new n step in
    let same : new.capacity ≡ old.capacity = ap (λ (f : Front). f.capacity) step.after in
    omega arith
held-within old new (RefuseReserve n) step within = subst (λ (f : Front). held f ≤ f.capacity) (sym step.after) within
held-within old new (TakeBack n) step within = subst (λ (f : Front). held f ≤ f.capacity) (sym step.after) within
held-within old new (LoadCredits found) step within = subst (λ (f : Front). held f ≤ f.capacity) (sym step.after) within
held-within old new (LoadMark found) step within = subst (λ (f : Front). held f ≤ f.capacity) (sym step.after) within
held-within old new (ExtendHandle h n) step within =
    let after = extended-credits old new h n step in
    let same : new.capacity ≡ old.capacity = ap (λ (f : Front). f.capacity) step.after in
    omega arith
held-within old new (GiveBack n) step within =
    let after = given-credits old new n step in
    let same : new.capacity ≡ old.capacity = ap (λ (f : Front). f.capacity) step.after in
    omega arith
held-within old new (Join n) step within =
    let after = joined-credits old new n step in
    let same : new.capacity ≡ old.capacity = ap (λ (f : Front). f.capacity) step.after in
    omega arith
held-within old new (WriteBlock h b v) step within =
    let after = write-credits old new h b v step in
    let same : new.capacity ≡ old.capacity = ap (λ (f : Front). f.capacity) step.after in
    omega arith
held-within old new (RevokeBlock h b) step within =
    let after = revoke-credits old new h b step in
    let same : new.capacity ≡ old.capacity = ap (λ (f : Front). f.capacity) step.after in
    omega arith
held-within old new (StopHandle h) step within =
    let after = stopped-credits old new h step in
    let same : new.capacity ≡ old.capacity = ap (λ (f : Front). f.capacity) step.after in
    omega arith
held-within old new Lock step within = subst (λ (f : Front). held f ≤ f.capacity) (sym step.after) within
held-within old new (Raise t) step within = subst (λ (f : Front). held f ≤ f.capacity) (sym step.after) within

-- an open handle is open beside further credits
abbrev beside-open : (f : Front) (reserved refused h : ℕ) → IsOpen f h → IsOpen (beside reserved refused f) h
beside-open f reserved refused h handle = record { left = handle.left; before = handle.before; behind = handle.behind; stands = handle.stands }

-- a handle joins beside further credits
join-beside : (old new : Front) (reserved refused n : ℕ) → Joins old n new → Joins (beside reserved refused old) n (beside reserved refused new)
join-beside old new reserved refused n step =
    let granted : n ≤ old.reserved = step.credits in
    let same : old.reserved - n + reserved ≡ old.reserved + reserved - n = omega arith in
    record {
      running = step.running;
      may = record { unlocked = step.may.unlocked; number = step.may.number; handle = step.may.handle };
      credits = omega arith;
      after =
          ap (λ (f : Front). beside reserved refused f) step.after
          ∙ ap (λ (r : ℕ). record (joining old n) { reserved = r; refused = old.refused + refused }) same;
    }

-- a handle gets more credits beside further ones
extend-beside : (old new : Front) (reserved refused h n : ℕ) → ExtendsHandle old h n new →
    ExtendsHandle (beside reserved refused old) h n (beside reserved refused new)
extend-beside old new reserved refused h n step =
    let granted : n ≤ old.reserved = step.credits in
    let same : old.reserved - n + reserved ≡ old.reserved + reserved - n = omega arith in
    record {
      running = step.running;
      unlocked = step.unlocked;
      handle = beside-open old reserved refused h step.handle;
      credits = omega arith;
      after =
          ap (λ (f : Front). beside reserved refused f) step.after
          ∙ ap (λ (r : ℕ). record (extending old h n step.handle) { reserved = r; refused = old.refused + refused }) same;
    }

-- a step with the front at hand does not depend on other callers' credits
pub event-beside : (old new : Front) (event : FrontEvent) (reserved refused : ℕ) → IsAtHand event → FrontHappens old event new →
    FrontHappens (beside reserved refused old) event (beside reserved refused new)
event-beside old new (Reserve n) reserved refused hand step = absurd hand
event-beside old new (RefuseReserve n) reserved refused hand step = absurd hand
event-beside old new (TakeBack n) reserved refused hand step = absurd hand
event-beside old new (GiveBack n) reserved refused hand step = absurd hand
event-beside old new (LoadCredits found) reserved refused hand step = absurd hand
event-beside old new (LoadMark found) reserved refused hand step = absurd hand
event-beside old new (Join n) reserved refused hand step = join-beside old new reserved refused n step
event-beside old new (ExtendHandle h n) reserved refused hand step = extend-beside old new reserved refused h n step
event-beside old new (WriteBlock h b v) reserved refused hand step = record {
  running = step.running;
  handle = beside-open old reserved refused h step.handle;
  credit = step.credit;
  allowed = step.allowed;
  whole = step.whole;
  after = ap (λ (f : Front). beside reserved refused f) step.after;
}
event-beside old new (RevokeBlock h b) reserved refused hand step = record {
  running = step.running;
  handle = beside-open old reserved refused h step.handle;
  credit = step.credit;
  allowed = step.allowed;
  after = ap (λ (f : Front). beside reserved refused f) step.after;
}
event-beside old new (StopHandle h) reserved refused hand step = record {
  handle = beside-open old reserved refused h step.handle;
  after = ap (λ (f : Front). beside reserved refused f) step.after;
}
event-beside old new Lock reserved refused hand step = record {
  running = step.running;
  joined = step.joined;
  after = ap (λ (f : Front). beside reserved refused f) step.after;
}
event-beside old new (Raise t) reserved refused hand step = record {
  finished = step.finished;
  after = ap (λ (f : Front). beside reserved refused f) step.after;
}

-- the credits held after each event of a journal
pub journal-held : (old new : Journal) (disk after : Disk) (event : Event) → Happens old disk event new after → HeldAfterEvent old.front event (held new.front)
journal-held old new disk after (FrontStep event) step = event-held old.front new.front event step.front
journal-held old new disk after Seal step =
    let same : held new.front ≡ held (sealing old.front) = ap (λ (f : Front). held f) step.front in omega arith
journal-held old new disk after CommitStep step = ap (λ (f : Front). held f) step.front
journal-held old new disk after CommitFault step = ap (λ (f : Front). held f) step.front
journal-held old new disk after CheckpointStep step = ap (λ (f : Front). held f) step.front
journal-held old new disk after CheckpointFault step = ap (λ (f : Front). held f) step.front
journal-held old new disk after (ReadBlock h b v) step =
    let same : held new.front ≡ held (reading_block old.front h b v) = ap (λ (f : Front). held f) step.front in
    let entries_are : length (entries (old.front.running.steps ++ read_step h b v ∷ [])) ≡ length (entries old.front.running.steps) =
    ap (λ (es : List (ℕ × Entry)). length es) (entries-push_read old.front.running.steps (read_step h b v) refl) in
    omega arith
journal-held old new disk after ReadFault step = ap (λ (f : Front). held f) step.front
journal-held old new disk after (DirectWrite b v) step = ap (λ (f : Front). held f) step.front
journal-held old new disk after (DirectWriteFault b v) step = ap (λ (f : Front). held f) step.front
journal-held old new disk after DirectSync step = ap (λ (f : Front). held f) step.front
journal-held old new disk after DirectSyncFault step = ap (λ (f : Front). held f) step.front
journal-held old new disk after Finish step = ap (λ (f : Front). held f) step.front
journal-held old new disk after AbortMark step = ap (λ (f : Front). held f) step.front

-- a step of front and engine does not depend on other callers' credits
pub journal-beside : (old new : Journal) (disk after : Disk) (event : Event) (reserved refused : ℕ) → NeedsFront event → Happens old disk event new after →
    Happens (beside_all reserved refused old) disk event (beside_all reserved refused new) after
journal-beside old new disk after (FrontStep event) reserved refused needs step = record {
  front = event-beside old.front new.front event reserved refused needs step.front;
  engine = step.engine;
  disk_is = step.disk_is;
}
journal-beside old new disk after Seal reserved refused needs step = record {
  may = record { locked = step.may.locked; stopped = step.may.stopped; finished = step.may.finished };
  front = ap (λ (f : Front). beside reserved refused f) step.front;
  engine = step.engine;
  disk_is = step.disk_is;
}
journal-beside old new disk after CommitStep reserved refused needs step =
    record { front = ap (λ (f : Front). beside reserved refused f) step.front; engine = step.engine }
journal-beside old new disk after CommitFault reserved refused needs step =
    record { front = ap (λ (f : Front). beside reserved refused f) step.front; engine = step.engine }
journal-beside old new disk after CheckpointStep reserved refused needs step =
    record { front = ap (λ (f : Front). beside reserved refused f) step.front; engine = step.engine }
journal-beside old new disk after CheckpointFault reserved refused needs step =
    record { front = ap (λ (f : Front). beside reserved refused f) step.front; engine = step.engine }
journal-beside old new disk after (ReadBlock h b v) reserved refused needs step = record {
  running = step.running;
  handle = beside-open old.front reserved refused h step.handle;
  allowed = step.allowed;
  sees = step.sees;
  front = ap (λ (f : Front). beside reserved refused f) step.front;
  engine = step.engine;
  disk_is = step.disk_is;
}
journal-beside old new disk after ReadFault reserved refused needs step = record {
  running = step.running;
  front = ap (λ (f : Front). beside reserved refused f) step.front;
  engine = step.engine;
  disk_is = step.disk_is;
}
journal-beside old new disk after (DirectWrite b v) reserved refused needs step =
    record { untouched = step.untouched; front = ap (λ (f : Front). beside reserved refused f) step.front; engine = step.engine }
journal-beside old new disk after (DirectWriteFault b v) reserved refused needs step =
    record { untouched = step.untouched; front = ap (λ (f : Front). beside reserved refused f) step.front; engine = step.engine }
journal-beside old new disk after DirectSync reserved refused needs step =
    record { front = ap (λ (f : Front). beside reserved refused f) step.front; engine = step.engine }
journal-beside old new disk after DirectSyncFault reserved refused needs step =
    record { front = ap (λ (f : Front). beside reserved refused f) step.front; engine = step.engine }
journal-beside old new disk after Finish reserved refused needs step = record {
  committed = step.committed;
  front = ap (λ (f : Front). beside reserved refused f) step.front;
  engine = step.engine;
  disk_is = step.disk_is;
}
journal-beside old new disk after AbortMark reserved refused needs step = record {
  failed = step.failed;
  front = ap (λ (f : Front). beside reserved refused f) step.front;
  engine = step.engine;
  disk_is = step.disk_is;
}

-- the credits of a front are those of the accounts
pub front-accounts : (f : Front) (values refused : List ℕ) → sum values ≡ f.reserved → sum refused ≡ f.refused →
    (held f ≡ credits_held (accounts_of f values refused)) × (credit_word f ≡ word_of (accounts_of f values refused))
front-accounts f values refused reserved owed =
    let handles : sum (map (λ h. h.1) f.open_handles) ≡ left_in f.open_handles = sum-map (λ (h : ℕ × ℕ). h.1) f.open_handles in
    (omega arith, omega arith)
