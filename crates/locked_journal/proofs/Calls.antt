-- What each call of a journal must preserve for holders, from its contract.
use Rattle.std.proofs.Common.{refl, sym, ◌∙◌, ap, subst, arith, ⊎_elim}
use Rattle.std.specs.Prelude.{◌≡◌, ◌≢◌, ℕ, ◌+◌, ◌<◌, ◌≤◌, true, List, [], ◌∷◌, ◌++◌, length, Some, None}
use Rattle.std.proofs.lemmas.Bool.{cases_eq}
use Rattle.std.proofs.lemmas.Bool.Decides.{leb_tells}
use Rattle.std.proofs.lemmas.Option.{none-some}
use Rattle.block_device.specs.State.{DeviceState}
use Rattle.journal_model.specs.declared.refusal.JournalError.{JournalError}
use Rattle.journal_model.specs.declared.transaction.Step.{Step}
use Rattle.journal_world.specs.Front.{Front, FrontHappens, aborting, finishing, locking, next_handle, raising, read_step, reserving, revoke_step, write_step}
use Rattle.journal_world.specs.Front.FrontEvent.{ExtendHandle, Join, RevokeBlock, StopHandle, WriteBlock}
use Rattle.journal_world.specs.Journal.{Event, Journal}
use Rattle.journal_world.specs.Journal.Event.{CommitFault, DirectSync, DirectWrite, FrontStep}
use Rattle.journal_front.specs.Front.{IsOpenHandle, Spends}
use Rattle.journal_front.specs.Values.{HandleValue}
use Rattle.journal_steps.specs.declared.turn.Turn.{Turn}
use Rattle.journal_steps.specs.declared.turn.Turn.TheVariants.{Idle as IdleTurn, Waiting, Step as StepTurn, Sealed, Committed}
use Rattle.journal_steps.specs.Direct.{DirectSyncRefused, DirectWriteRefused}
use Rattle.journal_steps.specs.Direct.DirectSyncRefused.{SyncAborted, SyncFailed}
use Rattle.journal_steps.specs.Direct.DirectWriteRefused.{WriteAborted, WriteOutside, WriteNotDirect, WriteFailed}
use Rattle.journal_steps.specs.Handles.{KeepsHandles}
use Rattle.journal_steps.specs.Journal.{Does, FailsAndNotifies, NewestRefused, RegistersRead, ReadRefused, NewestDid, Requests, TurnDid, TurnRefused}
use Rattle.journal_steps.specs.Journal.NewestRefused.{NewestAborted, NewestOutside, NewestRevoked, NewestFailed}
use Rattle.journal_steps.specs.Journal.ReadRefused.{ReadKeptOut, ReadRevoked, ReadUnnoted, ReadFailed}
use Rattle.journal_steps.specs.Journal.TurnRefused.{WasAborted, RingIsShort, MemoryIsShort, DeviceFailed}
use Rattle.journal_steps.specs.Values.{JournalValue}
use Rattle.group_commit.specs.Extension.{Extends, Starts}
use Rattle.locked_journal.specs.declared.own.OwnSteps.{OwnSteps}
use Rattle.locked_journal.specs.Knowing.{AllStillKnow, MayAdd, MayGo, actor}
use Rattle.locked_journal.specs.Own.{IsOwn, Stands, asked_own, credits_of, open_own, stopped_own}
use Rattle.locked_journal.proofs.Becoming.{extends, joins, may-go, may-look, reads, revokes, stops, writes}
use Rattle.locked_journal.proofs.Keeping.{others-know, same-beside, same-plain, seal-own}
use Rattle.locked_journal.proofs.Standing.{InRunning, running-now, still-own}

-- Nothing changes.
same-front : (f g : Front) → g ≡ f → AllStillKnow f g
same-front f g is x own = subst (λ (h : Front). IsOwn h x) (sym is) own

-- Nothing that holders know changes.
beside : (f g : Front) → g.sealed ≡ f.sealed → g.running ≡ f.running → g.open_handles ≡ f.open_handles → g.locked ≡ f.locked → AllStillKnow f g
beside f g sealed running open_handles locked x own = still-own f g x (same-plain f x.number g sealed running open_handles locked) own

-- The same, for a front that equals such a one.
made-beside : (f made g : Front) → g ≡ made → made.sealed ≡ f.sealed → made.running ≡ f.running → made.open_handles ≡ f.open_handles →
    made.locked ≡ f.locked → AllStillKnow f g
made-beside f made g is sealed running open_handles locked x own =
    subst (λ (h : Front). IsOwn h x) (sym is) (beside f made sealed running open_handles locked x own)

-- Holders know nothing of reserved credits.
reserved-back : (f : Front) (n : ℕ) (g : Front) (own next : OwnSteps) → MayGo (reserving f n) own g next → MayGo f own g next
reserved-back f n g own next may had is agreed =
    let got = may had is (λ h same. beside f (reserving f n) refl refl refl refl h (agreed h same)) in
    record {
      own = got.own;
      others = λ x far agrees. got.others x far (beside f (reserving f n) refl refl refl refl x agrees);
      others_apart = λ x h same far agrees. got.others_apart x h same far (beside f (reserving f n) refl refl refl refl x agrees);
    }

reserved-kept : (f : Front) (n : ℕ) → KeepsHandles f → KeepsHandles (reserving f n)
reserved-kept f n kept = record { each = kept.each; all = kept.all; joined = kept.joined; once = kept.once }

-- A transaction takes no further handles.
locks-all : (f : Front) → AllStillKnow f (locking f)
locks-all f x own = still-own f (locking f) x (same-beside f x.number (locking f) refl refl refl (λ is. refl)) own

-- A holder's look.
pub look : (f : Front) (own : OwnSteps) → MayGo f own f own
look f own = may-look f own

module _ {D : Type 0} (state : D → DeviceState) (old new : JournalValue D) where
  abbrev f : Front
  f = old.journal.front

  abbrev g : Front
  g = new.journal.front

  -- A step preserves the facts of every holder but its own.
  pub others : (event : Event) (x : OwnSteps) → KeepsHandles f → actor event ≢ Some x.number → Does state old event new → IsOwn f x → IsOwn g x
  others event x kept other did own = others-know old.journal new.journal (state old.device).disk (state new.device).disk event x kept other did own

  -- A step of no handle preserves every holder's.
  pub nobody : (event : Event) → KeepsHandles f → actor event ≡ None → Does state old event new → AllStillKnow f g
  nobody event kept none did x own = others event x kept (λ e. none-some x.number (sym none ∙ e)) did own

  -- A handle joins with credits granted before.
  pub try_join : (n : ℕ) → KeepsHandles f → Does state old (FrontStep (Join n)) new →
      MayAdd f g (open_own (record { number = next_handle f; tid = f.running.tid; left = n }) [])
  try_join n kept did = joins f g n kept did.front

  -- A handle joins with credits granted for it.
  pub join : (n : ℕ) → KeepsHandles f → Starts state n old new →
      MayAdd f g (open_own (record { number = next_handle f; tid = f.running.tid; left = n }) [])
  join n kept starts =
      let mid : starts.granted.journal.front ≡ reserving f n = starts.reserves.front.after in
      let may = joins (reserving f n) g n (reserved-kept f n kept) (subst (λ (h : Front). FrontHappens h (Join n) g) mid starts.joins.front) in
      record {
        own = may.own;
        others = λ x far agrees. may.others x far (beside f (reserving f n) refl refl refl refl x agrees);
        others_apart = λ x h same far agrees. may.others_apart x h same far (beside f (reserving f n) refl refl refl refl x agrees);
      }

  pub extend : (h : HandleValue) (n : ℕ) (steps : List Step) → KeepsHandles f → Extends state h.number n old new →
      MayGo f (open_own h steps) g (open_own (record h { left = h.left + n }) steps)
  extend h n steps kept extended =
      let mid : extended.granted.journal.front ≡ reserving f n = extended.reserves.front.after in
      reserved-back f n g (open_own h steps) (open_own (record h { left = h.left + n }) steps)
      (extends (reserving f n) g h n steps (reserved-kept f n kept) (subst (λ (k : Front). FrontHappens k (ExtendHandle h.number n) g) mid extended.extends.front))

  pub write : (h next : HandleValue) (b : ℕ) (v : List ℕ) (steps : List Step) → KeepsHandles f →
      Does state old (FrontStep (WriteBlock h.number b v)) new →
      Spends f b h next → MayGo f (open_own h steps) g (open_own next (steps ++ write_step h.number b v ∷ []))
  write h next b v steps kept did spends = writes f g h next b v steps kept did.front spends

  pub revoke : (h next : HandleValue) (b : ℕ) (steps : List Step) → KeepsHandles f → Does state old (FrontStep (RevokeBlock h.number b)) new →
      Spends f b h next → MayGo f (open_own h steps) g (open_own next (steps ++ revoke_step h.number b ∷ []))
  revoke h next b steps kept did spends = revokes f g h next b steps kept did.front spends

  pub read : (h : HandleValue) (b : ℕ) (v : List ℕ) (steps : List Step) → RegistersRead state old h b v new →
      MayGo f (open_own h steps) g (open_own h (steps ++ read_step h.number b v ∷ []))
  read h b v steps noted =
      subst (λ (k : Front). MayGo f (open_own h steps) k (open_own h (steps ++ read_step h.number b v ∷ []))) (sym noted.front) (reads f h b v steps)

  pub stop : (h : HandleValue) (steps : List Step) → KeepsHandles f →
      (IsOpenHandle f h → Does state old (FrontStep (StopHandle h.number)) new) →
      MayGo f (open_own h steps) g (stopped_own h.number h.tid steps)
  stop h steps kept stopped = stops f g h steps kept (λ is. (stopped is).front)

  -- A request by anyone.
  pub requested : (tid : ℕ) → Requests state tid old new → AllStillKnow f g
  requested tid asks =
      ⊎_elim
      (λ (same : tid ≡ f.running.tid).
      ⊎_elim
      (λ (none : _ × (length f.running.handles ≤ 0)). same-front f g (ap (λ (v : JournalValue D). v.journal.front) (asks.empty (omega (arith, none.1)))))
      (λ (some : _ × (0 < length f.running.handles)). λ x own.
      subst (λ (h : Front). IsOwn h x) (sym (asks.same same some.1).front.after) (locks-all f x own))
      (leb_tells (length f.running.handles) 0))
      (λ (other : tid ≢ f.running.tid). same-front f g (ap (λ (v : JournalValue D). v.journal.front) (asks.other other)))
      (cases_eq tid f.running.tid)

  -- A request by the ticket of a stopped handle.
  pub ask : (own : OwnSteps) → credits_of own.stage ≡ None → Requests state own.tid old new →
      MayGo f own g (asked_own own.number own.tid own.steps)
  ask own stopped asks = may-go f g own (asked_own own.number own.tid own.steps) refl by (λ was x far. requested own.tid asks x)
    where
      next : OwnSteps
      next = asked_own own.number own.tid own.steps

      -- Where the handle is recorded does not depend on its stage.
      stands-next : (h : Front) → Stands h own → Stands h next
      stands-next h stands = record {
        before = stands.before;
        transaction = stands.transaction;
        behind = stands.behind;
        among = stands.among;
        number = stands.number;
        place = stands.place;
        joined = stands.joined;
        steps = stands.steps;
      }

      asked : (h : Front) → IsOwn h own → (own.tid ≡ h.running.tid → h.locked ≡ true) → IsOwn h next
      asked h was locked = record { stands = stands-next h was.stands; credits = was.credits ∙ stopped; stage = locked }

      by : IsOwn f own → IsOwn g next
      by was =
          ⊎_elim
          (λ (same : own.tid ≡ f.running.tid).
          let here : InRunning f own = running-now f own same was.stands in
          let some : 0 < length f.running.handles = omega (arith, here.joined.1) in
          subst (λ (h : Front). IsOwn h next) (sym (asks.same same some).front.after) (asked (locking f) (locks-all f own was) (λ now. refl)))
          (λ (other : own.tid ≢ f.running.tid).
          subst (λ (h : Front). IsOwn h next) (sym (ap (λ (v : JournalValue D). v.journal.front) (asks.other other))) (asked f was (λ now. absurd (other now))))
          (cases_eq own.tid f.running.tid)

  -- The front learns of a failure.
  told : (fault : Event) → FailsAndNotifies state fault old new → (mid : Front) → mid ≡ f → g ≡ aborting mid → AllStillKnow f g
  told fault fails mid is notifies = made-beside f (aborting f) g (notifies ∙ ap aborting is) refl refl refl refl

  pub turn : (t : Turn) → TurnDid state t old new → AllStillKnow f g
  turn IdleTurn did = same-front f g (ap (λ (v : JournalValue D). v.journal.front) did.1)
  turn Waiting did = same-front f g (ap (λ (v : JournalValue D). v.journal.front) did.1)
  turn StepTurn did = same-front f g did.commits.front
  turn (Sealed tid) did = λ x own. subst (λ (h : Front). IsOwn h x) (sym did.0.front) (seal-own f x did.0.may own)
  turn (Committed tid) did =
      let done : did.done.front ≡ finishing f = did.finishes.front ∙ ap finishing did.commits.front in
      made-beside f (raising (finishing f) tid) g (did.raises.front.after ∙ ap (λ (h : Front). raising h tid) done) refl refl refl refl

  pub refused_turn : (e : JournalError) → TurnRefused state old new e → AllStillKnow f g
  refused_turn e (WasAborted was same) = same-front f g (ap (λ (v : JournalValue D). v.journal.front) same)
  refused_turn e (RingIsShort due short same) = same-front f g (ap (λ (v : JournalValue D). v.journal.front) same)
  refused_turn e (MemoryIsShort due room same) = same-front f g (ap (λ (v : JournalValue D). v.journal.front) same)
  refused_turn e (DeviceFailed fails faults) = told CommitFault fails fails.mid.front fails.fails.front fails.notifies.front

  pub refused_read : (h : HandleValue) (b : ℕ) (e : JournalError) → ReadRefused state old h b new e → AllStillKnow f g
  refused_read h b e (ReadKeptOut out same) = same-front f g (ap (λ (v : JournalValue D). v.journal.front) same)
  refused_read h b e (ReadRevoked may last same is) = same-front f g (ap (λ (v : JournalValue D). v.journal.front) same)
  refused_read h b e (ReadUnnoted may last same faults is) = same-front f g (ap (λ (j : Journal). j.front) same)
  refused_read h b e (ReadFailed may last none fails faults is) = made-beside f (aborting f) g fails.front refl refl refl refl

  -- A read without a handle is nobody's step.
  pub read_newest : (honest : D → Type 0) (b : ℕ) (v : List ℕ) → NewestDid state honest old b v new → AllStillKnow f g
  read_newest honest b v read = same-front f g (ap (λ (j : Journal). j.front) read.same)

  pub refused_read_newest : (b : ℕ) (e : JournalError) → NewestRefused state old b new e → AllStillKnow f g
  refused_read_newest b e (NewestAborted was same is) = same-front f g (ap (λ (x : JournalValue D). x.journal.front) same)
  refused_read_newest b e (NewestOutside runs out same is) = same-front f g (ap (λ (x : JournalValue D). x.journal.front) same)
  refused_read_newest b e (NewestRevoked runs may last same is) = same-front f g (ap (λ (x : JournalValue D). x.journal.front) same)
  refused_read_newest b e (NewestFailed runs may none unkept fails faults is) = made-beside f (aborting f) g fails.front refl refl refl refl

  pub direct_write : (b : ℕ) (v : List ℕ) → Does state old (DirectWrite b v) new → AllStillKnow f g
  direct_write b v did = same-front f g did.front

  pub refused_direct_write : (b : ℕ) (v : List ℕ) (e : JournalError) → DirectWriteRefused state old b v new e → AllStillKnow f g
  refused_direct_write b v e (WriteAborted was same) = same-front f g (ap (λ (x : JournalValue D). x.journal.front) same)
  refused_direct_write b v e (WriteOutside runs out same) = same-front f g (ap (λ (x : JournalValue D). x.journal.front) same)
  refused_direct_write b v e (WriteNotDirect runs may not same) = same-front f g (ap (λ (x : JournalValue D). x.journal.front) same)
  refused_direct_write b v e (WriteFailed fails faults) = made-beside f (aborting f) g fails.front refl refl refl refl

  pub direct_sync : Does state old DirectSync new → AllStillKnow f g
  direct_sync did = same-front f g did.front

  pub refused_direct_sync : (e : JournalError) → DirectSyncRefused state old new e → AllStillKnow f g
  refused_direct_sync e (SyncAborted was same) = same-front f g (ap (λ (x : JournalValue D). x.journal.front) same)
  refused_direct_sync e (SyncFailed fails faults) = made-beside f (aborting f) g fails.front refl refl refl refl
