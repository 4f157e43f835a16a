-- What holders know and what is counted after front and engine are reconciled and made a step.
use Rattle.std.proofs.Common.{refl, sym, ap, subst, ◌∙◌, arith}
use Rattle.std.specs.Prelude.{◌≡◌, ℕ, ◌+◌, ◌≤◌, max, Bool, true, false, List, Option, Some, None, Result, Ok, Err, IfErr, IfOk}
use Rattle.std.proofs.Math.Nat.{le-max_left, max-eq_right}
use Rattle.block_device.specs.State.{DeviceState}
use Rattle.journal_model.specs.Disk.{Disk, Shape}
use Rattle.journal_model.specs.declared.refusal.JournalError.{JournalError}
use Rattle.journal_world.specs.Front.{Front, aborting, finishing, held, raising, sealing}
use Rattle.journal_world.specs.Journal.{Journal}
use Rattle.log_engine.specs.Engine.{EngineValue}
use Rattle.journal_front.specs.Values.{HandleValue}
use Rattle.journal_steps.specs.declared.turn.Turn.{Turn}
use Rattle.journal_steps.specs.declared.turn.Turn.TheVariants.{Idle as IdleTurn, Waiting, Step, Sealed, Committed}
use Rattle.journal_steps.specs.Journal.{SealDid, TurnDid, TurnRefused}
use Rattle.journal_steps.specs.Journal.TurnRefused.{DeviceFailed, MemoryIsShort, RingIsShort, WasAborted}
use Rattle.journal_steps.specs.Values.{JournalValue}
use Rattle.journal_steps.specs.Verbs.{LeftByRead, Reads, ReadsNewest, SyncsDirectly, WritesDirectly}
use Rattle.locked_journal.specs.Sides.{Finishes, HeldReadDid, Reconciles, ReconcilesAnd, Notifies, engine_of}
use Rattle.locked_journal.specs.Sides.Finishes.{NoneFinished, OneFinished}
use Rattle.locked_journal.specs.Sides.Notifies.{NotNotified, Notified}
use Rattle.locked_journal.specs.declared.own.HandleStage.{HandleStage}
use Rattle.locked_journal.specs.declared.own.HandleStage.TheVariants.{Open, Stopped, Asked}
use Rattle.locked_journal.specs.declared.own.OwnSteps.{OwnSteps}
use Rattle.locked_journal.specs.Knowing.{AllStillKnow, MayGo}
use Rattle.locked_journal.specs.Own.{IsOwn, StageHolds}
use Rattle.locked_journal.proofs.Calls as calls
use Rattle.locked_journal.proofs.Knowing.{all-read_newest, all-sync_direct, all-write_direct}
use Rattle.locked_journal.specs.Locked.{IsHeld}
use Rattle.locked_journal.proofs.Counting as counting

-- The fronts differ only in how far each is finished, in the mark, which has not fallen, and in knowing of a failure.
pub record Learns (f g : Front) : Type 0 where
  pub finished : ℕ
  pub mark : ℕ
  pub aborted : Bool
  pub is : g ≡ record f { finished = finished; mark = mark; aborted = aborted }
  pub rises : f.mark ≤ mark

learns-none : (f g : Front) → g ≡ f → Learns f g
learns-none f g same = record { finished = f.finished; mark = f.mark; aborted = f.aborted; is = same; rises = omega arith }

learns-notifies : (old : Journal) (disk : Disk) (new : Journal) → Notifies old disk new → Learns old.front new.front
learns-notifies old disk new (NotNotified same) = learns-none old.front new.front (ap (λ (j : Journal). j.front) same)
learns-notifies old disk new (Notified notified) =
    record { finished = old.front.finished; mark = old.front.mark; aborted = true; is = notified.front; rises = omega arith }

learns-finishes : (old : Journal) (disk : Disk) (new : Journal) → Finishes old disk new → Learns old.front new.front
learns-finishes old disk new (NoneFinished same) = learns-none old.front new.front (ap (λ (j : Journal). j.front) same)
learns-finishes old disk new (OneFinished done finishes raises) = record {
  finished = old.front.finished + 1;
  mark = max old.front.mark done.front.finished;
  aborted = old.front.aborted;
  is = raises.front.after ∙ ap (λ (f : Front). raising f done.front.finished) finishes.front;
  rises = le-max_left old.front.mark done.front.finished;
}

learns-on : (f g h : Front) → Learns f g → Learns g h → Learns f h
learns-on f g h one other =
    let mark : g.mark ≡ one.mark = ap (λ (x : Front). x.mark) one.is in
    let low = one.rises in
    let high = other.rises in
    record {
      finished = other.finished;
      mark = other.mark;
      aborted = other.aborted;
      is = other.is ∙ ap (λ (x : Front). record x { finished = other.finished; mark = other.mark; aborted = other.aborted }) one.is;
      rises = omega arith;
    }

-- A holder's facts of one front hold of the other.
stage-same : (f : Front) (n m : ℕ) (b : Bool) (tid : ℕ) (stage : HandleStage) → StageHolds f tid stage →
    StageHolds (record f { finished = n; mark = m; aborted = b }) tid stage
stage-same f n m b tid (Open left) holds = holds
stage-same f n m b tid Stopped holds = holds
stage-same f n m b tid Asked holds = holds

own-same : (f : Front) (n m : ℕ) (b : Bool) (x : OwnSteps) → IsOwn f x → IsOwn (record f { finished = n; mark = m; aborted = b }) x
own-same f n m b x own = record {
  stands = record {
    before = own.stands.before;
    transaction = own.stands.transaction;
    behind = own.stands.behind;
    among = own.stands.among;
    number = own.stands.number;
    place = own.stands.place;
    joined = own.stands.joined;
    steps = own.stands.steps;
  };
  credits = own.credits;
  stage = stage-same f n m b x.tid x.stage own.stage;
}

pub learns-know : (f g : Front) → Learns f g → AllStillKnow f g
learns-know f g l x own = subst (λ (h : Front). IsOwn h x) (sym l.is) (own-same f l.finished l.mark l.aborted x own)

-- A holder's step after a reconciliation is one of both.
pub learns-go : (f mid g : Front) (own next : OwnSteps) → Learns f mid → MayGo mid own g next → MayGo f own g next
learns-go f mid g own next l may had is agreed =
    let got = may had is (λ h same. learns-know f mid l h (agreed h same)) in
    record {
      own = got.own;
      others = λ x far agrees. got.others x far (learns-know f mid l x agrees);
      others_apart = λ x h same far agrees. got.others_apart x h same far (learns-know f mid l x agrees);
    }

module _ {D : Type 0} (state : D → DeviceState) (old : JournalValue D) (engine : EngineValue D) where
  pub reconciled-learns : (mid : JournalValue D) → Reconciles state old engine mid → Learns old.journal.front mid.journal.front
  reconciled-learns mid reconciles =
      let j : Journal = record { front = old.journal.front; engine = engine.engine } in
      let disk = (state engine.device).disk in
      learns-on old.journal.front reconciles.caught.notified.front mid.journal.front (learns-notifies j disk reconciles.caught.notified reconciles.caught.notifies)
      (learns-finishes reconciles.caught.notified disk mid.journal reconciles.caught.finishes)

  -- A step after a reconciliation preserves every holder's facts.
  pub both-know : (new : JournalValue D) (P : JournalValue D → Type 0) → ReconcilesAnd state old engine P →
      ((mid : JournalValue D) → P mid → AllStillKnow mid.journal.front new.journal.front) → AllStillKnow old.journal.front new.journal.front
  both-know new P m step x own =
      step m.mid m.did x (learns-know old.journal.front m.mid.journal.front (reconciled-learns m.mid m.reconciles) x own)

  module _ (most : ℕ) (measures : Shape) (count raised : ℕ) (is : IsHeld state most measures count raised old) where
    -- The counts after a reconciliation.
    pub reconciled-held : (mid : JournalValue D) → Reconciles state old engine mid → IsHeld state most measures count mid.journal.front.mark mid
    reconciled-held mid reconciles =
        let l = reconciled-learns mid reconciles in
        record {
          credits = is.credits ∙ sym (ap (λ (f : Front). held f) l.is);
          reserved = ap (λ (f : Front). f.reserved) l.is ∙ is.reserved;
          mark = refl;
          capacity = ap (λ (f : Front). f.capacity) l.is ∙ is.capacity;
          shape_is = reconciles.measures ∙ is.shape_is;
        }

    -- The mark is no lower.
    reconciled-rises : (mid : JournalValue D) → Reconciles state old engine mid → raised ≤ mid.journal.front.mark
    reconciled-rises mid reconciles =
        let l = reconciled-learns mid reconciles in
        let was = is.mark in
        let now : mid.journal.front.mark ≡ l.mark = ap (λ (f : Front). f.mark) l.is in
        let low = l.rises in
        omega arith

    -- A reconciliation preserves the invariant once the mark is raised to the front's.
    pub reconciler-held : (new : JournalValue D) (after : ℕ) → after ≡ max raised new.journal.front.mark → Reconciles state old engine new →
        IsHeld state most measures count after new
    reconciler-held new after raise reconciles =
        let there = reconciled-held new reconciles in
        record {
          credits = there.credits;
          reserved = there.reserved;
          mark = raise ∙ max-eq_right (reconciled-rises new reconciles);
          capacity = there.capacity;
          shape_is = there.shape_is;
        }

    -- So does a following step that changes nothing counted.
    both-held : (new : JournalValue D) (after : ℕ) → after ≡ max raised new.journal.front.mark → (P : JournalValue D → Type 0) → ReconcilesAnd state old engine P →
        ((mid : JournalValue D) → P mid → IsHeld state most measures count mid.journal.front.mark mid → IsHeld state most measures count mid.journal.front.mark new) →
        IsHeld state most measures count after new
    both-held new after raise P m step =
        let there = step m.mid m.did (reconciled-held m.mid m.reconciles) in
        let low = reconciled-rises m.mid m.reconciles in
        let was = there.mark in
        record {
          credits = there.credits;
          reserved = there.reserved;
          mark = raise ∙ max-eq_right (omega arith);
          capacity = there.capacity;
          shape_is = there.shape_is;
        }

    module _ {A : Type 0} (honest : D → Type 0) (new : JournalValue D) (after : ℕ) (raise : after ≡ max raised new.journal.front.mark) (r : Result A JournalError) where
      pub read-held : (h : HandleValue) (b : ℕ) (before v : List ℕ) →
          ReconcilesAnd state old engine (λ (mid : JournalValue D). Reads state honest mid h b before v new r × LeftByRead state honest mid new r) → IsHeld state most measures count after new
      read-held h b before v m =
          both-held new after raise _ m
          (λ mid did there. counting.read state most measures count mid.journal.front.mark mid new there did.1.device.stays.shape r h b v did.0.registers did.0.err)

      pub read_newest-held : (b : ℕ) (before v : List ℕ) →
          ReconcilesAnd state old engine (λ (mid : JournalValue D). ReadsNewest state honest mid b before v new r × LeftByRead state honest mid new r) →
          IsHeld state most measures count after new
      read_newest-held b before v m =
          both-held new after raise _ m
          (λ mid did there. counting.read-newest state most measures count mid.journal.front.mark mid new there did.1.device.stays.shape honest r b v did.0.ok did.0.err)

      pub write_direct-held : (b : ℕ) (v : List ℕ) → ReconcilesAnd state old engine (λ (mid : JournalValue D). WritesDirectly state honest mid b v new r) →
          IsHeld state most measures count after new
      write_direct-held b v m =
          both-held new after raise _ m
          (λ mid did there. counting.write-direct state most measures count mid.journal.front.mark mid new there did.device.shape r b v did.ok did.err)

      pub sync_direct-held : ReconcilesAnd state old engine (λ (mid : JournalValue D). SyncsDirectly state honest mid new r) → IsHeld state most measures count after new
      sync_direct-held m =
          both-held new after raise _ m (λ mid did there. counting.sync-direct state most measures count mid.journal.front.mark mid new there did.device.shape r did.ok did.err)

  -- Whatever a call after a reconciliation answers, every holder's facts are preserved.
  pub read-know : (honest : D → Type 0) (new : JournalValue D) (e : JournalError) (h : HandleValue) (b : ℕ) (before v : List ℕ) (T : Type 0) →
      ReconcilesAnd state old engine (λ (mid : JournalValue D). Reads {A = T} state honest mid h b before v new (Err e) × LeftByRead {A = T} state honest mid new (Err e)) →
      AllStillKnow old.journal.front new.journal.front
  read-know honest new e h b before v T m = both-know new _ m (λ mid did. calls.refused_read state mid new h b e did.0.err)

  module _ {A : Type 0} (honest : D → Type 0) (new : JournalValue D) (r : Result A JournalError) where
    pub read_newest-know : (b : ℕ) (before v : List ℕ) →
        ReconcilesAnd state old engine (λ (mid : JournalValue D). ReadsNewest state honest mid b before v new r × LeftByRead state honest mid new r) →
        AllStillKnow old.journal.front new.journal.front
    read_newest-know b before v m = both-know new _ m (λ mid did. all-read_newest state mid new honest r b v did.0.ok did.0.err)

    pub write_direct-know : (b : ℕ) (v : List ℕ) → ReconcilesAnd state old engine (λ (mid : JournalValue D). WritesDirectly state honest mid b v new r) →
        AllStillKnow old.journal.front new.journal.front
    write_direct-know b v m = both-know new _ m (λ mid did. all-write_direct state mid new r b v did.ok did.err)

    pub sync_direct-know : ReconcilesAnd state old engine (λ (mid : JournalValue D). SyncsDirectly state honest mid new r) → AllStillKnow old.journal.front new.journal.front
    sync_direct-know m = both-know new _ m (λ mid did. all-sync_direct state mid new r did.ok did.err)

-- A read at the front changes nothing counted.
pub held-read : {D : Type 0} (state : D → DeviceState) (most : ℕ) (measures : Shape) (count raised : ℕ) (old new : JournalValue D) → IsHeld state most measures count raised old →
    new.device ≡ old.device → (held : Bool) (h : HandleValue) (b : ℕ) (v : List ℕ) → HeldReadDid state held h b v old new → IsHeld state most measures count raised new
held-read {D} state most measures count raised old new is same true h b v did =
    let r : Result (Unit {0}) JournalError = Ok tt in
    counting.read state most measures count raised old new is (ap (λ (d : D). (state d).shape) same) r h b v did.1 tt
held-read {D} state most measures count raised old new is same false h b v did = subst (IsHeld state most measures count raised) (sym did.2) is

-- A seal may leave fewer credits held.
pub record Lessens (f g : Front) : Type 0 where
  pub credits : held g ≤ held f
  pub reserved : g.reserved ≡ f.reserved
  pub mark : f.mark ≤ g.mark
  pub capacity : g.capacity ≡ f.capacity

less-same : (f g : Front) → g ≡ f → Lessens f g
less-same f g same =
    let all : held g ≡ held f = ap (λ (x : Front). held x) same in
    let notified : g.mark ≡ f.mark = ap (λ (x : Front). x.mark) same in
    record { credits = omega arith; reserved = ap (λ (x : Front). x.reserved) same; mark = omega arith; capacity = ap (λ (x : Front). x.capacity) same }

less-sealing : (f : Front) → Lessens f (sealing f)
less-sealing f = record { credits = omega arith; reserved = refl; mark = omega arith; capacity = refl }

less-finishing : (f : Front) (tid : ℕ) → Lessens f (raising (finishing f) tid)
less-finishing f tid = record { credits = omega arith; reserved = refl; mark = le-max_left f.mark tid; capacity = refl }

module _ {D : Type 0} (state : D → DeviceState) (mid new : JournalValue D) where
  turn-less : (t : Turn) → TurnDid state t mid new → Lessens mid.journal.front new.journal.front
  turn-less IdleTurn did = less-same mid.journal.front new.journal.front (ap (λ (v : JournalValue D). v.journal.front) did.1)
  turn-less Waiting did = less-same mid.journal.front new.journal.front (ap (λ (v : JournalValue D). v.journal.front) did.1)
  turn-less Step did = less-same mid.journal.front new.journal.front did.commits.front
  turn-less (Sealed tid) did = subst (Lessens mid.journal.front) (sym did.0.front) (less-sealing mid.journal.front)
  turn-less (Committed tid) did =
      let done : did.done.front ≡ finishing mid.journal.front = did.finishes.front ∙ ap finishing did.commits.front in
      subst (Lessens mid.journal.front) (sym (did.raises.front.after ∙ ap (λ (h : Front). raising h tid) done)) (less-finishing mid.journal.front tid)

  seal-less : (t : Option Turn) → SealDid state t mid new → Lessens mid.journal.front new.journal.front
  seal-less None did = less-same mid.journal.front new.journal.front (ap (λ (v : JournalValue D). v.journal.front) did.1)
  seal-less (Some t) did = turn-less t did.1

  less-aborting : new.journal.front ≡ aborting mid.journal.front → Lessens mid.journal.front new.journal.front
  less-aborting notified = subst (Lessens mid.journal.front) (sym notified) (record { credits = omega arith; reserved = refl; mark = omega arith; capacity = refl })

  refused-less : (e : JournalError) → TurnRefused state mid new e → Lessens mid.journal.front new.journal.front
  refused-less _ (WasAborted was same) = less-same mid.journal.front new.journal.front (ap (λ (v : JournalValue D). v.journal.front) same)
  refused-less _ (RingIsShort due short same) = less-same mid.journal.front new.journal.front (ap (λ (v : JournalValue D). v.journal.front) same)
  refused-less _ (MemoryIsShort due room same) = less-same mid.journal.front new.journal.front (ap (λ (v : JournalValue D). v.journal.front) same)
  refused-less _ (DeviceFailed did faults) = less-aborting (did.notifies.front ∙ ap (λ (f : Front). aborting f) did.fails.front)

  seal-knows : (t : Option Turn) → SealDid state t mid new → AllStillKnow mid.journal.front new.journal.front
  seal-knows None did x own = subst (λ (v : JournalValue D). IsOwn v.journal.front x) (sym did.1) own
  seal-knows (Some t) did x own = calls.turn state mid new t did.1 x own

module _ {D : Type 0} (state : D → DeviceState) (old : JournalValue D) (engine : EngineValue D) (new : JournalValue D) where
  both-less : (P : JournalValue D → Type 0) → ReconcilesAnd state old engine P → ((mid : JournalValue D) → P mid → Lessens mid.journal.front new.journal.front) →
      Lessens old.journal.front new.journal.front
  both-less P m step =
      let l = reconciled-learns state old engine m.mid m.reconciles in
      let less = step m.mid m.did in
      let same : held m.mid.journal.front ≡ held old.journal.front = ap (λ (f : Front). held f) l.is in
      let now : m.mid.journal.front.mark ≡ l.mark = ap (λ (f : Front). f.mark) l.is in
      let credits = less.credits in
      let low = l.rises in
      let mark = less.mark in
      record {
        credits = omega arith;
        reserved = less.reserved ∙ ap (λ (f : Front). f.reserved) l.is;
        mark = omega arith;
        capacity = less.capacity ∙ ap (λ (f : Front). f.capacity) l.is;
      }

  -- Whatever a seal answers, no more credits are held.
  pub sealed-less : (r : Result (Option Turn) JournalError) → IfOk r (λ turn. ReconcilesAnd state old engine (λ (mid : JournalValue D). SealDid state turn mid new)) →
      IfErr r (λ e. ReconcilesAnd state old engine (λ (mid : JournalValue D). TurnRefused state mid new e)) → Lessens old.journal.front new.journal.front
  sealed-less (Ok t) ok err = both-less _ ok (λ mid did. seal-less state mid new t did)
  sealed-less (Err e) ok err = both-less _ err (λ mid did. refused-less state mid new e did)

  -- Every holder's facts are preserved.
  pub sealed-know : (r : Result (Option Turn) JournalError) → IfOk r (λ turn. ReconcilesAnd state old engine (λ (mid : JournalValue D). SealDid state turn mid new)) →
      IfErr r (λ e. ReconcilesAnd state old engine (λ (mid : JournalValue D). TurnRefused state mid new e)) → AllStillKnow old.journal.front new.journal.front
  sealed-know (Ok t) ok err = both-know state old engine new _ ok (λ mid did. seal-knows state mid new t did)
  sealed-know (Err e) ok err = both-know state old engine new _ err (λ mid did. calls.refused_turn state mid new e did)

  engine-size : (P : JournalValue D → Type 0) → ReconcilesAnd state old engine P → (state engine.device).shape ≡ (state old.device).shape
  engine-size P m = ap (λ (e : EngineValue D). (state e.device).shape) (sym m.reconciles.engine_is) ∙ m.reconciles.measures

  -- A device that is not called keeps its shape.
  pub sealed-size : (r : Result (Option Turn) JournalError) (after : EngineValue D) → after ≡ engine_of new → after.device ≡ engine.device →
      IfOk r (λ turn. ReconcilesAnd state old engine (λ (mid : JournalValue D). SealDid state turn mid new)) →
      IfErr r (λ e. ReconcilesAnd state old engine (λ (mid : JournalValue D). TurnRefused state mid new e)) → (state new.device).shape ≡ (state old.device).shape
  sealed-size (Ok t) after is uncalled ok err =
      ap (λ (e : EngineValue D). (state e.device).shape) (sym is) ∙ (ap (λ (d : D). (state d).shape) uncalled ∙ engine-size _ ok)
  sealed-size (Err e) after is uncalled ok err =
      ap (λ (e : EngineValue D). (state e.device).shape) (sym is) ∙ (ap (λ (d : D). (state d).shape) uncalled ∙ engine-size _ err)

  -- The counts are then what is held.
  pub sealed-held : (most : ℕ) (measures : Shape) (count raised credits after : ℕ) → IsHeld state most measures count raised old → Lessens old.journal.front new.journal.front →
      credits ≡ held new.journal.front → after ≡ max raised new.journal.front.mark → (state new.device).shape ≡ (state old.device).shape →
      IsHeld state most measures credits after new
  sealed-held most measures count raised credits after is less are raise same =
      let was = is.mark in
      let low = less.mark in
      record {
        credits = are;
        reserved = less.reserved ∙ is.reserved;
        mark = raise ∙ max-eq_right (omega arith);
        capacity = less.capacity ∙ is.capacity;
        shape_is = same ∙ is.shape_is;
      }
