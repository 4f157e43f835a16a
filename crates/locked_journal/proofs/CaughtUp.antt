-- A front that has caught up with an engine agrees with it.
use Rattle.std.proofs.Common.{refl, sym, ap, ap₂, subst, ◌∙◌, arith, lt_of_not-le}
use Rattle.std.specs.Prelude.{◌≡◌, ℕ, ◌+◌, ◌-◌, ◌<◌, ◌≤◌, max, Bool, true, false, List, length}
use Rattle.std.specs.List.{AllByRecursion}
use Rattle.std.proofs.Math.Nat.{max-eq_right}
use mathlib.Core.Logic.{dite}
use native.Mathlib.Decide.{dec_le}
use Rattle.journal_model.specs.declared.entry.Batch.{Batch}
use Rattle.journal_model.specs.Disk.{Disk, Shape}
use Rattle.journal_model.specs.Layout.{Layout}
use Rattle.log_model.specs.Chain.{Ring}
use Rattle.log_model.specs.Room.{IsCapacity}
use Rattle.journal_world.specs.declared.stage.Stage.{Stage}
use Rattle.journal_world.specs.declared.stage.Stage.TheVariants.{Idle, SuperblockWrite, SuperblockFlush, Blocks, CommitWrite, CommitFlush}
use Rattle.journal_world.specs.Engine.{AreBatchesOf, Engine}
use Rattle.journal_world.specs.Front.{Front, finishing, raising}
use Rattle.journal_world.specs.Journal.{Journal}
use Rattle.journal_world.specs.Sound.{IsPlain, StageAgrees}
use Rattle.journal_steps.specs.Journal.{Agrees, IsGoodStep}
use Rattle.journal_steps.proofs.Audited.{kept-beside}
use Rattle.locked_journal.specs.Alone.{KeptAlone}
use Rattle.locked_journal.specs.Sides.{CatchesUp, Notifies}
use Rattle.locked_journal.specs.Sides.Finishes.{NoneFinished, OneFinished}
use Rattle.locked_journal.specs.Sides.Notifies.{NotNotified, Notified}

-- All accepted transactions but at most the last are committed.
few : (e : Engine) (stage : Stage) → StageAgrees e stage → (e.committed ≤ length e.accepted) × (length e.accepted ≤ e.committed + 1)
few e Idle s = let n = s.0 in (omega arith, omega arith)
few e SuperblockWrite s = let n = s.0 in (omega arith, omega arith)
few e SuperblockFlush s = let n = s.0 in (omega arith, omega arith)
few e (Blocks k) s = let n = s.0 in (omega arith, omega arith)
few e CommitWrite s = let n = s.0 in (omega arith, omega arith)
few e CommitFlush s = let n = s.0 in (omega arith, omega arith)

-- The last is not while it is being committed.
one : (e : Engine) (stage : Stage) → (stage ≡ Idle → ⊥) → StageAgrees e stage → length e.accepted ≡ e.committed + 1
one e Idle busy s = absurd (busy refl)
one e SuperblockWrite busy s = s.0
one e SuperblockFlush busy s = s.0
one e (Blocks k) busy s = s.0
one e CommitWrite busy s = s.0
one e CommitFlush busy s = s.0

untrue : (b : Bool) → (b ≡ true → ⊥) → b ≡ false
untrue true never = absurd (never refl)
untrue false never = refl

module _ (f : Front) (a b : Engine) (disk : Disk) (agrees : Agrees (record { front = f; engine = a })) (kept : KeptAlone a b) (plain : IsPlain a) (now : IsPlain b) where
  abbrev notified : Front
  notified = record f { aborted = b.aborted }

  sizes : length b.accepted ≡ length a.accepted
  sizes = ap (λ (bs : List Batch). length bs) kept.accepted

  -- A front that has finished what is committed, and knows whether the engine failed, agrees with it.
  agrees-caught : (finished mark : ℕ) → finished + 1 ≡ b.first + b.committed → mark ≡ finished →
      Agrees (record { front = record f { finished = finished; mark = mark; aborted = b.aborted }; engine = b })
  agrees-caught finished mark all told_of = record {
    layout = agrees.layout ∙ sym kept.layout;
    home_blocks = agrees.home_blocks ∙ sym (ap (λ (s : Shape). s.home_blocks) kept.shape);
    aborted = refl;
    batches = subst (AreBatchesOf f.sealed) (sym kept.accepted) agrees.batches;
    number = agrees.number ∙ ap₂ (λ (n : ℕ) (bs : List Batch). n + length bs) (sym kept.first) (sym kept.accepted);
    finished = all;
    mark = told_of;
    steps =
        subst (λ (l : Layout). AllByRecursion (IsGoodStep l b.shape) f.running.steps) (sym kept.layout)
        (subst (λ (s : Shape). AllByRecursion (IsGoodStep a.layout s) f.running.steps) (sym kept.shape) agrees.steps);
    joined = agrees.joined;
    locked = agrees.locked;
    capacity = subst (λ (x : Ring). IsCapacity f.layout x.blocks f.capacity) (sym kept.ring) agrees.capacity;
    credits = agrees.credits;
    handles = kept-beside f finished mark b.aborted agrees.handles;
  }

  -- The front has finished all but at most the last.
  pub last-one : f.running.tid ≤ f.finished + 2
  last-one = let m = (few a a.stage plain.stage).1 in let number = agrees.number in let finished = agrees.finished in omega arith

  -- The front is notified of a failure, or there is none.
  notifies-by : (x : Bool) → b.aborted ≡ x → Notifies (record { front = f; engine = b }) disk (record { front = record f { aborted = x }; engine = b })
  notifies-by true is = Notified (record { failed = is; front = refl; engine = refl; disk_is = refl })
  notifies-by false is =
      let none : a.aborted ≡ false = untrue a.aborted (λ was. absurd (let now = kept.aborted was in cc)) in
      NotNotified (sym (ap (λ (x : Bool). let j : Journal = record { front = record f { aborted = x }; engine = b } in j) (agrees.aborted ∙ none)))

  notifies : Notifies (record { front = f; engine = b }) disk (record { front = notified; engine = b })
  notifies = notifies-by b.aborted refl

  even : b.committed ≡ a.committed → Agrees (record { front = notified; engine = b })
  even same = agrees-caught f.finished f.mark (agrees.finished ∙ ap₂ (λ (m n : ℕ). m + n) (sym kept.first) (sym same)) agrees.mark

  none-done : Agrees (record { front = notified; engine = b }) → CatchesUp (record { front = f; engine = b }) disk (record { front = notified; engine = b })
  none-done same = record { notified = record { front = notified; engine = b }; notifies = notifies; finishes = NoneFinished refl; agrees = same }

  -- During a commit all that is committed is finished.
  pub busy-caught : (b.stage ≡ Idle → ⊥) → CatchesUp (record { front = f; engine = b }) disk (record { front = notified; engine = b })
  busy-caught busy =
      let n = one b b.stage busy now.stage in let m = few a a.stage plain.stage in let s = sizes in let c = kept.committed in let m1 = m.1 in
      none-done (even (omega arith))

  -- Without a commit, a front with nothing to finish agrees once it is notified.
  idle-even : b.stage ≡ Idle → f.running.tid ≤ f.finished + 1 → Agrees (record { front = notified; engine = b })
  idle-even idle le =
      let n = (subst (StageAgrees b) idle now.stage).0 in let m = few a a.stage plain.stage in let s = sizes in let c = kept.committed in
      let m0 = m.0 in let number = agrees.number in let finished = agrees.finished in
      even (omega arith)

  -- Without a commit all accepted transactions are committed.
  all-committed : b.stage ≡ Idle → f.running.tid ≡ b.first + b.committed
  all-committed idle =
      let n = (subst (StageAgrees b) idle now.stage).0 in let s = sizes in let first = kept.first in let number = agrees.number in
      omega arith

  idle-done : b.stage ≡ Idle → f.finished + 1 < f.running.tid →
      CatchesUp (record { front = f; engine = b }) disk (record { front = raising (finishing notified) (f.running.tid - 1); engine = b })
  idle-done idle lt =
      let all = all-committed idle in let last = last-one in let mark = agrees.mark in
      let number : f.running.tid - 1 ≡ f.finished + 1 = omega arith in
      let high : max f.mark (f.running.tid - 1) ≡ f.finished + 1 = max-eq_right (omega arith) ∙ number in
      let low : f.running.tid - 1 ≤ f.finished + 1 = omega arith in
      record {
        notified = record { front = notified; engine = b };
        notifies = notifies;
        finishes =
            OneFinished (record { front = finishing notified; engine = b }) (record { committed = omega arith; front = refl; engine = refl; disk_is = refl }) (record {
              front = record { finished = omega arith; after = ap (λ (n : ℕ). raising (finishing notified) n) number };
              engine = refl;
              disk_is = refl;
            });
        agrees = agrees-caught (f.finished + 1) (max f.mark (f.running.tid - 1)) (omega arith) high;
      }

  pub idle-caught : (new : Front) → b.stage ≡ Idle → (f.finished + 1 < f.running.tid → new ≡ raising (finishing notified) (f.running.tid - 1)) →
      (f.running.tid ≤ f.finished + 1 → new ≡ notified) → CatchesUp (record { front = f; engine = b }) disk (record { front = new; engine = b })
  idle-caught new idle one none =
      dite (dec_le f.running.tid (f.finished + 1))
      (λ le.
      subst (λ (x : Front). CatchesUp (record { front = f; engine = b }) disk (record { front = x; engine = b })) (sym (none le)) (none-done (idle-even idle le)))
      (λ never.
      let lt : f.finished + 1 < f.running.tid = lt_of_not-le never in
      subst (λ (x : Front). CatchesUp (record { front = f; engine = b }) disk (record { front = x; engine = b })) (sym (one lt)) (idle-done idle lt))
