-- A ledger can run after each step of a commit, and with a batch that it took.
use Rattle.std.proofs.Common.{arith, refl, sym, ap, subst, ◌∙◌}
use Rattle.std.specs.Prelude.{◌≡◌, ◌≢◌, ℕ, ◌+◌, ◌^◌, ◌≤◌, false, true, Some, slice_get}
use Rattle.journal_model.specs.declared.entry.Batch.{Batch}
use Rattle.journal_model.specs.declared.number.Area.TheVariants.{Log}
use Rattle.journal_model.specs.Layout.{Layout}
use Rattle.log_model.specs.Room.{need}
use Rattle.journal_model.specs.Disk.{Shape}
use Rattle.checkpoint.specs.Pending.{ArePending, IsCommitted, PendingValue}
use Rattle.journal_world.specs.declared.stage.Stage.{Stage}
use Rattle.journal_world.specs.declared.stage.Stage.TheVariants.{Idle, SuperblockWrite, SuperblockFlush, Blocks, CommitWrite, CommitFlush}
use Rattle.journal_world.specs.Call.{Call}
use Rattle.journal_world.specs.Call.Call.{Flush}
use Rattle.journal_world.specs.Engine.{Engine, HasRoom, accepting, call_due, call_in, stepped, stepped_from}
use Rattle.journal_world.specs.Sound.{IsPlain, StageAgrees}
use Rattle.journal_world.proofs.Positions.{tail-start}
use Rattle.log_ledger.specs.declared.ledger.Ledger.{Ledger}
use Rattle.log_ledger.specs.Steps.{MayHandOver}
use Rattle.log_ledger.specs.Ledger.{HasKept, KeepsPending, Runs, engine_of}
use Rattle.log_ledger.proofs.Ledgers.{batch-taken, batch-there, done-taken, fault-taken, idle-head, kept-alike, taken-alike}
use Rattle.log_ledger.proofs.Pendings.{aborted-keeps, done-keeps, steps-keeps, takes-keeps}
use Rattle.log_ledger.proofs.Running.{fault-runs, few-needed, needed_by, ring-few, step-runs, takes, takes-runs}

-- a call is due at each stage of a commit
call-at : (e : Engine) (stage : Stage) → stage ≢ Idle → (call : Call) × (call_in e stage ≡ Some call)
call-at e Idle busy = absurd (busy refl)
call-at e SuperblockWrite busy = (_, refl)
call-at e SuperblockFlush busy = (_, refl)
call-at e (Blocks k) busy = (_, refl)
call-at e CommitWrite busy = (_, refl)
call-at e CommitFlush busy = (_, refl)

-- the transaction being committed stays, and where it stands
record Stands (old new : Engine) : Type 0 where
  layout : new.layout ≡ old.layout
  start : new.start ≡ old.start
  uuid : new.uuid ≡ old.uuid
  accepted : new.accepted ≡ old.accepted
  committed : new.committed ≡ old.committed
  released : new.released ≡ old.released

-- this holds up to the last step
stands-at : (e : Engine) (stage : Stage) → stage ≢ CommitFlush → Stands e (stepped_from e stage)
stands-at e Idle before = record { layout = refl; start = refl; uuid = refl; accepted = refl; committed = refl; released = refl }
stands-at e SuperblockWrite before = record { layout = refl; start = refl; uuid = refl; accepted = refl; committed = refl; released = refl }
stands-at e SuperblockFlush before = record { layout = refl; start = refl; uuid = refl; accepted = refl; committed = refl; released = refl }
stands-at e (Blocks k) before = record { layout = refl; start = refl; uuid = refl; accepted = refl; committed = refl; released = refl }
stands-at e CommitWrite before = record { layout = refl; start = refl; uuid = refl; accepted = refl; committed = refl; released = refl }
stands-at e CommitFlush before = absurd (before refl)

-- it can run after a step before the last
pub steps-on : (shape : Shape) (l new : Ledger) → l.stage ≢ Idle → l.stage ≢ CommitFlush → engine_of shape new ≡ stepped (engine_of shape l) →
    new.ring ≡ l.ring → new.pending ≡ l.pending → new.kept.items ≡ l.kept.items → Runs shape l → Runs shape new
steps-on shape l new busy before is ring pending kept runs =
    let e = engine_of shape l in
    let call = call-at e l.stage busy in
    let stands : Stands e (engine_of shape new) = subst (Stands e) (sym is) (stands-at e l.stage before) in
    record {
      plain = step-runs e (engine_of shape new) call.0 runs.plain call.1 is;
      taken = taken-alike shape l new ring stands.layout stands.start stands.uuid stands.accepted stands.committed runs.taken;
      pending =
          subst (λ (p : PendingValue). KeepsPending (engine_of shape new) p) (sym pending)
          (subst (λ (x : Engine). KeepsPending x l.pending) (sym is) (steps-keeps e l.pending before runs.pending));
      kept = kept-alike l new kept stands.released stands.accepted runs.kept;
    }

-- it can run after the last step
pub finishes : (shape : Shape) (l new : Ledger) (b : Batch) → l.stage ≡ CommitFlush → slice_get l.accepted.items l.committed ≡ Some b →
    engine_of shape new ≡ stepped_from (engine_of shape l) CommitFlush → new.ring ≡ l.ring → new.start ≡ l.ring.head →
    IsCommitted l.pending b.entries (l.first + l.committed) new.pending → ArePending new.pending → new.kept.items ≡ l.kept.items →
    Runs shape l → Runs shape new
finishes shape l new b last stands is ring start commits kept same runs =
    let e = engine_of shape l in
    let due : call_due e ≡ Some (Flush Log) = ap (call_in e) last in
    let steps : engine_of shape new ≡ stepped e = is ∙ ap (stepped_from e) (sym last) in
    let can : IsPlain (engine_of shape new) = step-runs e (engine_of shape new) (Flush Log) runs.plain due steps in
    record {
      plain = can;
      taken = done-taken shape l new can (ap (λ (x : Engine). x.stage) is) ring start;
      pending =
          subst (λ (x : Engine). KeepsPending x new.pending) (sym is)
          (done-keeps e l.pending new.pending b runs.plain last stands runs.pending commits kept);
      kept = kept-alike l new same (ap (λ (x : Engine). x.released) is) (ap (λ (x : Engine). x.accepted) is) runs.kept;
    }

-- it can run with a batch that it took
pub takes-on : (shape : Shape) (l new : Ledger) (b : Batch) → l.aborted ≡ false → MayHandOver (engine_of shape l) b → HasRoom (engine_of shape l) b →
    engine_of shape new ≡ accepting (engine_of shape l) b → new.ring.head ≡ l.ring.head + needed_by l.layout b →
    new.pending ≡ l.pending → HasKept new → Runs shape l → Runs shape new
takes-on shape l new b running may room is head pending kept runs =
    let e = engine_of shape l in
    let can = takes-runs e (engine_of shape new) b runs.plain may (takes e (engine_of shape new) b running may room is) in
    let agrees : StageAgrees e Idle = subst (StageAgrees e) may.idle runs.plain.stage in
    let stands : slice_get new.accepted.items new.committed ≡ Some b =
    ap (λ (n : ℕ). slice_get new.accepted.items n) (ap (λ (x : Engine). x.committed) is)
    ∙ batch-there shape l b new.accepted.items runs may (ap (λ (x : Engine). x.accepted) is) in
    let start : l.ring.head ≡ new.start = idle-head shape l runs may.idle ∙ sym (ap (λ (x : Engine). x.start) is) in
    record {
      plain = can;
      taken = batch-taken shape new b can stands (head ∙ ap (λ (n : ℕ). n + needed_by l.layout b) start ∙ ap (λ (x : Layout). new.start + needed_by x b) (sym (ap (λ (x : Engine). x.layout) is)));
      pending =
          subst (λ (p : PendingValue). KeepsPending (engine_of shape new) p) (sym pending)
          (subst (λ (x : Engine). KeepsPending x l.pending) (sym is) (takes-keeps e b l.pending agrees.0 runs.pending));
      kept = kept;
    }

-- if memory ran out, the ledger can run as before
pub same-runs : (shape : Shape) (l new : Ledger) → engine_of shape new ≡ engine_of shape l → new.ring ≡ l.ring → new.pending ≡ l.pending →
    HasKept new → Runs shape l → Runs shape new
same-runs shape l new is ring pending kept runs = record {
  plain = subst IsPlain (sym is) runs.plain;
  taken =
      taken-alike shape l new ring (ap (λ (x : Engine). x.layout) is) (ap (λ (x : Engine). x.start) is) (ap (λ (x : Engine). x.uuid) is) (ap (λ (x : Engine). x.accepted) is)
      (ap (λ (x : Engine). x.committed) is) runs.taken;
  pending =
      subst (λ (p : PendingValue). KeepsPending (engine_of shape new) p) (sym pending)
      (subst (λ (x : Engine). KeepsPending x l.pending) (sym is) runs.pending);
  kept = kept;
}

-- a batch that there is room for has few entries
pub room-few : (shape : Shape) (l : Ledger) (c r : ℕ) → Runs shape l → l.start + need l.layout c r ≤ l.ring.tail + l.ring.ring.blocks → (c ≤ 2 ^ 32) × (r ≤ 2 ^ 32)
room-few shape l c r runs room =
    let e : Engine = engine_of shape l in
    let order : e.tail ≤ e.start = tail-start e runs.plain in
    let fits : need e.layout c r ≤ e.ring.blocks = omega arith in
    let few = few-needed e.layout c r e.ring.blocks runs.plain.layout.0 fits (ring-few e runs.plain) in
    let sum : c + r ≤ 2 ^ 32 = few.1 in
    (omega arith, omega arith)

-- after a failure it can run, on a device of the same shape
pub faults-on : (shape after : Shape) (l : Ledger) → after ≡ shape → Runs shape l → Runs after (record l { aborted = true })
faults-on shape after l same runs = record {
  plain = fault-runs (engine_of shape l) after runs.plain same;
  taken = fault-taken shape after l same runs.taken;
  pending =
      subst (λ (s : Shape). KeepsPending (engine_of s (record l { aborted = true })) l.pending) (sym same)
      (aborted-keeps (engine_of shape l) l.pending runs.pending);
  kept = runs.kept;
}
