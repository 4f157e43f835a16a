use Rattle.std.proofs.Common.{sym, ap, subst, ◌∙◌, ◌≡◌, ◌<◌, false, length}
use Rattle.std.proofs.lemmas.Result.{err_from_is_err_and}
use Rattle.journal_world.specs.declared.stage.Stage.TheVariants.{Idle}
use Rattle.journal_world.specs.Front.{Front}
use Rattle.journal_world.specs.Journal.{batch_of}
use Rattle.journal_steps.specs.Values.{JournalValue, together}
use Rattle.group_commit.proofs.Finishing.{all-sealed, seal-wrong}
use Rattle.journal_steps.proofs.Kept.{kept-lock}
use Rattle.journal_steps.proofs.LegalSteps.{kept_legal-lock, turn-legal}
use Rattle.group_commit.proofs.journal.Journal+D+R.seal_running.Goals as goal

-- the lock leaves the entries
pub seal_batch-requires-clause-batch : goal.seal_batch-requires-clause-batch
seal_batch-requires-clause-batch g c =
    let joined = subst (λ (v : JournalValue g.row.D.Denot). 0 < length v.journal.front.running.handles) (sym c.self.view_is) c.requires.joined in
    let batch = subst (λ (v : JournalValue g.row.D.Denot). c.args.batch ≡ batch_of v.journal.front.running) (sym c.self.view_is) c.requires.batch in
    batch ∙ sym (ap (λ (f : Front). batch_of f.running) (c.lock.ensures.joined joined).after)

-- the transaction changes only by the lock
pub returns-in_err-seal_batch-clause-err : goal.returns-in_err-seal_batch-clause-err
returns-in_err-seal_batch-clause-err g c =
    let device = c.self.inside.engine.device in
    let e = c.self.inside.engine.engine in
    let running = subst (λ (v : JournalValue g.row.D.Denot). v.journal.engine.aborted ≡ false) (sym c.self.view_is) c.requires.running in
    let idle = subst (λ (v : JournalValue g.row.D.Denot). v.journal.engine.stage ≡ Idle) (sym c.self.view_is) c.requires.idle in
    let joined = subst (λ (v : JournalValue g.row.D.Denot). 0 < length v.journal.front.running.handles) (sym c.self.view_is) c.requires.joined in
    let locked = ap (λ (f : Front). record { device = device; journal = record { front = f; engine = e } }) (c.lock.ensures.joined joined).after in
    let p = err_from_is_err_and c.from_residual.result c.from_residual.ensures.1 in
    rw (p.1, p.2, ← c.self.view_is) (seal-wrong g.D.Device.state _ _ _ _ locked running idle c.in_err-seal_batch.ensures.err)

-- before the seal, everything sealed is committed
pub returns-in_err-seal_batch-clause-all : goal.returns-in_err-seal_batch-clause-all
returns-in_err-seal_batch-clause-all g c =
    let idle = subst (λ (v : JournalValue g.row.D.Denot). v.journal.engine.stage ≡ Idle) (sym c.self.view_is) c.requires.idle in
    rw (← c.self.view_is) (all-sealed g.D.Device.state _ c.self.invariant.0 c.recall_invariant.ensures.plain idle)

pub returns-clause-all : goal.returns-clause-all
returns-clause-all g c =
    let idle = subst (λ (v : JournalValue g.row.D.Denot). v.journal.engine.stage ≡ Idle) (sym c.self.view_is) c.requires.idle in
    rw (← c.self.view_is) (all-sealed g.D.Device.state _ c.self.invariant.0 c.recall_invariant.ensures.plain idle)

-- after the lock front and engine agree
pub seal_batch-requires-clause-agrees : goal.seal_batch-requires-clause-agrees
seal_batch-requires-clause-agrees g c =
    kept-lock c.self.inside.front c.lock.new.self c.self.inside.engine.engine c.self.invariant.0 c.lock.ensures.joined c.lock.ensures.empty

-- the lock and the seal, answered or refused, leave the record legal
pub invariant_of-self : goal.invariant_of-self
invariant_of-self g c = (
  c.seal_batch.ensures.agrees,
  turn-legal g.D.Device.state g.D.Device.honest (together c.lock.new.self c.self.inside.engine) (together c.seal_batch.new.front c.seal_batch.new.engine)
      (λ honest. subst g.D.Device.honest c.seal_batch.ensures.device honest)
      (λ honest. kept_legal-lock c.self.inside.front c.lock.new.self (c.self.invariant.1 honest) c.lock.ensures.joined c.lock.ensures.empty)
      c.seal_batch.result c.seal_batch.ensures.ok c.seal_batch.ensures.err,
)

pub invariant_of-self-2 : goal.invariant_of-self-2
invariant_of-self-2 g c = (
  c.seal_batch.ensures.agrees,
  turn-legal g.D.Device.state g.D.Device.honest (together c.lock.new.self c.self.inside.engine) (together c.seal_batch.new.front c.seal_batch.new.engine)
      (λ honest. subst g.D.Device.honest c.seal_batch.ensures.device honest)
      (λ honest. kept_legal-lock c.self.inside.front c.lock.new.self (c.self.invariant.1 honest) c.lock.ensures.joined c.lock.ensures.empty)
      c.seal_batch.result c.seal_batch.ensures.ok c.seal_batch.ensures.err,
)
