use Rattle.std.proofs.Common.{◌≡◌, ◌<◌, ◌≤◌, ◌+◌, ◌-◌, sym, subst, ap, ◌∙◌}
use Rattle.std.specs.Prelude.{Bool}
use Rattle.std.proofs.lemmas.Bool.{true≢false}
use Rattle.journal_model.specs.Disk.{Disk}
use Rattle.journal_world.specs.declared.stage.Stage.TheVariants.{Idle}
use Rattle.journal_world.specs.Engine.{Engine}
use Rattle.journal_world.specs.Front.{Front, finishing, raising}
use Rattle.journal_world.specs.Sound.{IsPlain}
use Rattle.locked_journal.specs.Sides.{CatchesUp, IsBehind}
use Rattle.locked_journal.proofs.CaughtUp.{busy-caught, idle-caught, last-one}
use Rattle.locked_journal.proofs.catching.catch_up.Goals as goal

-- The front after it learns of a failure.
abbrev told : Front → Engine → Front
told f e = record f { aborted = e.aborted }

-- During a commit all that is committed is finished.
pub returns-then-not-is_idle : goal.returns-then-not-is_idle
returns-then-not-is_idle g c =
    let b = c.requires in
    let f = c.args.front.now in
    let e = c.args.engine.now.engine in
    let disk = (g.D.Device.state c.args.engine.now.device).disk in
    subst (λ (x : Front). CatchesUp (record { front = f; engine = e }) disk (record { front = x; engine = e }))
    (sym (c.learn.ensures ∙ ap (λ (x : Bool). record f { aborted = x }) c.is_aborted.ensures))
    (busy-caught f b.reconciled e disk b.agrees b.kept b.plain c.recall_invariant.ensures.plain (λ idle. true≢false (sym (c.is_idle.ensures.1 idle) ∙ c.if-not-is_idle.true)))

-- What such a front has finished.
ended : (f : Front) (e : Engine) (disk : Disk) (mid new : Front) → IsBehind f e → IsPlain e → mid ≡ told f e → e.stage ≡ Idle →
    (mid.finished + 1 < mid.running.tid → new ≡ raising (finishing mid) (mid.running.tid - 1)) → (mid.running.tid ≤ mid.finished + 1 → new ≡ mid) →
    CatchesUp (record { front = f; engine = e }) disk (record { front = new; engine = e })
ended f e disk mid new b plain is idle one none =
    subst
    (λ (m : Front). (m.finished + 1 < m.running.tid → new ≡ raising (finishing m) (m.running.tid - 1)) → (m.running.tid ≤ m.finished + 1 → new ≡ m) →
    CatchesUp (record { front = f; engine = e }) disk (record { front = new; engine = e }))
    (sym is) (idle-caught f b.reconciled e disk b.agrees b.kept b.plain plain new idle) one none

pub returns : goal.returns
returns g c =
    let f = c.args.front.now in
    let e = c.args.engine.now.engine in
    ended f e (g.D.Device.state c.args.engine.now.device).disk c.learn.new.self c.finish_last.new.front c.requires c.recall_invariant.ensures.plain
    (c.learn.ensures ∙ ap (λ (x : Bool). record f { aborted = x }) c.is_aborted.ensures) (c.is_idle.ensures.0 c.if-not-is_idle.false)
    c.finish_last.ensures.one c.finish_last.ensures.none

pub finish_last-requires-clause-last : goal.finish_last-requires-clause-last
finish_last-requires-clause-last g c =
    let b = c.requires in
    let f = c.args.front.now in
    let e = c.args.engine.now.engine in
    rw c.learn.ensures (last-one f b.reconciled e (g.D.Device.state c.args.engine.now.device).disk b.agrees b.kept b.plain c.recall_invariant.ensures.plain)
