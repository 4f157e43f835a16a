use Rattle.std.proofs.Common.{refl, sym, ap, ap₂, ◌∙◌, subst, ◌<◌, ℕ}
use Rattle.std.specs.Prelude.{Some, None, []}
use Rattle.journal_model.specs.Layout.{Layout}
use Rattle.log_model.specs.Room.{IsCapacity}
use Rattle.journal_world.specs.Engine.{Engine}
use Rattle.journal_world.specs.Front.{Front, fresh_front}
use Rattle.journal_world.specs.Journal.{fresh_engine}
use Rattle.journal_world.specs.Opening.{IsOpenedLog}
use Rattle.journal_model.specs.Disk.{Disk, Shape}
use Rattle.log_epochs.specs.EngineWorld.Begins.{Made}
use Rattle.journal_steps.proofs.Turning.{fresh-agrees, fresh-itself, fresh-journal}
use Rattle.journal_steps.proofs.LegalSteps.{legal-fresh}
use Rattle.group_commit.proofs.journal.Journal+D+R.new.Goals as goal

pub invariant_of-result : goal.invariant_of-result
invariant_of-result g c =
    let engine = c.in_ok-engine.ensures.ok.1 in
    let capacity = c.capacity-credits.result in
    let front =
    c.new-front.ensures ∙ ap₂ (λ (l : Layout) (blocks : ℕ). fresh_front l blocks capacity c.next-next.result) c.layout-layout.ensures.layout c.home_blocks.ensures.home
    ∙ ap (fresh_front c.in_ok-engine.engine.engine.layout c.in_ok-engine.engine.engine.shape.home_blocks capacity) c.next-next.ensures.next in (
      fresh-agrees _ _ _ _ _ engine front
          (subst (λ (l : Layout). IsCapacity l c.in_ok-engine.engine.engine.ring.blocks c.capacity-credits.result) c.layout-layout.ensures.layout
          (subst (λ (blocks : ℕ). IsCapacity c.layout-layout.result blocks c.capacity-credits.result) c.ring_blocks.ensures c.capacity-credits.ensures))
          (subst (λ (n : ℕ). 0 < n) c.next-next.ensures.next c.next-next.ensures.some),
      λ honest. legal-fresh c.new-front.result 0 (ap (λ (f : Front). f.sealed) c.new-front.ensures) (ap (λ (f : Front). f.running.steps) c.new-front.ensures),
    )

pub returns-clause-fresh : goal.returns-clause-fresh
returns-clause-fresh g c =
    let engine = c.in_ok-engine.ensures.ok.1 in
    let capacity = c.capacity-credits.result in
    let front =
    c.new-front.ensures ∙ ap₂ (λ (l : Layout) (blocks : ℕ). fresh_front l blocks capacity c.next-next.result) c.layout-layout.ensures.layout c.home_blocks.ensures.home
    ∙ ap (fresh_front c.in_ok-engine.engine.engine.layout c.in_ok-engine.engine.engine.shape.home_blocks capacity) c.next-next.ensures.next in
    fresh-journal _ _ _ _ _ engine front
    (subst (λ (l : Layout). IsCapacity l c.in_ok-engine.engine.engine.ring.blocks c.capacity-credits.result) c.layout-layout.ensures.layout
    (subst (λ (blocks : ℕ). IsCapacity c.layout-layout.result blocks c.capacity-credits.result) c.ring_blocks.ensures c.capacity-credits.ensures))

-- if reads were correct, a run begins there
pub returns-clause-begins : goal.returns-clause-begins
returns-clause-begins g c = λ honest.
    let device = c.in_ok-engine.ensures.ok.0 in
    let engine = c.in_ok-engine.ensures.ok.1 in
    let fresh = returns-clause-fresh g c in
    let opened = c.args.opened in
    let disk = ap (λ (d : g.row.D.Denot). (g.D.Device.state d).disk) (sym device) in
    let shape = ap (λ (d : g.row.D.Denot). (g.D.Device.state d).shape) (sym device) in
    let log =
    subst (λ (d : g.row.D.Denot). IsOpenedLog (g.D.Device.state d).shape (g.D.Device.state d).disk opened.superblock opened.next)
    (sym device) (c.in_ok-engine.ensures.log honest) in
    let epoch =
    ap₂ (λ (d : Disk) (e : Engine). Some (record { opening = d; engine = e; directs = []; pin = None })) disk engine
    ∙ ap (λ (s : Shape). Some (record { opening = (g.D.Device.state c.in_ok-engine.engine.device).disk; engine = fresh_engine s opened.superblock opened.next; directs = []; pin = None })) shape in
    record {
      below = Made opened.superblock opened.next log refl epoch refl;
      fresh = record { journal = fresh-itself _ _ _ _ fresh; unanswered = refl };
      first = refl;
    }
