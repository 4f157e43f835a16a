use Rattle.std.proofs.Common.{◌+◌, List, refl, sym, ◌∙◌, ap}
use Rattle.std.proofs.lemmas.Result.{err_from_is_err_and}
use Rattle.std.specs.Prelude.{slice_get}
use Rattle.log_model.specs.declared.log.Tag.{Tag}
use Rattle.recovery.proofs.CopySteps.{step-begun, step-made, step-stays}
use Rattle.recovery.proofs.PassCalls.{calls-join}
use Rattle.recovery.proofs.replaying.write_copies.Goals as goal
use Rattle.recovery.proofs.replaying.write_copies.Goals.{then-goes_home+in_ok-copy_home, else-goes_home}

pub loop-k-preserved : goal.loop-k-preserved
loop-k-preserved g c =
    let before = c.loop-k.invariant in
    let is = ap (λ (tags : List Tag). slice_get tags c.loop-k.k) (sym before.tags) ∙ c.tag-tag.ensures in
    elim c.if-goes_home.branch [
      | then-goes_home+in_ok-copy_home w ↦
          rw (w.device-is, w.finder-is) (record {
            layout = w.copy_home.ensures.layout ∙ before.layout;
            tags = w.copy_home.ensures.tags ∙ before.tags;
            shape = w.copy_home.ensures.shape ∙ before.shape;
            faults = w.in_ok-copy_home.ensures.faults ∙ before.faults;
            log = w.copy_home.ensures.log ∙ before.log;
            calls =
                calls-join 0 0 (g.D.Device.state c.args.device.now) (g.D.Device.state c.loop-k.device) (g.D.Device.state w.copy_home.new.device) before.calls
                w.in_ok-copy_home.ensures.calls;
            honest = λ h. before.honest (w.copy_home.ensures.honest h);
            made = λ h blocks stand.
                step-made c.args.log.now (g.D.Device.state c.args.device.now) (g.D.Device.state c.loop-k.device) c.args.tables.now c.args.copies.tid c.args.copies.place
                c.args.copies.position c.args.copies.count c.loop-k.k (c.args.copies.position + c.loop-k.k) c.args.finder.now.tags c.tag-tag.result blocks c.requires.tags c.loop-k-test.true is stand refl
                (before.made (w.copy_home.ensures.honest h) blocks stand) (sym c.goes_home.ensures ∙ w.if-goes_home.true) (g.D.Device.state w.copy_home.new.device)
                (w.in_ok-copy_home.ensures.made h);
          })
      | else-goes_home w ↦
          rw (w.device-is, w.finder-is) (record {
            layout = before.layout;
            tags = before.tags;
            shape = before.shape;
            faults = before.faults;
            log = before.log;
            calls = before.calls;
            honest = before.honest;
            made = λ h blocks stand.
                step-stays c.args.log.now (g.D.Device.state c.args.device.now) (g.D.Device.state c.loop-k.device) c.args.tables.now c.args.copies.tid c.args.copies.place
                c.args.copies.position c.args.copies.count c.loop-k.k (c.args.copies.position + c.loop-k.k) c.args.finder.now.tags c.tag-tag.result blocks c.requires.tags c.loop-k-test.true is stand refl
                (before.made h blocks stand) (sym c.goes_home.ensures ∙ w.if-goes_home.false);
          })
    ]

pub returns-in_err-copy_home-clause-begun : goal.returns-in_err-copy_home-clause-begun
returns-in_err-copy_home-clause-begun g c =
    let before = c.loop-k.invariant in
    let is = ap (λ (tags : List Tag). slice_get tags c.loop-k.k) (sym before.tags) ∙ c.tag-tag.ensures in
    let p = err_from_is_err_and c.from_residual.result c.from_residual.ensures.1 in
    rw p.1
    (λ h blocks stand.
    step-begun c.args.log.now (g.D.Device.state c.args.device.now) (g.D.Device.state c.loop-k.device) c.args.tables.now c.args.copies.tid c.args.copies.place
    c.args.copies.position c.args.copies.count c.loop-k.k (c.args.copies.position + c.loop-k.k) c.args.finder.now.tags c.tag-tag.result blocks c.requires.tags c.loop-k-test.true is stand refl
    (before.made (c.copy_home.ensures.honest h) blocks stand) (sym c.goes_home.ensures ∙ c.if-goes_home.true) (g.D.Device.state c.copy_home.new.device)
    (c.in_err-copy_home.ensures.begun h))
