use Rattle.std.proofs.Common.{◌≡◌, ◌∙◌, ℕ, ap, subst, sym}
use Rattle.recovery.specs.declared.opening.Report.{Report}
use Rattle.jbench_logs.specs.Done.{IsTakenBefore}
use Rattle.jbench_logs.proofs.damage.open_watched.Goals as goal

-- what was taken of the watched device was taken of the inner one
pub returns-in-Ok-clause-opened : goal.returns-in-Ok-clause-opened
returns-in-Ok-clause-opened g c = λ honest.
    let old = g.D.Device.state c.new.result.device in
    let given : c.new.result.device ≡ c.args.device = ap (λ watched. watched.device) c.new.ensures in
    let o = c.in-Ok.opened in
    let stopped = c.in-Ok.stopped_by in
    let same : c.into_parts-device.result.0 ≡ o.device.device = ap (λ parts. parts.0) c.into_parts-device.ensures ∙ ap (λ watched. watched.device) c.into_device.ensures in
    let trust = subst g.D.Device.honest same honest in
    let taken = c.in-Ok.ensures.opened trust in
    subst (λ device. IsTakenBefore (g.D.Device.state device) (g.D.Device.state c.into_parts-device.result.0) (record { report = c.report.result; next = c.next.result; stopped_by = stopped })) given
    (subst (λ device. IsTakenBefore old (g.D.Device.state device) (record { report = c.report.result; next = c.next.result; stopped_by = stopped })) (sym same)
    (subst (λ (n : ℕ). IsTakenBefore old (g.D.Device.state o.device.device) (record { report = c.report.result; next = n; stopped_by = stopped })) (sym c.next.ensures.next)
    (subst (λ (r : Report). IsTakenBefore old (g.D.Device.state o.device.device) (record { report = r; next = o.next; stopped_by = stopped })) (sym c.report.ensures)
    (record {
      texts = taken.0;
      greatest = taken.1;
      superblock = o.superblock;
      opening = taken.2;
      calls = c.in-Ok.ensures.calls trust;
      tells = taken.3;
    }))))
