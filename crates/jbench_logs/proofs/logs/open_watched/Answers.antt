use Rattle.std.proofs.Common.{◌≡◌, ◌∙◌, ℕ, ap, subst, sym}
use Rattle.recovery.specs.declared.opening.Report.{Report}
use Rattle.jbench_logs.specs.Done.{IsOpeningTold}
use Rattle.jbench_logs.proofs.logs.open_watched.Goals as goal

-- what was found on the watched device was found on the inner one
pub returns-in-Ok-clause-tells : goal.returns-in-Ok-clause-tells
returns-in-Ok-clause-tells g c = λ honest.
    let given : c.new.result.device ≡ c.args.device = ap (λ watched. watched.device) c.new.ensures in
    let o = c.in-Ok.opened in
    let old = g.D.Device.state c.args.device in
    let same : c.into_parts-device.result.0 ≡ o.device.device = ap (λ parts. parts.0) c.into_parts-device.ensures ∙ ap (λ watched. watched.device) c.into_device.ensures in
    let trust = subst g.D.Device.honest same honest in
    subst (λ device. IsOpeningTold (g.D.Device.state device) (g.D.Device.state c.into_parts-device.result.0) c.report-report.result.clean c.report-report.result.ends_at c.report-report.result.transactions c.next-next.result) given
    (subst (λ device. IsOpeningTold (g.D.Device.state c.new.result.device) (g.D.Device.state device) c.report-report.result.clean c.report-report.result.ends_at c.report-report.result.transactions c.next-next.result) (sym same)
    (subst (λ (n : ℕ). IsOpeningTold (g.D.Device.state c.new.result.device) (g.D.Device.state o.device.device) c.report-report.result.clean c.report-report.result.ends_at c.report-report.result.transactions n) (sym c.next-next.ensures.next)
    (subst (λ (r : Report). IsOpeningTold (g.D.Device.state c.new.result.device) (g.D.Device.state o.device.device) r.clean r.ends_at r.transactions o.next) (sym c.report-report.ensures)
    (record { superblock = o.superblock; opening = c.in-Ok.ensures.opened trust; tells = c.in-Ok.ensures.report trust }))))
