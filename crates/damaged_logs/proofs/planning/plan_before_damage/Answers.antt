use Rattle.std.proofs.Common.{◌∙◌, ℕ, subst, sym}
use Rattle.std.proofs.lemmas.Result.{err_from_is_err_and}
use Rattle.damaged_logs.specs.Planned.{IsPlannedBefore}
use Rattle.damaged_logs.proofs.BeforeReading.{no-log-before}
use Rattle.damaged_logs.proofs.Plans.{is-planned-before, plan-refused-before}
use Rattle.damaged_logs.proofs.planning.plan_before_damage.Goals as goal

-- a log area without a block is refused
pub returns-then-blocks-eq0-clause-refused : goal.returns-then-blocks-eq0-clause-refused
returns-then-blocks-eq0-clause-refused g c =
    no-log-before (g.D.Device.honest c.args.device.now) (g.D.Device.state c.args.device.now) (sym c.blocks-2.ensures ∙ c.if-blocks-eq0.true)

-- the log read differently, or the device failed
pub returns-in_err-blocks-clause-refused : goal.returns-in_err-blocks-clause-refused
returns-in_err-blocks-clause-refused g c =
    let p = err_from_is_err_and c.from_residual-in_err-blocks.result c.from_residual-in_err-blocks.ensures.1 in
    rw (p.1, p.2)
    (plan-refused-before (g.D.Device.honest c.count_copies.new.device) (g.D.Device.state c.args.device.now) (g.D.Device.state c.read_log.new.device)
    (g.D.Device.state c.count_copies.new.device) c.in_ok-read.read.superblock.items c.in_ok-read.read.log
    c.in_ok-read.read.transactions c.in_ok-read.read.greatest c.in_ok-read.read.stopped_by c.in_ok-read.read.tables
    c.in_err-blocks.field-0.0 c.in_ok-read.ensures.read.well c.read_log.ensures.device.stays c.count_copies.ensures.device.stays c.in_ok-read.ensures.faults
    (λ h. c.in_ok-read.ensures.on (c.count_copies.ensures.device.honest h)) c.in_err-blocks.ensures.refused)

-- what it would do
pub returns-clause-planned : goal.returns-clause-planned
returns-clause-planned g c = λ honest.
    let on = c.in_ok-read.ensures.on (c.count_copies.ensures.device.honest honest) in
    subst (λ (n : ℕ). IsPlannedBefore (g.D.Device.state c.args.device.now).shape (g.D.Device.state c.args.device.now).disk c.in_ok-read.read.stopped_by
    c.report_of-report.result.clean c.report_of-report.result.ends_at n c.in_ok-blocks.blocks c.number_from.result) (sym c.report_of-report.ensures.transactions)
    (is-planned-before (g.D.Device.state c.args.device.now) (g.D.Device.state c.read_log.new.device) c.in_ok-read.read.superblock.items
    c.in_ok-read.read.log c.in_ok-read.read.transactions c.in_ok-read.read.greatest c.in_ok-read.read.stopped_by
    c.in_ok-read.ensures.read c.in_ok-read.read.tables on.0 on.1 c.read_log.ensures.device.stays c.report_of-report.result.clean
    c.report_of-report.result.ends_at c.in_ok-blocks.blocks c.number_from.result c.report_of-report.ensures.clean c.report_of-report.ensures.ends
    c.number_from.ensures (c.in_ok-blocks.ensures.count honest) c.in_ok-blocks.ensures.none)
