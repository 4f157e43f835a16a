use Rattle.std.proofs.Common.{◌∙◌, ◌+◌, ℕ, ap, subst, sym}
use Rattle.std.proofs.lemmas.Result.{err_from_is_err_and}
use Rattle.recovery.specs.Planned.{IsPlanned}
use Rattle.recovery.proofs.Examining.{no-log-refused}
use Rattle.recovery.proofs.Plans.{is-planned, plan-refused}
use Rattle.recovery.proofs.planning.plan_opening.Goals as goal

pub returns-then-blocks-eq0-clause-refused : goal.returns-then-blocks-eq0-clause-refused
returns-then-blocks-eq0-clause-refused g c =
    no-log-refused (g.D.Device.honest c.args.device.now) (g.D.Device.state c.args.device.now) (sym c.blocks-2.ensures ∙ c.if-blocks-eq0.true)

pub returns-in_err-blocks-clause-refused : goal.returns-in_err-blocks-clause-refused
returns-in_err-blocks-clause-refused g c =
    let p = err_from_is_err_and c.from_residual-in_err-blocks.result c.from_residual-in_err-blocks.ensures.1 in
    rw (p.1, p.2)
    (plan-refused (g.D.Device.honest c.count_home.new.device) (g.D.Device.state c.args.device.now) (g.D.Device.state c.examine.new.device)
    (g.D.Device.state c.count_home.new.device) c.in_ok-examined.examined.superblock.items c.in_ok-examined.examined.log c.in_ok-examined.examined.transactions
    c.in_ok-examined.examined.tables c.in_err-blocks.field-0.0 c.in_ok-examined.ensures.examined.well c.examine.ensures.device.stays c.count_home.ensures.device.stays
    c.in_ok-examined.ensures.faults (λ h. c.in_ok-examined.ensures.on (c.count_home.ensures.device.honest h)) c.in_ok-examined.ensures.examined.clean
    c.in_err-blocks.ensures.refused)

pub returns-clause-planned : goal.returns-clause-planned
returns-clause-planned g c = λ honest.
    let on = c.in_ok-examined.ensures.on (c.count_home.ensures.device.honest honest) in
    subst (λ (n : ℕ). IsPlanned (g.D.Device.state c.args.device.now).shape (g.D.Device.state c.args.device.now).disk c.report_of-report.result.clean c.report_of-report.result.ends_at n
    c.in_ok-blocks.blocks c.number_from.result) (sym c.report_of-report.ensures.transactions)
    (is-planned (g.D.Device.state c.args.device.now) (g.D.Device.state c.examine.new.device) c.in_ok-examined.examined.superblock.items
    c.in_ok-examined.examined.log c.in_ok-examined.examined.transactions c.in_ok-examined.examined.tables on.0 on.1 c.examine.ensures.device.stays
    c.in_ok-examined.ensures.examined.clean c.report_of-report.result.clean c.report_of-report.result.ends_at c.in_ok-blocks.blocks c.number_from.result
    c.report_of-report.ensures.clean c.report_of-report.ensures.ends (c.number_from.ensures ∙ ap (λ (n : ℕ). n + 1) c.report_of-report.ensures.ends)
    (c.in_ok-blocks.ensures.count honest) c.in_ok-blocks.ensures.none)
