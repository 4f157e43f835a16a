use Rattle.std.proofs.Common.{◌≡◌, ◌∙◌, List, ℕ, sym, subst}
use Rattle.std.specs.Prelude.{None}
use Rattle.std.proofs.lemmas.Result.{err_from_is_err_and}
use Rattle.journal_model.specs.Disk.{Shape, reading}
use Rattle.log_model.specs.Superblock.{with_tail}
use Rattle.block_device.specs.State.{DeviceState}
use Rattle.recovery.specs.Values.{IsNextNamed}
use Rattle.recovery.proofs.Recovering.{clean-start, other-start}
use Rattle.damaged_logs.specs.Before.{TellsBefore}
use Rattle.damaged_logs.specs.BeforeSteps.{IsDoneBefore}
use Rattle.damaged_logs.proofs.BeforeReading.{before-later}
use Rattle.damaged_logs.proofs.BeforeRecovering.{begun-broken, left-done, left-named, made-done, made-named, none-there, read-tells, replay-before, some-there}
use Rattle.damaged_logs.proofs.before_damage.recover_before.Goals as goal
use Rattle.damaged_logs.proofs.before_damage.recover_before.Goals.{else-report-via-then-report+else-is_none, else-report-via-else-report}

-- the log could not be flushed
pub returns-in_err-flush-clause-refused : goal.returns-in_err-flush-clause-refused
returns-in_err-flush-clause-refused g c =
    let p = err_from_is_err_and c.from_residual-in_err-flush.result c.from_residual-in_err-flush.ensures.1 in
    rw p.1
    (before-later (g.D.Device.honest c.flush.new.self) (g.D.Device.state c.args.device.now) (g.D.Device.state c.read_log.new.device)
    (g.D.Device.state c.flush.new.self) _ c.in_ok-read.ensures.faults (p.2, c.in_err-flush.ensures.faults))

-- the superblock of a clean log that nothing stopped names the next transaction
pub returns-then-is_none-clause-named : goal.returns-then-is_none-clause-named
returns-then-is_none-clause-named g c =
    let s : DeviceState = g.D.Device.state c.args.device.now in
    let u : DeviceState = g.D.Device.state c.flush.new.self in
    let items : List ℕ = c.in_ok-read.read.superblock.items in
    let next : ℕ = c.number_from-next.result in
    let shape : u.shape ≡ s.shape = c.in_ok-flush.ensures.ok.shape ∙ c.read_log.ensures.device.stays.shape in
    subst (λ (m : Shape). IsNextNamed m items next) (sym shape)
    (left-named s.shape items c.in_ok-read.read.log c.in_ok-read.read.transactions c.in_ok-read.read.greatest
    c.in_ok-read.read.stopped_by next c.in_ok-read.ensures.read
    (clean-start c.in_ok-read.read.log c.report_of-report.result.clean c.report_of-report.ensures.clean c.if-report.true)
    (none-there c.in_ok-read.read.stopped_by c.is_none.result c.is_none.ensures c.if-is_none.true) c.number_from-next.ensures)

-- nothing of it is written
pub returns-then-is_none-clause-done : goal.returns-then-is_none-clause-done
returns-then-is_none-clause-done g c = λ honest.
    let s : DeviceState = g.D.Device.state c.args.device.now in
    let stopped = c.in_ok-read.read.stopped_by in
    let on = c.in_ok-read.ensures.on (c.flush.ensures.honest honest) in (
      on.0,
      c.in_ok-read.read.greatest,
      left-done s c.in_ok-read.read.superblock.items c.in_ok-read.read.log c.in_ok-read.read.transactions c.in_ok-read.read.greatest stopped
          c.in_ok-read.ensures.read c.in_ok-read.read.tables on.0 on.1 (g.D.Device.state c.read_log.new.device) (g.D.Device.state c.flush.new.self)
          c.number_from-next.result
          (clean-start c.in_ok-read.read.log c.report_of-report.result.clean c.report_of-report.ensures.clean c.if-report.true)
          (none-there stopped c.is_none.result c.is_none.ensures c.if-is_none.true) c.number_from-next.ensures c.read_log.ensures.device.stays
          c.in_ok-flush.ensures.ok,
      subst (λ (n : ℕ). TellsBefore (reading s.disk) on.0 c.report_of-report.result.clean c.report_of-report.result.ends_at n) (sym c.report_of-report.ensures.transactions)
          (read-tells s c.in_ok-read.read.superblock.items c.in_ok-read.read.log c.in_ok-read.read.transactions
          c.in_ok-read.read.greatest stopped c.in_ok-read.ensures.read c.in_ok-read.read.tables on.0 on.1 c.report_of-report.result.clean
          c.report_of-report.result.ends_at c.report_of-report.ensures.clean c.report_of-report.ensures.ends),
    )

-- the device failed before the log was clean
pub returns-in_err-superblock-clause-broken : goal.returns-in_err-superblock-clause-broken
returns-in_err-superblock-clause-broken g c =
    let p = err_from_is_err_and c.from_residual-in_err-superblock.result c.from_residual-in_err-superblock.ensures.1 in
    rw p.1
    (λ honest.
    let on = c.in_ok-read.ensures.on (c.flush.ensures.honest (c.leave_clean.ensures.honest honest)) in
    begun-broken (g.D.Device.state c.args.device.now) c.in_ok-read.read.superblock.items c.in_ok-read.read.log
    c.in_ok-read.read.transactions c.in_ok-read.read.greatest c.in_ok-read.read.stopped_by c.in_ok-read.ensures.read
    c.in_ok-read.read.tables on.0 on.1 (g.D.Device.state c.read_log.new.device) (g.D.Device.state c.flush.new.self)
    (g.D.Device.state c.leave_clean.new.device) c.number_from-next.result c.number_from-next.ensures c.read_log.ensures.device.stays c.in_ok-flush.ensures.ok
    (c.in_err-superblock.ensures.begun honest))

-- or the log read differently
pub returns-in_err-superblock-clause-refused : goal.returns-in_err-superblock-clause-refused
returns-in_err-superblock-clause-refused g c =
    let p = err_from_is_err_and c.from_residual-in_err-superblock.result c.from_residual-in_err-superblock.ensures.1 in
    rw (p.1, p.2)
    (replay-before (g.D.Device.honest c.leave_clean.new.device) (g.D.Device.state c.args.device.now) (g.D.Device.state c.read_log.new.device)
    (g.D.Device.state c.flush.new.self) (g.D.Device.state c.leave_clean.new.device) c.in_ok-read.read.superblock.items
    c.in_ok-read.read.log c.in_ok-read.read.transactions c.in_ok-read.read.greatest c.in_ok-read.read.stopped_by
    c.in_ok-read.read.tables c.in_err-superblock.field-0.0 c.in_ok-read.ensures.read.well c.read_log.ensures.device.stays c.in_ok-flush.ensures.ok
    (c.in_ok-flush.ensures.faults ∙ c.in_ok-read.ensures.faults) c.in_err-superblock.ensures.unmarked
    (λ honest. c.in_ok-read.ensures.on (c.flush.ensures.honest (c.leave_clean.ensures.honest honest))) c.in_err-superblock.ensures.refused)

-- the superblock that is left names the next transaction
pub returns-clause-named : goal.returns-clause-named
returns-clause-named g c =
    let s : DeviceState = g.D.Device.state c.args.device.now in
    let x : DeviceState = g.D.Device.state c.leave_clean.new.device in
    let next : ℕ = c.number_from-next.result in
    let shape : x.shape ≡ s.shape = c.leave_clean.ensures.shape ∙ c.in_ok-flush.ensures.ok.shape ∙ c.read_log.ensures.device.stays.shape in
    subst (λ (b : List ℕ). IsNextNamed x.shape b next) (sym c.in_ok-superblock.ensures.superblock)
    (subst (λ (m : Shape). IsNextNamed m (with_tail c.in_ok-read.read.superblock.items next 0) next) (sym shape)
    (made-named s.shape c.in_ok-read.read.superblock.items c.in_ok-read.read.log c.in_ok-read.read.transactions
    c.in_ok-read.read.greatest c.in_ok-read.read.stopped_by next c.in_ok-read.ensures.read c.number_from-next.ensures))

-- what is taken is home, and the log is clean
pub returns-clause-done : goal.returns-clause-done
returns-clause-done g c = λ honest.
    let s : DeviceState = g.D.Device.state c.args.device.now in
    let x : DeviceState = g.D.Device.state c.leave_clean.new.device in
    let next : ℕ = c.number_from-next.result in
    let stopped = c.in_ok-read.read.stopped_by in
    let due : c.in_ok-read.read.log.s_start ≡ 0 → stopped ≡ None → ⊥ =
    elim c.else-report.branch [
      | else-report-via-then-report+else-is_none w ↦ λ start none. some-there stopped w.is_none.result w.is_none.ensures w.if-is_none.false none
      | else-report-via-else-report w ↦ λ start none. other-start c.in_ok-read.read.log c.report_of-report.result.clean c.report_of-report.ensures.clean w.if-report.false start
    ] in
    let on = c.in_ok-read.ensures.on (c.flush.ensures.honest (c.leave_clean.ensures.honest honest)) in (
      on.0,
      c.in_ok-read.read.greatest,
      subst (λ (b : List ℕ). IsDoneBefore s x stopped b next on.0 c.in_ok-read.read.greatest) (sym c.in_ok-superblock.ensures.superblock)
          (made-done s c.in_ok-read.read.superblock.items c.in_ok-read.read.log c.in_ok-read.read.transactions
          c.in_ok-read.read.greatest stopped c.in_ok-read.ensures.read c.in_ok-read.read.tables on.0 on.1
          (g.D.Device.state c.read_log.new.device) (g.D.Device.state c.flush.new.self) x next c.number_from-next.ensures c.read_log.ensures.device.stays
          c.in_ok-flush.ensures.ok due (c.in_ok-superblock.ensures.made honest)),
      subst (λ (n : ℕ). TellsBefore (reading s.disk) on.0 c.report_of-report.result.clean c.report_of-report.result.ends_at n) (sym c.report_of-report.ensures.transactions)
          (read-tells s c.in_ok-read.read.superblock.items c.in_ok-read.read.log c.in_ok-read.read.transactions
          c.in_ok-read.read.greatest stopped c.in_ok-read.ensures.read c.in_ok-read.read.tables on.0 on.1 c.report_of-report.result.clean
          c.report_of-report.result.ends_at c.report_of-report.ensures.clean c.report_of-report.ensures.ends),
    )
