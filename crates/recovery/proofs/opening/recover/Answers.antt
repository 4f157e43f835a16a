use Rattle.std.proofs.Common.{◌≡◌, ◌≢◌, ◌∙◌, ◌+◌, List, ℕ, ap, sym, subst, length, arith}
use Rattle.std.proofs.lemmas.List.{with_items_is}
use Rattle.std.proofs.lemmas.Result.{err_from_is_err_and}
use Rattle.log_model.specs.declared.log.Text.{Text}
use Rattle.journal_model.specs.Disk.{Shape}
use Rattle.log_model.specs.Superblock.{Super, with_tail}
use Rattle.block_device.specs.State.{DeviceState}
use Rattle.recovery.specs.Calls.{HasBegun, HasMade, cleaning_calls, writes_home}
use Rattle.recovery.specs.Gather.{TablesValue}
use Rattle.recovery.specs.HomeCopies.{home_copies}
use Rattle.recovery.specs.Opening.{IsDoneWith}
use Rattle.recovery.specs.Values.{IsNextNamed}
use Rattle.recovery.proofs.Recovering.{clean-done, clean-named, clean-start, cleaning-broken, copies-broken, device-refused, examined-tells, of-found, other-start, replay-refused, started-done, tail-named}
use Rattle.recovery.proofs.opening.recover.Goals as goal

pub returns-then-report-clause-done : goal.returns-then-report-clause-done
returns-then-report-clause-done g c = λ honest.
    let log : Super = c.in_ok-superblock.field-0.log in
    let on = c.in_ok-superblock.ensures.on (c.flush.ensures.honest honest) in
    clean-done (g.D.Device.state c.args.device.now) c.in_ok-superblock.field-0.superblock.items log c.in_ok-superblock.field-0.transactions
    c.in_ok-superblock.field-0.tables on.0 on.1 (g.D.Device.state c.examine.new.device) (g.D.Device.state c.flush.new.self) c.number_from-next.result
    (clean-start log c.is_clean.result c.is_clean.ensures c.if-report.true)
    (c.number_from-next.ensures ∙ ap (λ (n : ℕ). n + c.in_ok-superblock.field-0.transactions + 1) c.first_number.ensures.value) c.examine.ensures.device.stays
    c.in_ok-flush.ensures.ok

pub returns-then-report-clause-named : goal.returns-then-report-clause-named
returns-then-report-clause-named g c =
    let s : DeviceState = g.D.Device.state c.args.device.now in
    let u : DeviceState = g.D.Device.state c.flush.new.self in
    let items : List ℕ = c.in_ok-superblock.field-0.superblock.items in
    let next : ℕ = c.number_from-next.result in
    let shape : u.shape ≡ s.shape = c.in_ok-flush.ensures.ok.shape ∙ c.examine.ensures.device.stays.shape in
    subst (λ (m : Shape). IsNextNamed m items next) (sym shape)
    (clean-named s.shape items c.in_ok-superblock.field-0.log c.in_ok-superblock.field-0.transactions next c.in_ok-superblock.ensures.examined
    (clean-start c.in_ok-superblock.field-0.log c.is_clean.result c.is_clean.ensures c.if-report.true)
    (c.number_from-next.ensures ∙ ap (λ (n : ℕ). n + c.in_ok-superblock.field-0.transactions + 1) c.first_number.ensures.value))

pub returns-then-report-clause-report : goal.returns-then-report-clause-report
returns-then-report-clause-report g c = λ honest.
    let on = c.in_ok-superblock.ensures.on (c.flush.ensures.honest honest) in
    examined-tells (g.D.Device.state c.args.device.now) c.in_ok-superblock.field-0.superblock.items c.in_ok-superblock.field-0.log
    c.in_ok-superblock.field-0.transactions c.in_ok-superblock.field-0.tables on.0 on.1 c.is_clean.result
    (c.first_number.result + c.in_ok-superblock.field-0.transactions) c.is_clean.ensures
    (ap (λ (n : ℕ). n + c.in_ok-superblock.field-0.transactions) c.first_number.ensures.value)

pub returns-in_err-replay-clause-refused : goal.returns-in_err-replay-clause-refused
returns-in_err-replay-clause-refused g c =
    let p = err_from_is_err_and c.from_residual-in_err-replay.result c.from_residual-in_err-replay.ensures.1 in
    rw (p.1, p.2)
    (replay-refused (g.D.Device.honest c.replay.new.device) (g.D.Device.state c.args.device.now) (g.D.Device.state c.examine.new.device)
    (g.D.Device.state c.flush.new.self) (g.D.Device.state c.replay.new.device) c.in_ok-superblock.field-0.superblock.items c.in_ok-superblock.field-0.log
    c.in_ok-superblock.field-0.transactions c.in_ok-superblock.field-0.tables c.in_err-replay.field-0.0 c.in_ok-superblock.ensures.examined.well
    c.examine.ensures.device.stays c.in_ok-flush.ensures.ok (c.in_ok-flush.ensures.faults ∙ c.in_ok-superblock.ensures.faults) c.replay.ensures.log
    (λ honest. c.in_ok-superblock.ensures.on (c.flush.ensures.honest (c.replay.ensures.honest honest)))
    (other-start c.in_ok-superblock.field-0.log c.is_clean.result c.is_clean.ensures c.if-report.false) c.in_err-replay.ensures.refused)

-- some copies are home
pub returns-in_err-replay-clause-broken : goal.returns-in_err-replay-clause-broken
returns-in_err-replay-clause-broken g c =
    let p = err_from_is_err_and c.from_residual-in_err-replay.result c.from_residual-in_err-replay.ensures.1 in
    let s : DeviceState = g.D.Device.state c.args.device.now in
    let t : DeviceState = g.D.Device.state c.examine.new.device in
    let u : DeviceState = g.D.Device.state c.flush.new.self in
    let w : DeviceState = g.D.Device.state c.replay.new.device in
    let block : List ℕ = c.in_ok-superblock.field-0.superblock.items in
    let log : Super = c.in_ok-superblock.field-0.log in
    let count : ℕ = c.in_ok-superblock.field-0.transactions in
    let tables : TablesValue = c.in_ok-superblock.field-0.tables in
    rw p.1
    (λ honest.
    let on = c.in_ok-superblock.ensures.on (c.flush.ensures.honest (c.replay.ensures.honest honest)) in
    let started : log.s_start ≢ 0 = other-start log c.is_clean.result c.is_clean.ensures c.if-report.false in
    copies-broken s block log count tables on.0 on.1 t u w c.number_from-next.result started
    (c.number_from-next.ensures ∙ ap (λ (n : ℕ). n + c.in_ok-superblock.field-0.transactions + 1) c.first_number.ensures.value)
    c.examine.ensures.device.stays c.in_ok-flush.ensures.ok
    (of-found s block log count tables on.0 on.1 (λ (texts : List Text). HasBegun (writes_home (home_copies texts)) u w) t u started
    c.examine.ensures.device.stays c.in_ok-flush.ensures.ok (c.in_err-replay.ensures.begun honest)))

pub returns-in_err-clean_log-clause-refused : goal.returns-in_err-clean_log-clause-refused
returns-in_err-clean_log-clause-refused g c =
    let p = err_from_is_err_and c.from_residual-in_err-clean_log.result c.from_residual-in_err-clean_log.ensures.1 in
    rw (p.1, p.2)
    (device-refused (g.D.Device.honest c.clean_log.new.device) (g.D.Device.state c.args.device.now) (g.D.Device.state c.replay.new.device)
    (g.D.Device.state c.clean_log.new.device) c.in_err-clean_log.field-0.0
    (c.in_ok-replay.ensures.faults ∙ c.in_ok-flush.ensures.faults ∙ c.in_ok-superblock.ensures.faults) c.in_err-clean_log.ensures.faults)

-- all copies are home
pub returns-in_err-clean_log-clause-broken : goal.returns-in_err-clean_log-clause-broken
returns-in_err-clean_log-clause-broken g c =
    let p = err_from_is_err_and c.from_residual-in_err-clean_log.result c.from_residual-in_err-clean_log.ensures.1 in
    let s : DeviceState = g.D.Device.state c.args.device.now in
    let t : DeviceState = g.D.Device.state c.examine.new.device in
    let u : DeviceState = g.D.Device.state c.flush.new.self in
    let w : DeviceState = g.D.Device.state c.replay.new.device in
    let x : DeviceState = g.D.Device.state c.clean_log.new.device in
    let block : List ℕ = c.in_ok-superblock.field-0.superblock.items in
    let log : Super = c.in_ok-superblock.field-0.log in
    let count : ℕ = c.in_ok-superblock.field-0.transactions in
    let tables : TablesValue = c.in_ok-superblock.field-0.tables in
    let next : ℕ = c.number_from-next.result in
    rw p.1
    (λ honest.
    let replayed = c.clean_log.ensures.honest honest in
    let on = c.in_ok-superblock.ensures.on (c.flush.ensures.honest (c.replay.ensures.honest replayed)) in
    let started : log.s_start ≢ 0 = other-start log c.is_clean.result c.is_clean.ensures c.if-report.false in
    cleaning-broken s block log count tables on.0 on.1 t u w x next started
    (c.number_from-next.ensures ∙ ap (λ (n : ℕ). n + c.in_ok-superblock.field-0.transactions + 1) c.first_number.ensures.value)
    c.examine.ensures.device.stays c.in_ok-flush.ensures.ok
    (of-found s block log count tables on.0 on.1 (λ (texts : List Text). HasMade (writes_home (home_copies texts)) u w) t u started
    c.examine.ensures.device.stays c.in_ok-flush.ensures.ok (c.in_ok-replay.ensures.made replayed))
    (subst (λ (b : List ℕ). HasBegun (cleaning_calls (with_tail b next 0)) w x) c.deref_mut.ensures.value c.in_err-clean_log.ensures.begun))

pub returns-clause-named : goal.returns-clause-named
returns-clause-named g c =
    let s : DeviceState = g.D.Device.state c.args.device.now in
    let x : DeviceState = g.D.Device.state c.clean_log.new.device in
    let items : List ℕ = c.in_ok-superblock.field-0.superblock.items in
    let next : ℕ = c.number_from-next.result in
    let size : length c.clean_log.new.superblock ≡ c.in_ok-superblock.field-0.superblock.len =
    let new = c.clean_log.auto.superblock in
    let old = c.deref_mut.ensures.len in
    omega arith in
    let block = with_items_is c.in_ok-superblock.field-0.superblock c.clean_log.new.superblock size ∙ c.in_ok-clean_log.ensures.superblock
    ∙ ap (λ (b : List ℕ). with_tail b next 0) c.deref_mut.ensures.value in
    let shape : x.shape ≡ s.shape =
    c.clean_log.ensures.shape ∙ c.replay.ensures.shape ∙ c.in_ok-flush.ensures.ok.shape ∙ c.examine.ensures.device.stays.shape in
    subst (λ (b : List ℕ). IsNextNamed x.shape b next) (sym block)
    (subst (λ (m : Shape). IsNextNamed m (with_tail items next 0) next) (sym shape)
    (tail-named s.shape items c.in_ok-superblock.field-0.log c.in_ok-superblock.field-0.transactions next c.in_ok-superblock.ensures.examined
    (c.number_from-next.ensures ∙ ap (λ (n : ℕ). n + c.in_ok-superblock.field-0.transactions + 1) c.first_number.ensures.value)))

pub returns-clause-done : goal.returns-clause-done
returns-clause-done g c = λ honest.
    let s : DeviceState = g.D.Device.state c.args.device.now in
    let t : DeviceState = g.D.Device.state c.examine.new.device in
    let u : DeviceState = g.D.Device.state c.flush.new.self in
    let w : DeviceState = g.D.Device.state c.replay.new.device in
    let x : DeviceState = g.D.Device.state c.clean_log.new.device in
    let items : List ℕ = c.in_ok-superblock.field-0.superblock.items in
    let log : Super = c.in_ok-superblock.field-0.log in
    let count : ℕ = c.in_ok-superblock.field-0.transactions in
    let tables : TablesValue = c.in_ok-superblock.field-0.tables in
    let next : ℕ = c.number_from-next.result in
    let size : length c.clean_log.new.superblock ≡ c.in_ok-superblock.field-0.superblock.len =
    let new = c.clean_log.auto.superblock in
    let old = c.deref_mut.ensures.len in
    omega arith in
    let block = with_items_is c.in_ok-superblock.field-0.superblock c.clean_log.new.superblock size ∙ c.in_ok-clean_log.ensures.superblock
    ∙ ap (λ (b : List ℕ). with_tail b next 0) c.deref_mut.ensures.value in
    let replayed = c.clean_log.ensures.honest honest in
    let on = c.in_ok-superblock.ensures.on (c.flush.ensures.honest (c.replay.ensures.honest replayed)) in
    let started : log.s_start ≢ 0 = other-start log c.is_clean.result c.is_clean.ensures c.if-report.false in
    subst (λ (b : List ℕ). IsDoneWith s x b next) (sym block)
    (started-done s items log count tables on.0 on.1 t u w x next started
    (c.number_from-next.ensures ∙ ap (λ (n : ℕ). n + c.in_ok-superblock.field-0.transactions + 1) c.first_number.ensures.value)
    c.examine.ensures.device.stays c.in_ok-flush.ensures.ok
    (of-found s items log count tables on.0 on.1 (λ (texts : List Text). HasMade (writes_home (home_copies texts)) u w) t u started
    c.examine.ensures.device.stays c.in_ok-flush.ensures.ok (c.in_ok-replay.ensures.made replayed))
    (subst (λ (b : List ℕ). HasMade (cleaning_calls (with_tail b next 0)) w x) c.deref_mut.ensures.value c.in_ok-clean_log.ensures.made))

pub returns-clause-report : goal.returns-clause-report
returns-clause-report g c = λ honest.
    let on = c.in_ok-superblock.ensures.on (c.flush.ensures.honest (c.replay.ensures.honest (c.clean_log.ensures.honest honest))) in
    examined-tells (g.D.Device.state c.args.device.now) c.in_ok-superblock.field-0.superblock.items c.in_ok-superblock.field-0.log
    c.in_ok-superblock.field-0.transactions c.in_ok-superblock.field-0.tables on.0 on.1 c.is_clean.result
    (c.first_number.result + c.in_ok-superblock.field-0.transactions) c.is_clean.ensures
    (ap (λ (n : ℕ). n + c.in_ok-superblock.field-0.transactions) c.first_number.ensures.value)
