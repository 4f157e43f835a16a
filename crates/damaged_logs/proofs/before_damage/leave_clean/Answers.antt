use Rattle.std.proofs.Common.{◌≡◌, ◌∙◌, [], List, ℕ, ap, arith, inl, subst}
use Rattle.std.specs.Prelude.{length}
use Rattle.std.proofs.lemmas.List.{with_items_is}
use Rattle.std.proofs.lemmas.Result.{err_from_is_err_and}
use Rattle.journal_model.specs.Disk.{reading}
use Rattle.log_model.specs.declared.log.Text.{Text}
use Rattle.log_model.specs.Superblock.{with_tail}
use Rattle.block_device.specs.State.{DeviceState}
use Rattle.recovery.specs.Calls.{HasBegun, HasMade, cleaning_calls, writes_home}
use Rattle.recovery.specs.HomeCopies.{home_copies}
use Rattle.recovery.proofs.Examining.{later-failure}
use Rattle.recovery.proofs.MadeCalls.{begun-front, begun-stays, made-begun, made-joins, made-none}
use Rattle.damaged_logs.proofs.BeforeRecovering.{held-made}
use Rattle.damaged_logs.proofs.before_damage.leave_clean.Goals as goal

-- some copies are home
pub returns-in_err-replay-clause-begun : goal.returns-in_err-replay-clause-begun
returns-in_err-replay-clause-begun g c =
    let p = err_from_is_err_and c.from_residual.result c.from_residual.ensures.1 in
    let u : DeviceState = g.D.Device.state c.args.device.now in
    let w : DeviceState = g.D.Device.state c.replay.new.device in
    rw p.1
    (λ h texts holds number are.
    begun-front (writes_home (home_copies texts)) (cleaning_calls (with_tail c.args.read.superblock.items c.args.next 0)) u w
    (held-made c.args.read.log u.shape.home_blocks (reading u.disk) c.args.read.transactions c.args.read.tables
    (λ (ts : List Text). HasBegun (writes_home (home_copies ts)) u w) texts holds number are (c.in_err-replay.ensures.begun h)
    (λ none. begun-stays [] u w (c.replay.ensures.none none))))

-- all copies are home, and the device failed before the log was clean
pub returns-in_err-clean_log-clause-begun : goal.returns-in_err-clean_log-clause-begun
returns-in_err-clean_log-clause-begun g c =
    let p = err_from_is_err_and c.from_residual-in_err-clean_log.result c.from_residual-in_err-clean_log.ensures.1 in
    let u : DeviceState = g.D.Device.state c.args.device.now in
    let w : DeviceState = g.D.Device.state c.replay.new.device in
    let x : DeviceState = g.D.Device.state c.clean_log.new.device in
    rw p.1
    (λ h texts holds number are.
    made-begun (writes_home (home_copies texts)) (cleaning_calls (with_tail c.args.read.superblock.items c.args.next 0)) u w x
    (held-made c.args.read.log u.shape.home_blocks (reading u.disk) c.args.read.transactions c.args.read.tables
    (λ (ts : List Text). HasMade (writes_home (home_copies ts)) u w) texts holds number are (c.in_ok-replay.ensures.made (c.clean_log.ensures.honest h))
    (λ none. made-none u w (c.replay.ensures.none none)))
    (subst (λ (b : List ℕ). HasBegun (cleaning_calls (with_tail b c.args.next 0)) w x) c.deref_mut.ensures.value c.in_err-clean_log.ensures.begun))

-- the device failed, or the log read differently
pub returns-in_err-clean_log-clause-refused : goal.returns-in_err-clean_log-clause-refused
returns-in_err-clean_log-clause-refused g c =
    let p = err_from_is_err_and c.from_residual-in_err-clean_log.result c.from_residual-in_err-clean_log.ensures.1 in
    rw (p.1, p.2)
    (inl (later-failure (g.D.Device.state c.args.device.now) (g.D.Device.state c.replay.new.device) (g.D.Device.state c.clean_log.new.device)
    c.in_err-clean_log.field-0.0 c.in_ok-replay.ensures.faults c.in_err-clean_log.ensures.faults))

-- only a failed device may have written to the log
pub returns-in_err-clean_log-clause-unmarked : goal.returns-in_err-clean_log-clause-unmarked
returns-in_err-clean_log-clause-unmarked g c =
    let p = err_from_is_err_and c.from_residual-in_err-clean_log.result c.from_residual-in_err-clean_log.ensures.1 in
    rw (p.1, p.2) (λ other. absurd (other c.in_err-clean_log.ensures.faults.0))

-- the log is clean
pub returns-clause-superblock : goal.returns-clause-superblock
returns-clause-superblock g c =
    let size : length c.clean_log.new.superblock ≡ c.args.read.superblock.len =
    let new = c.clean_log.auto.superblock in
    let old = c.deref_mut.ensures.len in
    omega arith in
    with_items_is c.args.read.superblock c.clean_log.new.superblock size ∙ c.in_ok-clean_log.ensures.superblock
    ∙ ap (λ (b : List ℕ). with_tail b c.args.next 0) c.deref_mut.ensures.value

pub returns-clause-made : goal.returns-clause-made
returns-clause-made g c = λ h texts holds number are.
    let u : DeviceState = g.D.Device.state c.args.device.now in
    let w : DeviceState = g.D.Device.state c.replay.new.device in
    let x : DeviceState = g.D.Device.state c.clean_log.new.device in
    made-joins (writes_home (home_copies texts)) (cleaning_calls (with_tail c.args.read.superblock.items c.args.next 0)) u w x
    (held-made c.args.read.log u.shape.home_blocks (reading u.disk) c.args.read.transactions c.args.read.tables
    (λ (ts : List Text). HasMade (writes_home (home_copies ts)) u w) texts holds number are (c.in_ok-replay.ensures.made (c.clean_log.ensures.honest h))
    (λ none. made-none u w (c.replay.ensures.none none)))
    (subst (λ (b : List ℕ). HasMade (cleaning_calls (with_tail b c.args.next 0)) w x) c.deref_mut.ensures.value c.in_ok-clean_log.ensures.made)
