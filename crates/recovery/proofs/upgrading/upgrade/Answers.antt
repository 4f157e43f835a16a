use Rattle.std.proofs.Common.{◌∙◌, ap, sym}
use Rattle.std.proofs.lemmas.Result.{err_from_is_err_and}
use Rattle.log_model.specs.Superblock.{Super}
use Rattle.block_device.specs.State.{DeviceState}
use Rattle.recovery.proofs.MadeCalls.{stays-made}
use Rattle.recovery.proofs.UpgradeCalls.{begun-after, begun-upgrade-moments, made-upgrade-moments, upgrade-leads}
use Rattle.recovery.proofs.Upgrades.{fields-refused, no-log-refused, reading-refused, upgradable-on}
use Rattle.recovery.specs.Upgrade.{upgrade_calls}
use Rattle.recovery.specs.Upgrade.IsUpgradeBroken.{Writing}
use Rattle.recovery.proofs.upgrading.upgrade.Goals as goal

pub returns-then-blocks-eq0-clause-refused : goal.returns-then-blocks-eq0-clause-refused
returns-then-blocks-eq0-clause-refused g c =
    no-log-refused (g.D.Device.honest c.args.device.now) (g.D.Device.state c.args.device.now) (sym c.blocks-2.ensures ∙ c.if-blocks-eq0.true)

pub returns-in_err-block-clause-refused : goal.returns-in_err-block-clause-refused
returns-in_err-block-clause-refused g c =
    let p = err_from_is_err_and c.from_residual.result c.from_residual.ensures.1 in
    rw (p.1, p.2)
    (reading-refused (g.D.Device.honest c.read_super.new.device) (g.D.Device.state c.args.device.now) (g.D.Device.state c.read_super.new.device)
    c.in_err-block.field-0.0 c.read_super.ensures.device.stays c.in_err-block.ensures.faults)

pub returns-in_err-may_be_upgraded-clause-refused : goal.returns-in_err-may_be_upgraded-clause-refused
returns-in_err-may_be_upgraded-clause-refused g c =
    let p = err_from_is_err_and c.from_residual-in_err-may_be_upgraded.result c.from_residual-in_err-may_be_upgraded.ensures.1 in
    rw (p.1, p.2)
    (fields-refused (g.D.Device.honest c.read_super.new.device) (g.D.Device.state c.args.device.now) (g.D.Device.state c.read_super.new.device)
    c.in_ok-block.block c.in_ok-block.log c.in_err-may_be_upgraded.field-0.0 c.in_ok-block.ensures.well c.in_ok-block.ensures.read
    c.read_super.ensures.device.stays c.in_ok-block.ensures.faults (rw c.fields.ensures at c.in_err-may_be_upgraded.ensures.err))

pub returns-in_err-write_widened-clause-broken : goal.returns-in_err-write_widened-clause-broken
returns-in_err-write_widened-clause-broken g c =
    let s : DeviceState = g.D.Device.state c.args.device.now in
    let p = err_from_is_err_and c.from_residual-in_err-write_widened.result c.from_residual-in_err-write_widened.ensures.1 in
    let may = rw c.fields.ensures at c.in_ok-may_be_upgraded.ensures.ok in
    rw p.1
    (λ honest.
    Writing c.in_ok-block.block
    (upgradable-on s c.in_ok-block.block c.in_ok-block.log c.in_ok-block.ensures.well (c.in_ok-block.ensures.read (c.write_widened.ensures.honest honest)) may.0 may.1)
    (begun-after (upgrade_calls c.in_ok-block.block) s (g.D.Device.state c.read_super.new.device) (g.D.Device.state c.write_widened.new.device)
    c.read_super.ensures.device.stays c.in_err-write_widened.ensures.begun))

pub returns-in_err-write_widened-clause-moments : goal.returns-in_err-write_widened-clause-moments
returns-in_err-write_widened-clause-moments g c = λ honest.
    let s : DeviceState = g.D.Device.state c.args.device.now in
    let may = rw c.fields.ensures at c.in_ok-may_be_upgraded.ensures.ok in
    begun-upgrade-moments s.shape c.in_ok-block.block s (g.D.Device.state c.write_widened.new.device)
    (upgradable-on s c.in_ok-block.block c.in_ok-block.log c.in_ok-block.ensures.well (c.in_ok-block.ensures.read (c.write_widened.ensures.honest honest)) may.0 may.1)
    (begun-after (upgrade_calls c.in_ok-block.block) s (g.D.Device.state c.read_super.new.device) (g.D.Device.state c.write_widened.new.device)
    c.read_super.ensures.device.stays c.in_err-write_widened.ensures.begun)

pub returns-clause-upgraded : goal.returns-clause-upgraded
returns-clause-upgraded g c = λ honest.
    let s : DeviceState = g.D.Device.state c.args.device.now in
    let may = rw c.fields.ensures at c.in_ok-may_be_upgraded.ensures.ok in
    record {
      block = c.in_ok-block.block;
      on = upgradable-on s c.in_ok-block.block c.in_ok-block.log c.in_ok-block.ensures.well (c.in_ok-block.ensures.read (c.write_widened.ensures.honest honest)) may.0 may.1;
      made =
          stays-made (upgrade_calls c.in_ok-block.block) s (g.D.Device.state c.read_super.new.device) (g.D.Device.state c.write_widened.new.device)
          c.read_super.ensures.device.stays c.in_ok-write_widened.ensures.made;
      sequence_is = ap (λ (f : Super). f.s_sequence) (c.behind-log.view_is ∙ c.fields-2.ensures ∙ c.in_ok-block.ensures.well.fields_are);
    }

pub returns-clause-run : goal.returns-clause-run
returns-clause-run g c = λ honest.
    let s : DeviceState = g.D.Device.state c.args.device.now in
    let may = rw c.fields.ensures at c.in_ok-may_be_upgraded.ensures.ok in
    let made =
    stays-made (upgrade_calls c.in_ok-block.block) s (g.D.Device.state c.read_super.new.device) (g.D.Device.state c.write_widened.new.device)
    c.read_super.ensures.device.stays c.in_ok-write_widened.ensures.made in (
      c.in_ok-block.block,
      upgrade-leads s.shape c.in_ok-block.block s.disk (g.D.Device.state c.write_widened.new.device).disk
          (upgradable-on s c.in_ok-block.block c.in_ok-block.log c.in_ok-block.ensures.well (c.in_ok-block.ensures.read (c.write_widened.ensures.honest honest)) may.0 may.1)
          made.disk,
    )

pub returns-clause-moments : goal.returns-clause-moments
returns-clause-moments g c = λ honest.
    let s : DeviceState = g.D.Device.state c.args.device.now in
    let may = rw c.fields.ensures at c.in_ok-may_be_upgraded.ensures.ok in
    made-upgrade-moments s.shape c.in_ok-block.block s (g.D.Device.state c.write_widened.new.device)
    (upgradable-on s c.in_ok-block.block c.in_ok-block.log c.in_ok-block.ensures.well (c.in_ok-block.ensures.read (c.write_widened.ensures.honest honest)) may.0 may.1)
    (stays-made (upgrade_calls c.in_ok-block.block) s (g.D.Device.state c.read_super.new.device) (g.D.Device.state c.write_widened.new.device)
    c.read_super.ensures.device.stays c.in_ok-write_widened.ensures.made)
