use Rattle.std.proofs.Common.{◌≡◌, ◌∙◌, ℕ, List, sym, subst}
use Rattle.std.specs.Prelude.{length}
use Rattle.std.proofs.lemmas.Result.{err_from_is_err_and}
use Rattle.log_model.specs.declared.log.Text.{Text}
use Rattle.journal_model.specs.Disk.{Disk, Shape, reading}
use Rattle.block_device.specs.State.{DeviceState}
use Rattle.block_device.proofs.OneCall.{stays-joins}
use Rattle.log_scan.specs.Scanning.{IsChainOf}
use Rattle.recovery.specs.Gather.{tables_of}
use Rattle.recovery.specs.Opening.{IsTested, IsWellRead}
use Rattle.recovery.proofs.Examining.{examined-on, gather-refused, memory-refused, on-stays, reading-refused, test-refused, tested-sound}
use Rattle.recovery.proofs.examine.examine.Goals as goal

pub returns-in_err-block-clause-refused : goal.returns-in_err-block-clause-refused
returns-in_err-block-clause-refused g c =
    let p = err_from_is_err_and c.from_residual.result c.from_residual.ensures.1 in
    rw (p.1, p.2)
    (reading-refused (g.D.Device.honest c.read_super.new.device) (g.D.Device.state c.args.device.now) (g.D.Device.state c.read_super.new.device)
    c.in_err-block.field-0.0 c.read_super.ensures.device.stays c.in_err-block.ensures.faults)

pub returns-in_err-transactions-clause-refused : goal.returns-in_err-transactions-clause-refused
returns-in_err-transactions-clause-refused g c =
    let p = err_from_is_err_and c.from_residual-in_err-transactions.result c.from_residual-in_err-transactions.ensures.1 in
    rw (p.1, p.2)
    (test-refused (g.D.Device.honest c.test_log.new.device) (g.D.Device.state c.args.device.now) (g.D.Device.state c.read_super.new.device)
    (g.D.Device.state c.test_log.new.device) c.in_ok-block.block c.in_ok-block.log c.in_err-transactions.field-0.0
    c.in_ok-block.ensures.well (λ h. c.in_ok-block.ensures.read (c.test_log.ensures.device.honest h)) c.read_super.ensures.device.stays
    c.test_log.ensures.device.stays c.in_ok-block.ensures.faults c.in_err-transactions.ensures.refused)

pub returns-in_err-superblock-clause-refused : goal.returns-in_err-superblock-clause-refused
returns-in_err-superblock-clause-refused g c =
    let p = err_from_is_err_and c.from_residual-in_err-superblock.result c.from_residual-in_err-superblock.ensures.1 in
    let s : DeviceState = g.D.Device.state c.args.device.now in
    let t : DeviceState = g.D.Device.state c.read_super.new.device in
    let u : DeviceState = g.D.Device.state c.test_log.new.device in
    rw p.1
    (memory-refused (g.D.Device.honest c.test_log.new.device) s u _ (stays-joins s t u c.read_super.ensures.device.stays c.test_log.ensures.device.stays)
    (c.in_ok-transactions.ensures.faults ∙ c.in_ok-block.ensures.faults) p.2
    (λ trust small. tested-sound (g.D.Device.honest c.test_log.new.device) s t c.in_ok-block.block c.in_ok-block.log c.in_ok-transactions.transactions
    c.in_ok-block.ensures.well (λ h. c.in_ok-block.ensures.read (c.test_log.ensures.device.honest h)) c.read_super.ensures.device.stays
    c.in_ok-transactions.ensures.tested c.in_ok-transactions.ensures.number trust))

pub returns-in_err-tables-clause-refused : goal.returns-in_err-tables-clause-refused
returns-in_err-tables-clause-refused g c =
    let p = err_from_is_err_and c.from_residual-in_err-tables.result c.from_residual-in_err-tables.ensures.1 in
    let s : DeviceState = g.D.Device.state c.args.device.now in
    let t : DeviceState = g.D.Device.state c.read_super.new.device in
    rw (p.1, p.2)
    (gather-refused (g.D.Device.honest c.gather.new.device) s t
    (g.D.Device.state c.test_log.new.device) (g.D.Device.state c.gather.new.device) c.in_ok-block.block c.in_ok-block.log c.in_ok-transactions.transactions
    c.in_err-tables.field-0.0 c.in_ok-block.ensures.well c.read_super.ensures.device.stays c.test_log.ensures.device.stays c.gather.ensures.device.stays
    (c.in_ok-transactions.ensures.faults ∙ c.in_ok-block.ensures.faults) (λ h. c.in_ok-transactions.ensures.tested (c.gather.ensures.device.honest h))
    (tested-sound (g.D.Device.honest c.gather.new.device) s t c.in_ok-block.block c.in_ok-block.log c.in_ok-transactions.transactions
    c.in_ok-block.ensures.well (λ h. c.in_ok-block.ensures.read (c.test_log.ensures.device.honest (c.gather.ensures.device.honest h))) c.read_super.ensures.device.stays
    (λ h. c.in_ok-transactions.ensures.tested (c.gather.ensures.device.honest h)) c.in_ok-transactions.ensures.number)
    c.in_err-tables.ensures.refused)

pub returns-clause-examined : goal.returns-clause-examined
returns-clause-examined g c =
    let copied = c.in_ok-superblock.ensures.items_if_clones_equal (λ x y same. same) ∙ c.bytes.ensures in
    record {
      well = subst (λ (b : List ℕ). IsWellRead (g.D.Device.state c.args.device.now).shape b c.in_ok-block.log) (sym copied) c.in_ok-block.ensures.well;
      number = c.in_ok-transactions.ensures.number;
      clean = c.in_ok-transactions.ensures.clean;
    }

pub returns-clause-on : goal.returns-clause-on
returns-clause-on g c = λ honest.
    let s : DeviceState = g.D.Device.state c.args.device.now in
    let t : DeviceState = g.D.Device.state c.read_super.new.device in
    let u : DeviceState = g.D.Device.state c.test_log.new.device in
    let tested = c.gather.ensures.device.honest honest in
    let copied = c.in_ok-superblock.ensures.items_if_clones_equal (λ x y same. same) ∙ c.bytes.ensures in
    examined-on s.shape s.disk c.in_ok-superblock.superblock.items c.in_ok-block.log c.in_ok-transactions.transactions c.in_ok-tables.tables
    (subst (λ (b : List ℕ). IsWellRead s.shape b c.in_ok-block.log) (sym copied) c.in_ok-block.ensures.well)
    (copied ∙ c.in_ok-block.ensures.read (c.test_log.ensures.device.honest tested))
    (on-stays (λ (m : Shape) (d : Disk). IsTested c.in_ok-block.log m.home_blocks (reading d) c.in_ok-transactions.transactions) s t
    c.read_super.ensures.device.stays (c.in_ok-transactions.ensures.tested tested))
    c.in_ok-transactions.ensures.number
    (on-stays (λ (m : Shape) (d : Disk). (texts : List Text) → IsChainOf c.in_ok-block.log m.home_blocks (reading d) texts → c.in_ok-transactions.transactions ≡ length texts → c.in_ok-tables.tables ≡ tables_of c.in_ok-block.log.s_sequence texts) s u
    (stays-joins s t u c.read_super.ensures.device.stays c.test_log.ensures.device.stays) (c.in_ok-tables.ensures.tables honest))
