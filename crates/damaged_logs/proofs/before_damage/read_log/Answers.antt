use Rattle.std.proofs.Common.{◌∙◌, ℕ, List, arith, subst, sym}
use Rattle.std.proofs.lemmas.Result.{err_from_is_err_and}
use Rattle.block_device.specs.State.{DeviceState}
use Rattle.recovery.specs.Opening.{IsWellRead}
use Rattle.damaged_logs.proofs.BeforeReading.{before-later, gather-before, numbers-before, read-on, reading-before, want-before}
use Rattle.damaged_logs.proofs.before_damage.read_log.Goals as goal

-- block 0 is refused, or could not be read
pub returns-in_err-block-clause-refused : goal.returns-in_err-block-clause-refused
returns-in_err-block-clause-refused g c =
    let p = err_from_is_err_and c.from_residual.result c.from_residual.ensures.1 in
    rw (p.1, p.2)
    (reading-before (g.D.Device.honest c.read_super.new.device) (g.D.Device.state c.args.device.now) (g.D.Device.state c.read_super.new.device)
    c.in_err-block.field-0.0 c.read_super.ensures.device.stays c.in_err-block.ensures.faults)

-- the ring could not be read
pub returns-in_err-found-clause-refused : goal.returns-in_err-found-clause-refused
returns-in_err-found-clause-refused g c =
    let p = err_from_is_err_and c.from_residual-in_err-found.result c.from_residual-in_err-found.ensures.1 in
    rw (p.1, p.2)
    (before-later (g.D.Device.honest c.survey_ring.new.device) (g.D.Device.state c.args.device.now) (g.D.Device.state c.read_super.new.device)
    (g.D.Device.state c.survey_ring.new.device) c.in_err-found.field-0.0 c.in_ok-block.ensures.faults c.in_err-found.ensures.faults)

-- no number is left
pub returns-then-found-from-clause-refused : goal.returns-then-found-from-clause-refused
returns-then-found-from-clause-refused g c =
    numbers-before (g.D.Device.honest c.survey_ring.new.device) (g.D.Device.state c.args.device.now) (g.D.Device.state c.read_super.new.device)
    (g.D.Device.state c.survey_ring.new.device) c.in_ok-block.block c.in_ok-block.log c.in_ok-found.found.transactions c.in_ok-found.found.greatest
    c.in_ok-found.found.stopped_by c.in_ok-block.ensures.well (λ h. c.in_ok-block.ensures.read (c.survey_ring.ensures.device.honest h)) c.read_super.ensures.device.stays
    c.survey_ring.ensures.device.stays (c.in_ok-found.ensures.faults ∙ c.in_ok-block.ensures.faults) (let limit = c.from.ensures in omega arith) c.in_ok-found.ensures.surveyed

-- memory ran out
pub returns-in_err-superblock-clause-refused : goal.returns-in_err-superblock-clause-refused
returns-in_err-superblock-clause-refused g c =
    let p = err_from_is_err_and c.from_residual-in_err-superblock.result c.from_residual-in_err-superblock.ensures.1 in
    rw p.1
    (want-before (g.D.Device.honest c.survey_ring.new.device) (g.D.Device.state c.args.device.now) (g.D.Device.state c.read_super.new.device)
    (g.D.Device.state c.survey_ring.new.device) c.in_ok-block.block c.in_ok-block.log c.in_ok-found.found.transactions c.in_ok-found.found.greatest
    c.in_ok-found.found.stopped_by _ c.in_ok-block.ensures.well (λ h. c.in_ok-block.ensures.read (c.survey_ring.ensures.device.honest h)) c.read_super.ensures.device.stays
    c.survey_ring.ensures.device.stays (c.in_ok-found.ensures.faults ∙ c.in_ok-block.ensures.faults) (let limit = c.from.ensures in omega arith)
    c.in_ok-found.ensures.surveyed p.2)

-- what was surveyed could not be gathered
pub returns-in_err-tables-clause-refused : goal.returns-in_err-tables-clause-refused
returns-in_err-tables-clause-refused g c =
    let p = err_from_is_err_and c.from_residual-in_err-tables.result c.from_residual-in_err-tables.ensures.1 in
    rw (p.1, p.2)
    (gather-before (g.D.Device.honest c.gather.new.device) (g.D.Device.state c.args.device.now) (g.D.Device.state c.read_super.new.device)
    (g.D.Device.state c.survey_ring.new.device) (g.D.Device.state c.gather.new.device) c.in_ok-block.block c.in_ok-block.log c.in_ok-found.found.transactions
    c.in_ok-found.found.greatest c.in_ok-found.found.stopped_by c.in_err-tables.field-0.0 c.in_ok-block.ensures.well
    (λ h. c.in_ok-block.ensures.read (c.survey_ring.ensures.device.honest (c.gather.ensures.device.honest h))) c.read_super.ensures.device.stays c.survey_ring.ensures.device.stays
    c.gather.ensures.device.stays (c.in_ok-found.ensures.faults ∙ c.in_ok-block.ensures.faults) (let limit = c.from.ensures in omega arith)
    (λ h. c.in_ok-found.ensures.surveyed (c.gather.ensures.device.honest h)) c.in_err-tables.ensures.refused)

-- the log is read
pub returns-clause-read : goal.returns-clause-read
returns-clause-read g c =
    let copied = c.in_ok-superblock.ensures.items_if_clones_equal (λ x y same. same) ∙ c.bytes.ensures in
    record {
      well = subst (λ (b : List ℕ). IsWellRead (g.D.Device.state c.args.device.now).shape b c.in_ok-block.log) (sym copied) c.in_ok-block.ensures.well;
      number = let limit = c.from.ensures in omega arith;
      end = c.in_ok-found.ensures.end;
      clean = c.in_ok-found.ensures.clean;
      alone = c.in_ok-found.ensures.alone;
    }

-- it stands on the disk
pub returns-clause-on : goal.returns-clause-on
returns-clause-on g c = λ honest.
    let s : DeviceState = g.D.Device.state c.args.device.now in
    let copied = c.in_ok-superblock.ensures.items_if_clones_equal (λ x y same. same) ∙ c.bytes.ensures in
    let surveyed = c.gather.ensures.device.honest honest in
    read-on s (g.D.Device.state c.read_super.new.device) (g.D.Device.state c.survey_ring.new.device) c.in_ok-superblock.superblock.items c.in_ok-block.block
    c.in_ok-block.log c.in_ok-found.found.transactions c.in_ok-tables.tables c.in_ok-found.found.greatest c.in_ok-found.found.stopped_by c.in_ok-block.ensures.well copied
    (c.in_ok-block.ensures.read (c.survey_ring.ensures.device.honest surveyed)) c.read_super.ensures.device.stays c.survey_ring.ensures.device.stays
    (c.in_ok-found.ensures.surveyed surveyed) (c.in_ok-tables.ensures.tables honest)
