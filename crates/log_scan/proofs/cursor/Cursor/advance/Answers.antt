use Rattle.std.proofs.Common.{ℕ, ◌+◌, sym, subst}
use Rattle.journal_model.specs.Disk.{reading}
use Rattle.log_model.specs.Opening.{layout_of}
use Rattle.log_scan.specs.declared.cursor.Cursor.{Cursor}
use Rattle.log_scan.specs.Finding.{IsFound, blocks_from, limit_of}
use Rattle.log_scan.specs.Passing.{LeadsTo}
use Rattle.log_scan.proofs.ScanSteps.{leads-found}
use Rattle.log_scan.proofs.cursor.Cursor.advance.Goals as goal

-- the step leads where what was found leads
pub returns-clause-leads : goal.returns-clause-leads
returns-clause-leads g c = λ honest texts pieces so.
    let is =
    subst (λ (n : ℕ). IsFound (layout_of c.args.log.now) (limit_of c.args.log.now c.args.home_blocks) (n + c.args.self.now.transactions)
    (blocks_from c.args.log.now (reading (g.D.Device.state c.args.device.now).disk) c.args.self.now.position) c.look.new.self c.in_ok-found.found)
    c.first_number.ensures.value (c.in_ok-found.ensures.found honest) in
    subst (λ (new : Cursor). LeadsTo c.args.log.now (limit_of c.args.log.now c.args.home_blocks) (reading (g.D.Device.state c.args.device.now).disk) texts pieces c.look.new.self
    c.args.self.now new c.in_ok-found.found) (sym c.behind.ensures)
    (leads-found c.args.log.now (limit_of c.args.log.now c.args.home_blocks) (reading (g.D.Device.state c.args.device.now).disk) texts pieces c.args.self.now c.look.new.self so
    c.in_ok-found.found is)
