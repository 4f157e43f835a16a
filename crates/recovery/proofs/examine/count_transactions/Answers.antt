use Rattle.std.proofs.Common.{Ok, Err, ◌∙◌, sym}
use Rattle.log_scan.specs.Scanning.{IsScanRefused}
use Rattle.recovery.specs.Opening.{IsTestRefused}
use Rattle.std.specs.Prelude.{IfErr}
use Rattle.recovery.proofs.Testing.{scan-refused}
use Rattle.recovery.proofs.examine.count_transactions.Goals as goal

pub returns-clause-refused : goal.returns-clause-refused
returns-clause-refused g c =
    elim c.scan.result as (λ r. IfErr r (λ e. IsScanRefused (g.D.Device.honest c.scan.new.device) c.args.log.now c.blocks-home_blocks.result (g.D.Device.state c.args.device.now) (g.D.Device.state c.scan.new.device) e) → IfErr r (IsTestRefused (g.D.Device.honest c.scan.new.device) c.args.log.now (g.D.Device.state c.args.device.now) (g.D.Device.state c.scan.new.device))) [
      | Ok count ↦ λ none. tt
      | Err e ↦ λ refused. scan-refused (g.D.Device.honest c.scan.new.device) c.args.log.now c.blocks-home_blocks.result (g.D.Device.state c.args.device.now) (g.D.Device.state c.scan.new.device) e
          (sym c.is_clean.ensures ∙ c.if-is_clean.false) c.blocks-home_blocks.ensures refused
    ] c.scan.ensures.refused
