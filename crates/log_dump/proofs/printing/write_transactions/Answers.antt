use Rattle.std.proofs.Common.{ℕ, ◌+◌, refl, ap, ◌∙◌, arith, subst}
use Rattle.std.proofs.lemmas.Result.{err_from_is_err_and}
use Rattle.journal_model.specs.Disk.{Disk, reading}
use Rattle.block_device.proofs.OneCall.{no-read, reads-on}
use Rattle.log_model.specs.Opening.{layout_of}
use Rattle.log_model.specs.ReadingLog.{NoTextBegins}
use Rattle.log_dump.specs.Dumping.{IsPrinted}
use Rattle.log_scan.specs.Finding.{blocks_from, every_block}
use Rattle.log_scan.proofs.ScanSteps.{accepted-stays}
use Rattle.log_dump.proofs.PrintingSteps.{refused-through, texts-all, texts-no-more, texts-printed, texts-unprinted}
use Rattle.log_dump.proofs.printing.write_transactions.Goals as goal

pub loop-k-init : goal.loop-k-init
loop-k-init g c = record {
  within = omega arith;
  layout = refl;
  device = no-read;
  faults = refl;
  printed = λ h. texts-unprinted c.args.log.now (reading (g.D.Device.state c.args.device.now).disk) (g.W.Write.contents c.args.out.now);
}

pub loop-k-preserved : goal.loop-k-preserved
loop-k-preserved g c =
    let before = c.loop-k.invariant in record {
      within = c.in_ok-position.ensures.within.1;
      layout = c.write_text.ensures.layout ∙ before.layout;
      device = reads-on before.device c.write_text.ensures.device;
      faults = c.in_ok-position.ensures.faults ∙ before.faults;
      printed =
          λ h. texts-printed c.args.log.now (reading (g.D.Device.state c.args.device.now).disk) (g.W.Write.contents c.args.out.now) (g.W.Write.contents c.loop-k.out)
          c.loop-k.k c.loop-k.position (before.printed (c.write_text.ensures.device.honest h)) (c.first_number.result + c.loop-k.k) c.in_ok-position.position (g.W.Write.contents c.write_text.new.out)
          (ap (λ (n : ℕ). n + c.loop-k.k) c.first_number.ensures.value)
          (subst (λ (d : Disk). IsPrinted c.args.log.now (reading d) (c.first_number.result + c.loop-k.k) (g.W.Write.contents c.loop-k.out) (g.W.Write.contents c.write_text.new.out) c.loop-k.position c.in_ok-position.position)
          before.device.stays.disk (c.in_ok-position.ensures.printed h));
    }

pub returns-clause-printed : goal.returns-clause-printed
returns-clause-printed g c = λ h texts are all.
    texts-all c.args.log.now (reading (g.D.Device.state c.args.device.now).disk) (g.W.Write.contents c.args.out.now) (g.W.Write.contents c.loop-k.out)
    c.loop-k.k c.loop-k.position (c.loop-k.invariant.printed h) texts (omega arith) are

pub returns-in_err-position-clause-refused : goal.returns-in_err-position-clause-refused
returns-in_err-position-clause-refused g c =
    let before = c.loop-k.invariant in
    let p = err_from_is_err_and c.from_residual.result c.from_residual.ensures.1 in
    rw (p.1, p.2)
    (refused-through (g.D.Device.honest c.write_text.new.device) _ _ c.args.log.now (g.D.Device.state c.args.device.now) (g.D.Device.state c.loop-k.device) (g.D.Device.state c.write_text.new.device)
    c.in_err-position.field-0.0
    (λ h none texts are all.
    texts-no-more c.args.log.now (reading (g.D.Device.state c.args.device.now).disk) (g.W.Write.contents c.args.out.now) (g.W.Write.contents c.loop-k.out)
    c.loop-k.k c.loop-k.position (before.printed (c.write_text.ensures.device.honest h)) (c.first_number.result + c.loop-k.k) texts
    (ap (λ (n : ℕ). n + c.loop-k.k) c.first_number.ensures.value) (omega arith)
    (subst (λ (d : Disk). NoTextBegins (layout_of c.args.log.now) (every_block c.args.log.now) (c.first_number.result + c.loop-k.k) (blocks_from c.args.log.now (reading d) c.loop-k.position)) before.device.stays.disk none) are)
    before.faults c.in_err-position.ensures.refused)

-- the device's shape stays, so the log is accepted there
pub write_text-requires-clause-accepted : goal.write_text-requires-clause-accepted
write_text-requires-clause-accepted g c =
    accepted-stays c.args.log.now (g.D.Device.state c.args.device.now) (g.D.Device.state c.loop-k.device) c.loop-k.invariant.device.stays c.requires.accepted
