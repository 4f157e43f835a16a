use Rattle.std.proofs.Common.{◌≡◌, [], refl, ap, sym, ◌∙◌, inr, subst}
use Rattle.std.specs.Io.KnownBytes.{Appends}
use Rattle.std.proofs.lemmas.Result.{IfErr-weaker, err_from_is_err_and, on_ok_weaker}
use Rattle.journal_model.specs.Disk.{Disk, reading}
use Rattle.log_model.specs.Dump.{dump_text}
use Rattle.journal_model.specs.Layout.{IsLayout}
use Rattle.log_model.specs.Superblock.{Super}
use Rattle.log_scan.specs.Finding.{every_block}
use Rattle.log_scan.specs.Scanning.{IsChainOf, IsScanned}
use Rattle.log_dump.specs.Dumping.{HasDump, IsReadLog, shape_of}
use Rattle.block_device.proofs.OneCall.{reads-on}
use Rattle.log_scan.proofs.ScanSteps.{accepted-stays}
use Rattle.log_format.proofs.Layouts.{accepted-taken}
use Rattle.log_dump.proofs.Dumps.{chain-dump, clean-dump, count-refused, counted-dump, log-refused, on-err, print-refused, test-clean, test-started}
use Rattle.log_dump.proofs.dumping.dump.Given.{Over}
use Rattle.log_dump.proofs.dumping.dump.Goals as goal
use Rattle.log_dump.proofs.dumping.dump.Goals.{After-write_log, After-from_residual-in_err-write_clean}

pub returns-in_err-log-clause-refused : goal.returns-in_err-log-clause-refused
returns-in_err-log-clause-refused g c =
    let p = err_from_is_err_and c.from_residual.result c.from_residual.ensures.1 in
    rw (p.1, p.2)
    (log-refused (g.D.Device.honest c.read_log.new.device) (c.args.out.now ≡ c.args.out.now) (g.D.Device.state c.args.device.now) (g.D.Device.state c.read_log.new.device)
    c.in_err-log.field-0.0 refl c.in_err-log.ensures.faults)

-- a clean log has a dump
has-clean : (g : Over) (c : After-from_residual-in_err-write_clean g) → g.D.Device.honest c.read_log.new.device →
    HasDump (shape_of (g.D.Device.state c.args.device.now)) (reading (g.D.Device.state c.args.device.now).disk)
has-clean g c h = (
  dump_text c.in_ok-log.log [],
  clean-dump (g.D.Device.state c.args.device.now).shape.block_size (g.D.Device.state c.args.device.now).shape.log_blocks (reading (g.D.Device.state c.args.device.now).disk)
      c.in_ok-log.log (c.in_ok-log.ensures.read h) (test-clean c.in_ok-log.log.s_start c.if-is_clean.ensures),
)

pub returns-in_err-write_clean-clause-refused : goal.returns-in_err-write_clean-clause-refused
returns-in_err-write_clean-clause-refused g c =
    let p = err_from_is_err_and c.from_residual-in_err-write_clean.result c.from_residual-in_err-write_clean.ensures.1 in
    rw (p.1, p.2) (c.in_ok-log.ensures.faults, λ h. has-clean g c h)

pub returns-in_err-write_clean-clause-tested : goal.returns-in_err-write_clean-clause-tested
returns-in_err-write_clean-clause-tested g c = on-err c.from_residual-in_err-write_clean.result (inr (λ h. has-clean g c h))

pub returns-then-is_clean-clause-printed : goal.returns-then-is_clean-clause-printed
returns-then-is_clean-clause-printed g c = λ h.
    let clean = test-clean c.in_ok-log.log.s_start c.if-is_clean.ensures in record {
      text = dump_text c.in_ok-log.log [];
      is_dump =
          clean-dump (g.D.Device.state c.args.device.now).shape.block_size (g.D.Device.state c.args.device.now).shape.log_blocks (reading (g.D.Device.state c.args.device.now).disk)
          c.in_ok-log.log (c.in_ok-log.ensures.read h) clean;
      written =
          subst (λ (s : Super). Appends (g.W.Write.contents c.args.out.now) (g.W.Write.contents c.write_clean.new.out) (dump_text s [])) c.fields.ensures
          (c.in_ok-write_clean.ensures (ap (λ (s : Super). s.s_start) c.fields.ensures ∙ clean));
    }

pub returns-in_err-transactions-clause-refused : goal.returns-in_err-transactions-clause-refused
returns-in_err-transactions-clause-refused g c =
    let p = err_from_is_err_and c.from_residual-in_err-transactions.result c.from_residual-in_err-transactions.ensures.1 in
    rw (p.1, p.2)
    (count-refused (g.D.Device.honest c.scan.new.device) (c.args.out.now ≡ c.args.out.now) c.in_ok-log.log
    (g.D.Device.state c.args.device.now) (g.D.Device.state c.read_log.new.device) (g.D.Device.state c.scan.new.device)
    c.in_err-transactions.field-0.0 refl (test-started c.in_ok-log.log.s_start c.if-is_clean.ensures) c.in_ok-log.ensures.faults c.read_log.ensures.device.stays.disk
    c.in_ok-log.ensures.accepted (λ h. c.in_ok-log.ensures.read (c.scan.ensures.device.honest h)) c.in_err-transactions.ensures.refused)

-- the texts counted, with correct reads
counted : (g : Over) (c : After-write_log g) → g.D.Device.honest c.write_log.new.device →
    IsScanned c.in_ok-log.log (every_block c.in_ok-log.log) (reading (g.D.Device.state c.args.device.now).disk) c.in_ok-transactions.transactions
counted g c h =
    subst (λ (d : Disk). IsScanned c.in_ok-log.log (every_block c.in_ok-log.log) (reading d) c.in_ok-transactions.transactions) c.read_log.ensures.device.stays.disk
    (c.in_ok-transactions.ensures.scanned (c.write_log.ensures.device.honest h))

-- the superblock read, with correct reads
read : (g : Over) (c : After-write_log g) → g.D.Device.honest c.write_log.new.device →
    IsReadLog (shape_of (g.D.Device.state c.args.device.now)) (reading (g.D.Device.state c.args.device.now).disk) c.in_ok-log.log
read g c h = c.in_ok-log.ensures.read (c.scan.ensures.device.honest (c.write_log.ensures.device.honest h))

-- such a log has a dump
has-chain : (g : Over) (c : After-write_log g) → g.D.Device.honest c.write_log.new.device →
    HasDump (shape_of (g.D.Device.state c.args.device.now)) (reading (g.D.Device.state c.args.device.now).disk)
has-chain g c h =
    counted-dump (g.D.Device.state c.args.device.now).shape.block_size (g.D.Device.state c.args.device.now).shape.log_blocks (reading (g.D.Device.state c.args.device.now).disk)
    c.in_ok-log.log c.in_ok-transactions.transactions (read g c h) (test-started c.in_ok-log.log.s_start c.if-is_clean.ensures) (counted g c h)

-- the disk is unchanged when the printing begins
same : (g : Over) (c : After-write_log g) → (g.D.Device.state c.args.device.now).disk ≡ (g.D.Device.state c.scan.new.device).disk
same g c = sym (c.scan.ensures.device.stays.disk ∙ c.read_log.ensures.device.stays.disk)

pub returns-clause-printed : goal.returns-clause-printed
returns-clause-printed g c =
    let started = test-started c.in_ok-log.log.s_start c.if-is_clean.ensures in
    on_ok_weaker c.write_log.result
    (λ printed h.
    let these = counted g c h in record {
      text = dump_text c.in_ok-log.log these.texts;
      is_dump =
          chain-dump (g.D.Device.state c.args.device.now).shape.block_size (g.D.Device.state c.args.device.now).shape.log_blocks (reading (g.D.Device.state c.args.device.now).disk)
          c.in_ok-log.log (read g c h) started these.texts these.are;
      written = printed h these.texts started (subst (λ (d : Disk). IsChainOf c.in_ok-log.log (every_block c.in_ok-log.log) (reading d) these.texts) (same g c) these.are.chain) these.number;
    })
    c.write_log.ensures.printed

-- what was counted can be printed, so only the device can have failed
pub returns-clause-refused : goal.returns-clause-refused
returns-clause-refused g c =
    IfErr-weaker c.write_log.result _ _
    (λ e refused.
    print-refused (g.D.Device.honest c.write_log.new.device) (c.write_log.new.out ≡ c.args.out.now) _ c.in_ok-log.log
    (g.D.Device.state c.args.device.now) (g.D.Device.state c.scan.new.device) (g.D.Device.state c.write_log.new.device) e
    (c.in_ok-transactions.ensures.faults ∙ c.in_ok-log.ensures.faults) c.in_ok-log.ensures.accepted (λ h. has-chain g c h)
    (λ h never. let these = counted g c h in never these.texts (subst (λ (d : Disk). IsChainOf c.in_ok-log.log (every_block c.in_ok-log.log) (reading d) these.texts) (same g c) these.are.chain) these.number)
    refused)
    c.write_log.ensures.refused

pub returns-clause-tested : goal.returns-clause-tested
returns-clause-tested g c = on-err c.write_log.result (inr (λ h. has-chain g c h))

-- the device's shape stays, so the log is accepted there
pub scan-requires-clause-accepted : goal.scan-requires-clause-accepted
scan-requires-clause-accepted g c =
    accepted-stays c.in_ok-log.log (g.D.Device.state c.args.device.now) (g.D.Device.state c.read_log.new.device) c.read_log.ensures.device.stays c.in_ok-log.ensures.accepted

pub write_log-requires-clause-accepted : goal.write_log-requires-clause-accepted
write_log-requires-clause-accepted g c =
    accepted-stays c.in_ok-log.log (g.D.Device.state c.args.device.now) (g.D.Device.state c.scan.new.device)
    (reads-on c.read_log.ensures.device c.scan.ensures.device).stays c.in_ok-log.ensures.accepted

pub new-finder-requires : goal.new-finder-requires
new-finder-requires g c =
    subst IsLayout (sym c.layout.ensures) (accepted-taken c.in_ok-log.ensures.accepted)

pub write_log-requires-clause-layout : goal.write_log-requires-clause-layout
write_log-requires-clause-layout g c = c.in_ok-transactions.ensures.layout ∙ c.new-finder.ensures ∙ c.layout.ensures

pub write_log-requires-clause-few : goal.write_log-requires-clause-few
write_log-requires-clause-few g c = c.in_ok-transactions.ensures.few

pub returns-clause-device : goal.returns-clause-device
returns-clause-device g c = reads-on c.read_log.ensures.device (reads-on c.scan.ensures.device c.write_log.ensures.device)

pub returns-clause-no_fault : goal.returns-clause-no_fault
returns-clause-no_fault g c =
    on_ok_weaker c.write_log.result (λ same. same ∙ c.in_ok-transactions.ensures.faults ∙ c.in_ok-log.ensures.faults) c.write_log.ensures.faults
