use Rattle.std.proofs.Common.{◌∙◌, ℕ, ◌+◌, ap, subst, sym, true, false}
use Rattle.journal_model.specs.Disk.{Disk, Shape, reading}
use Rattle.log_scan.specs.Scanning.{IsScanned}
use Rattle.recovery.specs.Opening.{Tells}
use Rattle.script_run.proofs.Limits.{tells-chain, tells-clean, test-clean, test-started}
use Rattle.script_run.proofs.limit.report_of.Goals as goal

-- a clean log
pub returns-then-is_clean-clause-tells : goal.returns-then-is_clean-clause-tells
returns-then-is_clean-clause-tells g c = λ honest.
    let old = g.D.Device.state c.args.device.now in
    subst (λ (n : ℕ). Tells old.shape (reading old.disk) true n 0) (sym c.first_number.ensures.value)
    (tells-clean old.shape (reading old.disk) c.in_ok-log.log (c.in_ok-log.ensures.read honest) (test-clean c.in_ok-log.log.s_start c.if-is_clean.ensures))

-- a log that was scanned
pub returns-clause-tells : goal.returns-clause-tells
returns-clause-tells g c = λ honest.
    let old = g.D.Device.state c.args.device.now in
    let mid = g.D.Device.state c.read_log.new.device in
    let log = c.in_ok-log.log in
    let count = c.in_ok-transactions.transactions in
    let home = c.blocks-home_blocks.ensures ∙ ap (λ (s : Shape). s.home_blocks) c.read_log.ensures.device.stays.shape in
    let scanned =
    subst (λ (n : ℕ). IsScanned log n (reading old.disk) count) home
    (subst (λ (d : Disk). IsScanned log c.blocks-home_blocks.result (reading d) count) c.read_log.ensures.device.stays.disk (c.in_ok-transactions.ensures.scanned honest)) in
    subst (λ (n : ℕ). Tells old.shape (reading old.disk) false (n + count) count) (sym c.first_number-2.ensures.value)
    (tells-chain old.shape (reading old.disk) log (c.in_ok-log.ensures.read (c.scan.ensures.device.honest honest))
    (test-started log.s_start c.if-is_clean.ensures) count scanned)
