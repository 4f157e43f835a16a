use Rattle.std.proofs.Common.{[], refl, ap, sym, ◌∙◌, subst}
use Rattle.std.specs.Prelude.{ℕ, Option, MatchOption}
use Rattle.std.specs.Io.KnownBytes.{Appends}
use Rattle.journal_model.specs.declared.refusal.JournalError.TheVariants.{Damage}
use Rattle.journal_model.specs.Disk.{Disk, reading}
use Rattle.log_model.specs.Dump.{dump_text}
use Rattle.journal_model.specs.Layout.{IsLayout}
use Rattle.log_model.specs.Superblock.{Super}
use Rattle.log_scan.specs.Finding.{every_block}
use Rattle.log_scan.specs.Scanning.{AreTextsOf, IsChainOf, IsDamageOf, IsEndOf}
use Rattle.block_device.proofs.OneCall.{reads-on}
use Rattle.log_scan.proofs.ScanSteps.{accepted-stays}
use Rattle.log_format.proofs.Layouts.{accepted-taken}
use Rattle.log_dump.proofs.Dumps.{chain-dump, clean-dump, test-clean, test-started}
use Rattle.log_dump.proofs.dumping.dump_up_to_damage.Goals as goal

pub returns-then-is_clean-clause-printed : goal.returns-then-is_clean-clause-printed
returns-then-is_clean-clause-printed g c = λ h.
    let clean = test-clean c.in_ok-log.log.s_start c.if-is_clean.ensures in record {
      s = c.in_ok-log.log;
      read = c.in_ok-log.ensures.read h;
      texts = [];
      written =
          subst (λ (s : Super). Appends (g.W.Write.contents c.args.out.now) (g.W.Write.contents c.write_clean.new.out) (dump_text s [])) c.fields.ensures
          (c.in_ok-write_clean.ensures (ap (λ (s : Super). s.s_start) c.fields.ensures ∙ clean));
      clean = λ is. (refl, refl);
      chain = λ started. absurd (started clean);
    }

pub returns-clause-printed : goal.returns-clause-printed
returns-clause-printed g c = λ h.
    let started = test-started c.in_ok-log.log.s_start c.if-is_clean.ensures in
    let log = c.in_ok-log.log in
    let end = c.in_ok-end.end in
    let old = (g.D.Device.state c.args.device.now).disk in
    let mid = (g.D.Device.state c.read_log.new.device).disk in
    let now = (g.D.Device.state c.find_end.new.device).disk in
    let trust = c.write_log.ensures.device.honest h in
    let ends = c.in_ok-end.ensures.ends trust in
    let here = subst (λ (d : Disk). IsEndOf log (every_block log) (reading d) end) c.read_log.ensures.device.stays.disk ends in
    record {
      s = log;
      read = c.in_ok-log.ensures.read (c.find_end.ensures.device.honest trust);
      texts = ends.texts;
      written = c.in_ok-write_log.ensures.printed h ends.texts started
          (subst (λ (d : Disk). IsChainOf log (every_block log) (reading d) ends.texts) (sym c.find_end.ensures.device.stays.disk) ends.chain) ends.number;
      clean = λ clean. absurd (started clean);
      chain = λ is. (
        subst (λ n. IsEndOf log (every_block log) (reading old) (record { transactions = n; damaged = end.damaged })) ends.number here,
        subst (λ (d : Disk). IsChainOf log (every_block log) (reading d) ends.texts) c.read_log.ensures.device.stays.disk ends.chain,
      );
    }

pub returns-then-is_clean-clause-whole : goal.returns-then-is_clean-clause-whole
returns-then-is_clean-clause-whole g c = λ none h.
    let clean = test-clean c.in_ok-log.log.s_start c.if-is_clean.ensures in
    let old = g.D.Device.state c.args.device.now in
    (dump_text c.in_ok-log.log [], clean-dump old.shape.block_size old.shape.log_blocks (reading old.disk) c.in_ok-log.log (c.in_ok-log.ensures.read h) clean)

pub returns-clause-whole : goal.returns-clause-whole
returns-clause-whole g c = λ none h.
    let started = test-started c.in_ok-log.log.s_start c.if-is_clean.ensures in
    let log = c.in_ok-log.log in
    let end = c.in_ok-end.end in
    let old = g.D.Device.state c.args.device.now in
    let mid = (g.D.Device.state c.read_log.new.device).disk in
    let trust = c.write_log.ensures.device.honest h in
    let ends = c.in_ok-end.ensures.ends trust in
    let are = subst (λ (d : Option ℕ). MatchOption d (AreTextsOf log (every_block log) (reading mid) ends.texts) (λ place. IsDamageOf log (every_block log) (reading mid) (Damage place))) none ends.behind in (
      dump_text log ends.texts,
      chain-dump old.shape.block_size old.shape.log_blocks (reading old.disk) log (c.in_ok-log.ensures.read (c.find_end.ensures.device.honest trust)) started ends.texts
          (subst (λ (d : Disk). AreTextsOf log (every_block log) (reading d) ends.texts) c.read_log.ensures.device.stays.disk are),
    )

-- the device's shape stays, so the log is accepted there
pub find_end-requires-clause-accepted : goal.find_end-requires-clause-accepted
find_end-requires-clause-accepted g c =
    accepted-stays c.in_ok-log.log (g.D.Device.state c.args.device.now) (g.D.Device.state c.read_log.new.device) c.read_log.ensures.device.stays c.in_ok-log.ensures.accepted

pub write_log-requires-clause-accepted : goal.write_log-requires-clause-accepted
write_log-requires-clause-accepted g c =
    accepted-stays c.in_ok-log.log (g.D.Device.state c.args.device.now) (g.D.Device.state c.find_end.new.device)
    (reads-on c.read_log.ensures.device c.find_end.ensures.device).stays c.in_ok-log.ensures.accepted

pub new-finder-requires : goal.new-finder-requires
new-finder-requires g c =
    subst IsLayout (sym c.layout.ensures) (accepted-taken c.in_ok-log.ensures.accepted)

pub write_log-requires-clause-layout : goal.write_log-requires-clause-layout
write_log-requires-clause-layout g c = c.in_ok-end.ensures.layout ∙ c.new-finder.ensures ∙ c.layout.ensures

pub write_log-requires-clause-few : goal.write_log-requires-clause-few
write_log-requires-clause-few g c = c.in_ok-end.ensures.few
