use Rattle.std.proofs.Common.{◌∙◌, ap, arith, subst}
use Rattle.journal_model.specs.Disk.{Disk, reading}
use Rattle.block_device.proofs.OneCall.{reads-on}
use Rattle.log_model.specs.Superblock.{Super}
use Rattle.log_scan.specs.Finding.{IsSequenceOf, log_block}
use Rattle.damaged_logs.proofs.Surveys.{up-to-more}
use Rattle.damaged_logs.proofs.surveying.greatest_in_ring.Goals as goal

-- one more block is read
pub loop-place-preserved : goal.loop-place-preserved
loop-place-preserved g c =
    let before = c.loop-place.invariant in
    let least = before.least in
    let more = c.greater-greatest.ensures.least in
    let first = c.from-first.ensures ∙ ap (λ (s : Super). s.s_first) (c.behind-log.view_is ∙ c.fields.ensures) in
    let end = c.from-end.ensures ∙ ap (λ (s : Super). s.s_maxlen) (c.behind-log-2.view_is ∙ c.fields-2.ensures) in
    record {
      layout = c.sequence_at.ensures.layout ∙ before.layout;
      device = reads-on before.device c.sequence_at.ensures.device;
      faults = c.in_ok-sequence_at.ensures.faults ∙ before.faults;
      least = omega arith;
      greatest = λ h.
          up-to-more c.args.log.now (reading (g.D.Device.state c.args.device.now).disk) c.args.limit c.loop-place.place c.loop-place.greatest
          c.greater-greatest.result c.in_ok-sequence_at.field-0 (omega arith) (omega arith) before.least c.greater-greatest.ensures.least
          (subst (λ (d : Disk). IsSequenceOf (log_block (reading d) c.loop-place.place) c.in_ok-sequence_at.field-0) before.device.stays.disk
          (c.in_ok-sequence_at.ensures.sequence h)) c.greater-greatest.ensures.above (before.greatest (c.sequence_at.ensures.device.honest h));
    }
