use Rattle.std.proofs.Common.{◌∙◌, ap, subst}
use Rattle.journal_model.specs.declared.number.Area.TheVariants.{Home}
use Rattle.journal_model.specs.Disk.{Cell, Disk, Shape}
use Rattle.block_device.specs.Memory.{state_of}
use Rattle.log_views.specs.Leaving.{HasCopied}
use Rattle.log_views.proofs.Copying.{home-copied}
use Rattle.log_views.proofs.leaving.copied.Goals as goal

pub returns-clause-copied : goal.returns-clause-copied
returns-clause-copied g c = λ h.
    let stays = c.copy_block.ensures.device.stays in
    let first = (state_of c.new-copy.result).disk in
    let mid = (state_of c.copy_block.new.copy).disk in
    let new = (state_of c.copy_log.new.copy).disk in
    let old = g.D.Device.state c.args.device.now in
    let trust = c.copy_log.ensures.device.honest h in (
      subst (λ (s : Shape). HasCopied s.log_blocks old.disk new) stays.shape
          (subst (λ (d : Disk). HasCopied (g.D.Device.state c.copy_block.new.device).shape.log_blocks d new) stays.disk (c.in_ok-copy_log.ensures.copied h)),
      ap (λ (cell : Cell). cell.reads) (c.in_ok-copy_log.ensures.home c.args.n)
          ∙ home-copied first mid c.args.n (old.disk Home c.args.n).reads (c.in_ok-copy_block.ensures.copied trust),
    )
