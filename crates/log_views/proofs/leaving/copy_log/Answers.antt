use Rattle.std.proofs.Common.{◌≡◌, ◌∙◌, subst}
use Rattle.journal_model.specs.declared.number.Area.TheVariants.{Log}
use Rattle.journal_model.specs.Disk.{Disk, written}
use Rattle.block_device.specs.Memory.{state_of}
use Rattle.block_device.proofs.OneCall.{reads-on}
use Rattle.log_views.proofs.Copying.{home-stays, one-more}
use Rattle.log_views.proofs.leaving.copy_log.Goals as goal

pub loop-n-preserved : goal.loop-n-preserved
loop-n-preserved g c =
    let before = c.loop-n.invariant in
    let other = c.in_ok-copy_block.ensures.other in
    let copy = (state_of c.loop-n.copy).disk in
    let new = (state_of c.copy_block.new.copy).disk in
    let old = (g.D.Device.state c.args.device.now).disk in (
      c.copy_block.ensures.size ∙ before.0,
      c.copy_block.ensures.shape ∙ before.1,
      reads-on before.2 c.copy_block.ensures.device,
      λ h. one-more old copy new c.loop-n.n
          (subst (λ (d : Disk). new ≡ written copy Log c.loop-n.n (d Log c.loop-n.n).reads) before.2.stays.disk (c.in_ok-copy_block.ensures.copied h))
          (before.3 (c.copy_block.ensures.device.honest h)),
      λ m. home-stays copy new c.loop-n.n other.0 other.1 m ∙ before.4 m,
    )
