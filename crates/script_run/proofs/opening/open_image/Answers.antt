use Rattle.std.proofs.Common.{refl}
use Rattle.script_run.proofs.Openings.{opened-image}
use Rattle.script_run.proofs.opening.open_image.Goals as goal

pub returns-in-Ok-clause-opened : goal.returns-in-Ok-clause-opened
returns-in-Ok-clause-opened c =
    opened-image c.args.image c.args.image c.in-Ok.opened.device _ _ refl c.into_device.ensures c.report.ensures
    (c.in-Ok.ensures.report tt) (c.in-Ok.ensures.opened tt).home c.in-Ok.ensures.shape

-- what stands in the image is refused
pub returns-clause-err : goal.returns-clause-err
returns-clause-err c = λ device memory. (c.in-Err.ensures.refused.content device memory).2 tt
