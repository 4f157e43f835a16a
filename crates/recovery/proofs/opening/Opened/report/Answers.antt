use Rattle.std.proofs.Common.{refl}
use Rattle.recovery.proofs.opening.Opened.report.Goals as goal

pub returns : goal.returns
returns g c = rw (← c.self.view_is) refl
