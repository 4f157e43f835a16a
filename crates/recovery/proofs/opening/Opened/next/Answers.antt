use Rattle.std.proofs.Common.{refl}
use Rattle.recovery.proofs.opening.Opened.next.Goals as goal

pub returns-clause-next : goal.returns-clause-next
returns-clause-next g c = rw (← c.self.view_is) refl
