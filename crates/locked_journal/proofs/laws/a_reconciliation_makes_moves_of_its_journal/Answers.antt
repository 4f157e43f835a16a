use Rattle.locked_journal.proofs.Moving.{reconciler-moves}
use Rattle.locked_journal.proofs.laws.a_reconciliation_makes_moves_of_its_journal.Goals as goal

pub returns : goal.returns
returns g c = λ front mid engine reconciles. reconciler-moves g.D.Device.state front engine mid reconciles
