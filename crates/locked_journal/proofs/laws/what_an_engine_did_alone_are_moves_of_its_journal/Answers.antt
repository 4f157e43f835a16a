use Rattle.locked_journal.proofs.Moving.{alone-moves}
use Rattle.locked_journal.proofs.laws.what_an_engine_did_alone_are_moves_of_its_journal.Goals as goal

pub returns : goal.returns
returns g c = λ f old new ran. alone-moves g.D.Device.state f old new ran
