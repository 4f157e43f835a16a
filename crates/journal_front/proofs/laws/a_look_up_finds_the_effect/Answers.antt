use Rattle.journal_front.proofs.EntriesOfSteps.{lookup-effect}
use Rattle.journal_front.proofs.laws.a_look_up_finds_the_effect.Goals as goal

pub returns : goal.returns
returns c = lookup-effect
