use Rattle.journal_world.proofs.Credits.{front-accounts}
use Rattle.journal_world.proofs.laws.credits_held_are_the_definitions.Goals as goal

pub returns : goal.returns
returns c = front-accounts
