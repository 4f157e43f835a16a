use Rattle.journal_front.proofs.EntriesOfSteps.{touch-length}
use Rattle.journal_front.proofs.laws.a_touch_costs_a_credit_for_each_entry_that_it_adds.Goals as goal

pub returns : goal.returns
returns c = touch-length
