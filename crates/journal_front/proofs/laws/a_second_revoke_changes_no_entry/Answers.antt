use Rattle.journal_model.specs.declared.entry.Entry.TheVariants.{Revoke}
use Rattle.journal_front.proofs.EntriesOfSteps.{touch-again}
use Rattle.journal_front.proofs.laws.a_second_revoke_changes_no_entry.Goals as goal

pub returns : goal.returns
returns c = λ ss s. touch-again ss s Revoke
