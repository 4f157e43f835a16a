use Rattle.shared_journal.proofs.Moments.{err-engine}
use Rattle.shared_journal.proofs.journal.Journal.due_round.Goals as goal

pub returns : goal.returns
returns g c = record { why = err-engine c.deref_mut.result.now c.checkpoint_step.new.self c.checkpoint_step.result _ c.checkpoint_step.ensures.err }
