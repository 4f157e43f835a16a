use Rattle.journal_model.proofs.Effects.{entries-blocks, touched-distinct, entries-effect, effect-entries}
use Rattle.journal_model.proofs.transaction_laws.entries_list_each_touched_block_once.Goals as goal

pub returns-clause-once : goal.returns-clause-once
returns-clause-once c = λ ss. rw (entries-blocks ss) (touched-distinct ss)

pub returns-clause-exact : goal.returns-clause-exact
returns-clause-exact c = λ ss b e. (entries-effect ss b e, effect-entries ss b e)
