use Rattle.journal_world.proofs.laws.the_credit_word_decides.Goals as goal

pub returns-clause-granted : goal.returns-clause-granted
returns-clause-granted c = λ old new n step. step.free

pub returns-clause-refused : goal.returns-clause-refused
returns-clause-refused c = λ old new n step. (step.possible, step.few)

pub returns-clause-word : goal.returns-clause-word
returns-clause-word c = λ old new found step. step.word

pub returns-clause-mark : goal.returns-clause-mark
returns-clause-mark c = λ old new found step. step.mark
