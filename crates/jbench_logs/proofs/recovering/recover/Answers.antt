use Rattle.jbench_logs.proofs.recovering.recover.Goals as goal

-- neither option was given
pub returns-else-words-2-clause-done : goal.returns-else-words-2-clause-done
returns-else-words-2-clause-done g c = rw (c.if-words.false, c.if-words-2.false) c.recover.ensures.recovered
