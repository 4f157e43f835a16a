use Rattle.jbench_commands.proofs.run.run.Goals as goal

-- status 0 means an ok verdict
pub returns-in-Ok-true-clause-run : goal.returns-in-Ok-true-clause-run
returns-in-Ok-true-clause-run g c = λ fine. rw c.in-Ok-true.ensures.right at c.in-Ok-true.ensures.run
