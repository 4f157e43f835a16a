use Rattle.thread_tests.proofs.four.run.Given as goal

-- the name is the unnamed journal's
abbrev pub ghosts-worked : goal.ghosts-worked
ghosts-worked g a = record { name = a.unnamed.name }
