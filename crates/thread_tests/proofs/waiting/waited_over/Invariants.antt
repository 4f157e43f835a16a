use Rattle.thread_tests.proofs.waiting.waited_over.Given as goal

-- the name is the unnamed journal's
abbrev pub ghosts-waited : goal.ghosts-waited
ghosts-waited g a = record { name = a.unnamed.name }
