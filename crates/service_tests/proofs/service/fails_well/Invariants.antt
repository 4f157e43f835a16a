use Rattle.service_tests.proofs.service.fails_well.Given as goal

-- the name is the unnamed journal's
abbrev pub ghosts-try_run : goal.ghosts-try_run
ghosts-try_run g a = record { name = a.unnamed.name }
