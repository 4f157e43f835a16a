use Rattle.service_tests.proofs.service.moments.run.Given as goal

-- the name is the unnamed journal's
abbrev pub ghosts-serve : goal.ghosts-serve
ghosts-serve g a = record { name = a.unnamed.name }
