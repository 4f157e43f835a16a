use Rattle.service_tests.proofs.service.flushes.run.Given as goal

-- the name is the unnamed journal's
abbrev pub ghosts-play : goal.ghosts-play
ghosts-play g a = record { name = a.unnamed.name }
