use Rattle.example_tests.proofs.own.run_on.Given as goal

-- the name is the unnamed journal's
abbrev pub ghosts-look : goal.ghosts-look
ghosts-look g a = record { name = a.unnamed.name }
