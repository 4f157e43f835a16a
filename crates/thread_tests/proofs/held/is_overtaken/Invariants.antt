use Rattle.thread_tests.proofs.held.is_overtaken.Given as goal

-- the name is the unnamed journal's
abbrev pub ghosts-overtaken : goal.ghosts-overtaken
ghosts-overtaken g a = record { name = a.unnamed.name }
