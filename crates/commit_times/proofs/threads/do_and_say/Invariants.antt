use Rattle.commit_times.proofs.threads.do_and_say.Given as goal

-- the name is the unnamed journal's
abbrev pub ghosts-do_all : goal.ghosts-do_all
ghosts-do_all g a = record { name = a.unnamed.name }
