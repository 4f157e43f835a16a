use Rattle.script_threads.proofs.running.run.Given as goal

-- The name is the unnamed journal's.
abbrev pub ghosts-run_on : goal.ghosts-run_on
ghosts-run_on g a = record { name = a.unnamed.name }
