use Rattle.shared_runs.proofs.running.done_on.Given as goal

-- the name is the unnamed journal's
abbrev pub ghosts-done_by : goal.ghosts-done_by
ghosts-done_by g a = record { name = a.unnamed.name }
