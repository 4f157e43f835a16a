use Rattle.thread_tests.proofs.threads.two_threads_share_a_journal_over_files.Given as goal

-- the name is the unnamed journal's
abbrev pub ghosts-written : goal.ghosts-written
ghosts-written g a = record { name = a.unnamed.name }
