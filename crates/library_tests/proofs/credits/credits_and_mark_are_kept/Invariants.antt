use Rattle.handle.specs.Name.{no_journal}
use Rattle.library_tests.proofs.credits.credits_and_mark_are_kept.Given as goal

-- the name is the board's
abbrev pub ghosts-on_board : goal.ghosts-on_board
ghosts-on_board g a = record { name = record no_journal { board = a.unnamed.board; capacity = a.unnamed.capacity } }
