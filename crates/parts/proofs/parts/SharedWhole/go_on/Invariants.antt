use Rattle.std.specs.Prelude.{Some, None}
use Rattle.parts.proofs.parts.SharedWhole.go_on.Given as goal

abbrev pub ghosts-step-M-NextWhole : goal.ghosts-step-M-NextWhole
ghosts-step-M-NextWhole g a = record { whole = Some a.whole.now }

abbrev pub ghosts-step-N-Next : goal.ghosts-step-N-Next
ghosts-step-N-Next g a = record { next = None }
