use Rattle.std.specs.Prelude.{Some, None}
use Rattle.parts.proofs.parts.UnnamedWhole.named.Given as goal

abbrev pub ghosts-begin-M-NextWhole : goal.ghosts-begin-M-NextWhole
ghosts-begin-M-NextWhole g a = record { whole = Some a.whole.now }

abbrev pub ghosts-begin-N-Next : goal.ghosts-begin-N-Next
ghosts-begin-N-Next g a = record { next = None }
