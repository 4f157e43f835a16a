use Rattle.std.specs.Prelude.{Some}
use Rattle.parts.proofs.reconciler.UnnamedReconciler.named.Given as goal

abbrev pub ghosts-named_with_part : goal.ghosts-named_with_part
ghosts-named_with_part g a = record { next = Some a.whole.now }
