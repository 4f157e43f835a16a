use Rattle.std.specs.Prelude.{Some}
use Rattle.parts.proofs.reconciler.Reconciler.reconcile.Given as goal

abbrev pub ghosts-step : goal.ghosts-step
ghosts-step g a = record { next = Some a.now.now }
