use Rattle.std.proofs.Common.{inr, refl, sym}
use Rattle.jbench_commands.specs.Applying.SaysAfter.{SaysNothing, SaysNumber}
use Rattle.jbench_commands.proofs.apply.say_close.Goals as goal

-- nothing is printed if the operations ended early, or the close was refused
pub returns-then-is_err-clause-after : goal.returns-then-is_err-clause-after
returns-then-is_err-clause-after g c = SaysNothing (inr (sym c.if-is_err.ensures.value)) refl refl refl

-- otherwise the number is printed
pub returns-clause-after : goal.returns-clause-after
returns-clause-after g c = SaysNumber refl c.if-is_err.ensures.negation c.say_closed.ensures.said
