use Rattle.std.proofs.Common.{inl, refl}
use Rattle.jbench_commands.specs.Applying.SaysAfter.{SaysNothing}
use Rattle.jbench_commands.proofs.apply.say_end.Goals as goal

-- nothing is printed about a journal that stays
pub returns-in-Stay-clause-after : goal.returns-in-Stay-clause-after
returns-in-Stay-clause-after g c = SaysNothing (inl c.in-Stay.is) refl refl refl
