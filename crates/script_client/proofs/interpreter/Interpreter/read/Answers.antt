use Rattle.std.proofs.Common.{inl, inr, refl}
use Rattle.script_client.proofs.interpreter.Interpreter.read.Goals as goal

-- the read is refused
pub returns-in-Ok-clause-done : goal.returns-in-Ok-clause-done
returns-in-Ok-clause-done g c = inr (c.in-Err-read.e, refl, inl c.in-Err-read.ensures.err)
