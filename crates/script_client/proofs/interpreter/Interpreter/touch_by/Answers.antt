use Rattle.script_client.proofs.interpreter.Interpreter.touch_by.Goals as goal

-- a read
pub returns-in-Read-clause-done : goal.returns-in-Read-clause-done
returns-in-Read-clause-done g c = rw c.in-Read.is (c.read.ensures.done, c.read.ensures.handle)
