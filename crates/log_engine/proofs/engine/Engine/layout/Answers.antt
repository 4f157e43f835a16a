use Rattle.log_engine.proofs.engine.Engine.layout.Goals as goal

pub returns-clause-taken : goal.returns-clause-taken
returns-clause-taken g c = c.self.invariant.0.plain.layout.0
