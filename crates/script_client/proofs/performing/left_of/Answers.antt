use Rattle.std.proofs.Common.{List, subst}
use Rattle.journal_script.specs.declared.script.Operation.{Operation}
use Rattle.script_client.specs.Told.{IsLedTo}
use Rattle.script_client.proofs.performing.left_of.Goals as goal

-- the operations are the same
pub returns-clause-led : goal.returns-clause-led
returns-clause-led g c = λ honest.
    let left = c.finish-parts.result in
    subst (λ (operations : List Operation). IsLedTo g.H.HomeFact.holds operations (g.D.Device.state left.0.device) left.0.sealed.items left.1) c.into_stopped.ensures.operations (c.finish-parts.ensures.led honest)
