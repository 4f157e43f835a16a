use Rattle.std.proofs.Common.{◌∙◌, List, subst}
use Rattle.journal_script.specs.declared.script.Operation.{Operation}
use Rattle.script_client.specs.Ended.{IsEnded}
use Rattle.script_client.specs.Told.{IsLedTo}
use Rattle.script_client.proofs.performing.apply_known.Goals as goal

-- the operations are the same
pub returns-in-Ok-clause-ended : goal.returns-in-Ok-clause-ended
returns-in-Ok-clause-ended g c = λ honest.
    let left = c.end_of.result.left in
    subst (λ (operations : List Operation). IsEnded g.H.HomeFact.holds operations (g.D.Device.state left.device) left.sealed.items left.acknowledged)
    (c.apply_all-applied.ensures.operations ∙ c.in-Ok.ensures.begun.client.operations_are) (c.end_of.ensures.ended honest)

pub returns-in-Ok-clause-stays : goal.returns-in-Ok-clause-stays
returns-in-Ok-clause-stays g c = λ ending honest.
    let left = c.end_of.result.left in
    subst (λ (operations : List Operation). IsLedTo g.H.HomeFact.holds operations (g.D.Device.state left.device) left.sealed.items left.acknowledged)
    (c.apply_all-applied.ensures.operations ∙ c.in-Ok.ensures.begun.client.operations_are) (c.end_of.ensures.stays ending honest)

-- from the new journal
pub returns-in-Ok-clause-outcomes : goal.returns-in-Ok-clause-outcomes
returns-in-Ok-clause-outcomes g c = record {
  start = record { client = c.in-Ok.interpreter.client; names = c.in-Ok.interpreter.slots };
  begun = c.in-Ok.ensures.begun;
  last = record { client = c.apply_all-applied.new.interpreter.client; names = c.apply_all-applied.new.interpreter.slots };
  applied = c.apply_all-applied.result;
  applies = c.apply_all-applied.ensures.applies;
  ends = c.end_of.ensures.applied;
}
