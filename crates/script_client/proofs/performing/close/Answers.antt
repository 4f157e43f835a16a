use Rattle.std.proofs.Common.{◌∙◌, List, refl, subst}
use Rattle.journal_script.specs.declared.script.Operation.{Operation}
use Rattle.script_client.specs.Ended.{IsEnded}
use Rattle.script_client.proofs.Closing.{closing-same, sealed-same}
use Rattle.script_client.proofs.performing.close.Goals as goal

-- the operations are the same
pub returns-in-Ok-clause-ended : goal.returns-in-Ok-clause-ended
returns-in-Ok-clause-ended g c = λ honest.
    let ended = c.close-parts.result in
    subst (λ (operations : List Operation). IsEnded g.H.HomeFact.holds operations (g.D.Device.state ended.parts.device) ended.parts.sealed.items ended.acknowledged)
    c.into_stopped.ensures.operations (c.close-parts.ensures.ended honest)

pub returns-in-Err-clause-ended : goal.returns-in-Err-clause-ended
returns-in-Err-clause-ended g c = λ honest.
    let ended = c.close-parts.result in
    subst (λ (operations : List Operation). IsEnded g.H.HomeFact.holds operations (g.D.Device.state ended.parts.device) ended.parts.sealed.items ended.acknowledged)
    c.into_stopped.ensures.operations (c.close-parts.ensures.ended honest)

-- stopping handles sealed nothing, and the running transaction is the same
pub returns-in-Ok-clause-closed_as : goal.returns-in-Ok-clause-closed_as
returns-in-Ok-clause-closed_as g c =
    let stopped = c.into_stopped.ensures in
    record {
      sealed_is =
          (rw c.in-Ok.is at c.close-parts.ensures.sealed)
          ∙ closing-same c.args.interpreter.client.journal.journal.front c.into_stopped.result.journal.journal.front stopped.left.sealed_is stopped.running;
      shown_is = c.close-parts.ensures.shown ∙ stopped.left.shown_is;
      why = tt;
    }

-- why it is not closed after the stops
pub returns-in-Err-clause-closed_as : goal.returns-in-Err-clause-closed_as
returns-in-Err-clause-closed_as g c =
    let stopped = c.into_stopped.ensures in
    record {
      sealed_is =
          sealed-same c.args.interpreter.client.journal.journal.front c.into_stopped.result.journal.journal.front c.close-parts.result.parts.sealed.items stopped.left.sealed_is stopped.running
          (rw c.in-Err.is at c.close-parts.ensures.sealed);
      shown_is = c.close-parts.ensures.shown ∙ stopped.left.shown_is;
      why = (
        c.in-Err.e,
        refl,
        record {
          stopped = c.into_stopped.result.journal;
          stops = stopped.stops;
          committed = c.close-parts.result.parts.committed;
          why = rw c.in-Err.is at c.close-parts.ensures.refused;
        },
      );
    }
