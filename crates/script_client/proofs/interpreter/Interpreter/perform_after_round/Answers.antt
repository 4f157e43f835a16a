use Rattle.std.proofs.Common.{refl, subst}
use Rattle.std.proofs.lemmas.Bool.{false≢true}
use Rattle.journal_script.specs.declared.script.Operation.TheVariants.{Check}
use Rattle.script_client.specs.declared.outcome.OperationOutcome.{OperationOutcome}
use Rattle.script_client.specs.Performed.{HasDone}
use Rattle.script_client.specs.Performed.HasDoneAfterRound.{DoneAfter, RoundRefused}
use Rattle.script_client.proofs.interpreter.Interpreter.perform_after_round.Goals as goal

-- all that is committed went home
pub returns-then-is_round_done-clause-done : goal.returns-then-is_round_done-clause-done
returns-then-is_round_done-clause-done g c =
    let round = c.check-checked in
    DoneAfter (record { client = round.new.self.client; names = round.new.self.slots })
    (subst (λ (o : OperationOutcome). HasDone g.D.Device.state g.D.Device.honest Check o
    (record { client = c.args.self.now.client; names = c.args.self.now.slots }) (record { client = round.new.self.client; names = round.new.self.slots }))
    (c.if-is_round_done.ensures.0 refl) (round.ensures.rest, (round.ensures.done, round.ensures.slots))) c.perform.ensures.done

-- a turn was refused
pub returns-else-is_round_done-clause-done : goal.returns-else-is_round_done-clause-done
returns-else-is_round_done-clause-done g c =
    let round = c.check-checked in RoundRefused (round.ensures.rest, (round.ensures.done, round.ensures.slots)) (λ is. false≢true (c.if-is_round_done.ensures.1 is))
