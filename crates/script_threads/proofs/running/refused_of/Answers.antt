use Rattle.std.proofs.Common.{subst}
use Rattle.std.specs.Prelude.{List, All, IsNone}
use Rattle.std.proofs.lemmas.List.{take_all}
use Rattle.std.proofs.lemmas.List.Elements.{All-more}
use Rattle.volume_service.specs.declared.outcome.ClientOutcome.{ClientOutcome}
use Rattle.script_threads.proofs.running.refused_of.Goals as goal

pub loop-place-preserved : goal.loop-place-preserved
loop-place-preserved g c = λ none.
    let both = c.in_ok-note_refused.ensures none in
    All-more (λ (client : ClientOutcome g.row.J.Denot _). IsNone client.refusal) c.args.clients.now c.loop-place.place c.index-clients-place.result c.loop-place-test.true (c.loop-place.invariant both.0) both.1

pub returns : goal.returns
returns g c = λ none.
    subst (λ (clients : List (ClientOutcome g.row.J.Denot _)). All (λ client. IsNone client.refusal) clients) (take_all c.loop-place.place c.args.clients.now c.loop-place-test.false)
    (c.loop-place.invariant none)
