use Rattle.std.proofs.Common.{◌≡◌, arith, subst}
use Rattle.std.specs.Prelude.{List, [], All, IsNone, length}
use Rattle.std.specs.List.{AllZip}
use Rattle.std.proofs.lemmas.Bool.Decides.{nat_tests}
use Rattle.volume_service.specs.declared.outcome.ClientOutcome.{ClientOutcome}
use Rattle.script_threads.specs.Runs.{IsTold}
use Rattle.script_threads.specs.Verdicts.{AreVerdicts, Told}
use Rattle.script_threads.proofs.Ending.{each-served}
use Rattle.script_threads.proofs.Lists.{nothing}
use Rattle.script_threads.proofs.running.judge.Goals as goal

-- No client was refused anything, so each was served.
pub returns : goal.returns
returns g c =
    let outcome = c.args.outcome in
    let clients = outcome.clients.items in
    let plans = c.args.plans.now in
    let told = c.in_ok-told.told.items in
    let many : length clients ≡ length plans = omega (arith, c.requires.all, outcome.clients.ok.0) in
    let count : c.in_ok-refused.refused.len ≡ 0 = grind (arith, nat_tests) in
    let empty : c.in_ok-refused.refused.items ≡ [] = nothing c.in_ok-refused.refused.items (omega (arith, count, c.in_ok-refused.refused.ok.0)) in
    record {
      served = record {
        clients = told;
        word = outcome.tally.word;
        entries = outcome.tally.entries;
        capacity = c.args.capacity;
        sealed = outcome.parts.sealed.items;
        committed = outcome.parts.committed;
        device = outcome.parts.device;
      };
      each =
          each-served outcome.parts.committed outcome.parts.sealed.items plans clients told many
          (subst (λ (cs : List (ClientOutcome g.row.J.Denot _)). All (λ client. IsNone client.refusal) cs) c.deref.ensures.value (c.in_ok-refused.ensures empty)) c.requires.followed
          (λ k client less. c.requires.stand k client (omega (arith, less, outcome.clients.ok.0)))
          (subst (λ (cs : List (ClientOutcome g.row.J.Denot _)). AllZip (λ client ts. AllZip (λ h t. IsTold h.tid h.receipt t) client.handles.items ts.items) cs told) c.deref-2.ensures.value
          c.in_ok-told.ensures);
      name = g.J.JournalName.name;
      left = c.requires.left;
      verdicts =
          subst
          (λ (ts : Told). AreVerdicts (record {
            clients = ts;
            word = outcome.tally.word;
            entries = outcome.tally.entries;
            capacity = c.args.capacity;
            sealed = outcome.parts.sealed.items;
            committed =
                outcome.parts.committed;
            device = outcome.parts.device;
          }) c.args.named.now c.in_ok-verdicts.verdicts) c.deref-3.ensures.value c.in_ok-verdicts.ensures;
    }
