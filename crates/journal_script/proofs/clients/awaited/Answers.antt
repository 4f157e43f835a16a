use Rattle.std.proofs.Common.{sym, subst}
use Rattle.std.specs.Prelude.{List, All, Some}
use Rattle.std.proofs.lemmas.List.Elements.{All-pop, All-push}
use Rattle.journal_script.specs.Clients.{IsServable}
use Rattle.journal_script.specs.declared.clients.ClientHandle.{ClientHandle}
use Rattle.journal_script.proofs.Serving.{waits-served}
use Rattle.journal_script.proofs.clients.awaited.Goals as goal

-- waiting changes no limit
pub returns-in_ok-push-in-Some-clause-servable : goal.returns-in_ok-push-in-Some-clause-servable
returns-in_ok-push-in-Some-clause-servable c =
    let served = IsServable c.args.limits.capacity c.args.limits.home_blocks in
    let parts = All-pop served c.args.reading.handles.items c.pop.new.self.items (Some c.in-Some.handle) c.in-Some.ensures.items c.requires.stopped in
    record {
      stopped = subst (λ (hs : List ClientHandle). All served hs) (sym c.in_ok-push-in-Some.ensures.items)
          (All-push served c.pop.new.self.items _ parts.0 (waits-served c.args.limits.capacity c.args.limits.home_blocks c.in-Some.handle parts.1));
      few = tt;
      there = tt;
    }
