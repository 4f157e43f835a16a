use Rattle.std.proofs.Common.{sym, subst}
use Rattle.std.specs.Prelude.{◌≤◌, ◌<◌, List, Option, All, IfSome}
use Rattle.std.proofs.lemmas.List.Elements.{All-push}
use Rattle.journal_script.specs.Clients.{IsServable, touched}
use Rattle.journal_script.specs.declared.clients.ClientHandle.{ClientHandle}
use Rattle.journal_script.specs.declared.clients.OpenHandle.{OpenHandle}
use Rattle.journal_script.proofs.clients.stopped.Goals as goal

-- the handle that has stopped can be served too
pub returns-clause-servable : goal.returns-clause-servable
returns-clause-servable c =
    let limits = c.args.limits in
    let served = IsServable limits.capacity limits.home_blocks in
    record {
      stopped = subst (λ (hs : List ClientHandle). All served hs) (sym c.in_ok-push.ensures.items)
          (All-push served c.args.reading.handles.items _ c.requires.stopped
          (record {
            few = subst (λ (o : Option OpenHandle). IfSome o (λ h. h.credits ≤ limits.capacity)) c.in-Some.is c.requires.few;
            there = subst (λ (o : Option OpenHandle). IfSome o (λ h. All (λ t. touched t < limits.home_blocks) h.touches.items)) c.in-Some.is c.requires.there;
            different = c.in_ok-require_credits.ensures.different;
            enough = c.in_ok-require_credits.ensures.enough;
            has = c.in_ok-require_credits.ensures.has;
          }));
      few = tt;
      there = tt;
    }
