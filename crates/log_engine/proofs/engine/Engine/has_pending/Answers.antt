use Rattle.std.proofs.Common.{◌↔◌, ◌∙◌, Bool, IsTrue, is_some, ap, subst, sym}
use Rattle.log_ledger.specs.Ledger.{engine_of}
use Rattle.log_engine.specs.Engine.{HasPending}
use Rattle.log_engine.proofs.Reading.{found-pending}
use Rattle.log_engine.proofs.engine.Engine.has_pending.Goals as goal

pub returns : goal.returns
returns g c =
    let e = engine_of (g.D.Device.state c.self.inside.device).shape c.self.inside.ledger in
    rw (← c.self.view_is)
    (subst (λ (x : Bool). IsTrue x ↔ HasPending e c.args.block) (sym (c.is_some.ensures ∙ ap is_some c.lookup.ensures.newest))
    (found-pending e c.self.inside.ledger.pending c.args.block c.self.invariant.0.pending))
