use Rattle.std.proofs.lemmas.Result.{IfOk-weaker}
use Rattle.script_client.proofs.Closing.{ended-weaker, led-weaker}
use Rattle.script_client.proofs.performing.apply.Goals as goal

-- `apply_known` gets the fact, and that reads are correct
pub apply_known-requires : goal.apply_known-requires
apply_known-requires g c = λ honest. (c.requires honest, honest)

-- the fact of the disk comes back
pub returns-clause-ended : goal.returns-clause-ended
returns-clause-ended g c =
    IfOk-weaker c.apply_known.result _ _ (λ applied ended. λ honest.
    ended-weaker (λ shape disk. g.H.HomeFact.holds shape disk × g.D.Device.honest c.args.opened.device) g.H.HomeFact.holds c.args.operations.now (g.D.Device.state applied.left.device)
    applied.left.sealed.items applied.left.acknowledged (λ shape disk both. both.0) (ended honest)) c.apply_known.ensures.ended

pub returns-clause-stays : goal.returns-clause-stays
returns-clause-stays g c = λ ending.
    IfOk-weaker c.apply_known.result _ _ (λ applied led. λ honest.
    led-weaker (λ shape disk. g.H.HomeFact.holds shape disk × g.D.Device.honest c.args.opened.device) g.H.HomeFact.holds c.args.operations.now (g.D.Device.state applied.left.device)
    applied.left.sealed.items applied.left.acknowledged (λ shape disk both. both.0) (led honest)) (c.apply_known.ensures.stays ending)

-- and so does that reads were correct
pub returns-clause-honest : goal.returns-clause-honest
returns-clause-honest g c = IfOk-weaker c.apply_known.result _ _ (λ applied ended. λ honest. (ended honest).fact.1) c.apply_known.ensures.ended
