use Rattle.std.proofs.Common.{◌≡◌, ◌+◌, ◌≤◌, ◌↔◌, ℕ, IsTrue, is_some, length, subst}
use Rattle.std.specs.Prelude.{IfSome}
use Rattle.log_model.specs.Room.{need}
use Rattle.journal_model.specs.Transaction.{entries, revoked}
use Rattle.journal_steps.proofs.steps.room_for.Goals as goal

pub returns-clause-blocks : goal.returns-clause-blocks
returns-clause-blocks g c =
    let e = c.args.engine.now.engine in
    let revokes = length (revoked (entries c.args.front.now.running.steps)) in
    subst (λ (n : ℕ). IfSome c.room_for.result (λ k. k ≡ need e.layout n revokes)) c.counts-copies.ensures.copies
    (subst (λ (n : ℕ). IfSome c.room_for.result (λ k. k ≡ need e.layout c.counts-copies.result.0 n)) c.counts-copies.ensures.revokes
    c.room_for.ensures.blocks)

pub returns-clause-room : goal.returns-clause-room
returns-clause-room g c =
    let e = c.args.engine.now.engine in
    let revokes = length (revoked (entries c.args.front.now.running.steps)) in
    subst (λ (n : ℕ). IsTrue (is_some c.room_for.result) ↔ (e.start + need e.layout n revokes ≤ e.tail + e.ring.blocks)) c.counts-copies.ensures.copies
    (subst (λ (n : ℕ). IsTrue (is_some c.room_for.result) ↔ (e.start + need e.layout c.counts-copies.result.0 n ≤ e.tail + e.ring.blocks)) c.counts-copies.ensures.revokes
    c.room_for.ensures.room)
