use Rattle.std.proofs.Common.{ap, subst, ◌∙◌, ◌≡◌, ◌+◌, ◌-◌, ◌≤◌, ℕ, arith}
use Rattle.checkpoint.specs.Pending.{IsReleased}
use Rattle.journal_world.specs.declared.round.Round.TheVariants.{Idle as NoRound, TailFlush}
use Rattle.journal_world.specs.Checkpoint.RoundCall.{FlushTail}
use Rattle.journal_world.proofs.Positions.{tail-end}
use Rattle.log_ring.specs.Ring.{RingValue}
use Rattle.log_ledger.specs.Ledger.{engine_of}
use Rattle.log_ledger.proofs.Ledgers.{kept-fewer, on-bound}
use Rattle.log_ledger.proofs.Pendings.{released-keeps}
use Rattle.log_ledger.proofs.Rounds.{gone}
use Rattle.log_ledger.proofs.ledger.Ledger.release.Goals as goal

-- the tail lies before the end of the round's transactions
pub overflow_sub-self : goal.overflow_sub-self
overflow_sub-self c =
    let on = c.requires.can_run in
    let low = tail-end (engine_of on.shape c.args.self.now) on.runs.plain in
    let tail = c.tail.ensures.tail in
    omega arith

-- the round releases some of the transactions
pub overflow_sub-self-2 : goal.overflow_sub-self-2
overflow_sub-self-2 c = c.requires.can_run.runs.plain.order.0

-- whose batches are kept
pub drain-requires-clause-in_bounds : goal.drain-requires-clause-in_bounds
drain-requires-clause-in_bounds c = on-bound c.args.self.now _ c.requires.can_run

-- they are released
pub returns-clause-gone : goal.returns-clause-gone
returns-clause-gone c = λ shape runs.
    let l = c.args.self.now in
    let e = engine_of shape l in
    let plain = runs.plain in
    let low : l.ring.tail ≤ l.bound_position = tail-end e plain in
    let at : l.ring.tail + (l.bound_position - c.tail.result) ≡ l.bound_position = (let tail = c.tail.ensures.tail in omega arith) in
    let ring : c.release-2.new.self ≡ record l.ring { tail = l.bound_position } =
    c.release-2.ensures.released ∙ ap (λ (n : ℕ). record l.ring { tail = n }) at in
    let is = ap (λ (r : RingValue). record e { ring = r.ring; tail = r.tail; released = l.bound; round = NoRound }) ring in
    let releases = subst (λ (n : ℕ). IsReleased l.pending n c.release.new.self) c.last_of_round-last.ensures.last c.release.ensures.released in
    gone shape l _ TailFlush _ _ runs c.requires.round (λ none. cc) FlushTail is (ap (λ (r : RingValue). r.head) ring)
    (released-keeps e l.pending c.release.new.self plain c.requires.round runs.pending releases c.release.ensures.kept)
    (c.drop-drain.ensures.items ∙ c.drain.ensures.kept ∙ kept-fewer l runs.kept plain.order.0)
