use Rattle.std.proofs.Common.{◌∙◌, ap}
use Rattle.locked_journal.proofs.Reaching.{from-requests}
use Rattle.locked_journal.proofs.Counting as counting
use Rattle.locked_journal.proofs.locked.Locked.lock.Goals as goal

-- A lock takes no credit.
pub invariant_of-self-2 : goal.invariant_of-self-2
invariant_of-self-2 g c =
    let old = c.self.inside.journal in
    let new = c.request_commit.new.self in (
      counting.request g.D.Device.state g.J.JournalName.name.capacity g.J.JournalName.name.shape c.self.inside.credits c.self.inside.raiser old new c.self.invariant.0
          (ap (λ (d : g.row.D.Denot). (g.D.Device.state d).shape) c.request_commit.ensures.device) c.tid-tid.result c.in_ok-request_commit.ensures.ok,
      c.go_on.ensures ∙ c.front-2.ensures,
      from-requests g.D.Device.state g.D.Device.honest g.J.JournalName.name old new c.self.invariant.2 c.tid-tid.result c.request_commit.ensures.device c.in_ok-request_commit.ensures.ok,
    )
