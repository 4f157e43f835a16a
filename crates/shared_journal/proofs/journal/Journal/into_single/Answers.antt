use Rattle.std.proofs.Common.{ap, ◌∙◌}
use Rattle.shared_journal.proofs.Stopped.{stopped-capacity, stopped-comes, stopped-reserved}
use Rattle.shared_journal.proofs.journal.Journal.into_single.Goals as goal

-- What the last stops leave is as it was before them.
pub returns-clause-reserved : goal.returns-clause-reserved
returns-clause-reserved g c = stopped-reserved g.D.Device.state _ _ c.stop_all.ensures.stops ∙ c.into_single-journal.ensures.reserved

pub returns-clause-capacity : goal.returns-clause-capacity
returns-clause-capacity g c = stopped-capacity g.D.Device.state _ _ c.stop_all.ensures.stops ∙ c.into_single-journal.ensures.capacity

pub returns-clause-shape : goal.returns-clause-shape
returns-clause-shape g c = ap (λ (d : g.row.D.Denot). (g.D.Device.state d).shape) c.stop_all.ensures.device ∙ c.into_single-journal.ensures.shape

pub returns-clause-comes : goal.returns-clause-comes
returns-clause-comes g c =
    stopped-comes g.D.Device.state _ g.D.Device.honest g.J.JournalName.name c.into_single-journal.ensures.comes _ c.stop_all.ensures.stops
