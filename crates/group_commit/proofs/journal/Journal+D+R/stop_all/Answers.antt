use Rattle.std.proofs.Common.{refl, ◌∙◌}
use Rattle.group_commit.specs.Stops.StopsHandles.{NoneStopped, OneMoreStopped}
use Rattle.group_commit.proofs.journal.Journal+D+R.stop_all.Goals as goal

pub loop-init : goal.loop-init
loop-init g c = record { stops = NoneStopped; device = refl }

pub loop-preserved : goal.loop-preserved
loop-preserved g c =
    let one = c.stop_first.ensures.some c.loop-test.true in
    record { stops = OneMoreStopped _ _ c.loop.invariant.stops one; device = one.device ∙ c.loop.invariant.device }
