use Rattle.std.proofs.Common.{arith, refl}
use Rattle.byte_volume.specs.Refusals.CouldNotStart.{ByNumber}
use Rattle.byte_volume.proofs.LastNumbers.{joined-after, none-left}
use Rattle.byte_volume.proofs.numbers.start.Goals as goal

-- no number was left before
pub returns-then-numbers_left-eq0-clause-err : goal.returns-then-numbers_left-eq0-clause-err
returns-then-numbers_left-eq0-clause-err g c = ByNumber refl (none-left g.D.Device.state g.D.Device.honest g.J.JournalName.name (rw c.if-numbers_left-eq0.true at c.numbers_left.ensures))

-- the handle joined a transaction after the last one
pub returns-clause-err : goal.returns-clause-err
returns-clause-err g c =
    ByNumber refl
    (joined-after g.D.Device.state c.args.credits c.in_ok-handle.handle.handle c.in_ok-handle.ensures.joins
    (omega (arith, c.tid.ensures, c.tid-2.view_is, c.if-tid-le-LAST_TAKEN.false)))
