-- A journal whose open handles were stopped one after another.
use Rattle.std.proofs.Common.{refl, ap, ◌∙◌}
use Rattle.std.specs.Prelude.{◌≡◌}
use Rattle.block_device.specs.State.{DeviceState}
use Rattle.handle.specs.Name.{JournalId}
use Rattle.journal_world.specs.Front.{Front}
use Rattle.journal_world.specs.Front.FrontEvent.{StopHandle}
use Rattle.journal_steps.specs.Values.{JournalValue}
use Rattle.group_commit.specs.Stops.{StopsHandles}
use Rattle.group_commit.specs.Stops.StopsHandles.{NoneStopped, OneMoreStopped}
use Rattle.locked_journal.specs.Begun.{ComesFrom}
use Rattle.locked_journal.proofs.Reaching.{from-front}

module _ {D : Type 0} (state : D → DeviceState) (old : JournalValue D) where
  -- The credits in no handle, and the most that can be held, stay.
  pub stopped-reserved : (new : JournalValue D) → StopsHandles state old new → new.journal.front.reserved ≡ old.journal.front.reserved
  stopped-reserved new NoneStopped = refl
  stopped-reserved new (OneMoreStopped mid next before one) = ap (λ (f : Front). f.reserved) one.stops.front.after ∙ stopped-reserved mid before

  pub stopped-capacity : (new : JournalValue D) → StopsHandles state old new → new.journal.front.capacity ≡ old.journal.front.capacity
  stopped-capacity new NoneStopped = refl
  stopped-capacity new (OneMoreStopped mid next before one) = ap (λ (f : Front). f.capacity) one.stops.front.after ∙ stopped-capacity mid before

  -- Each stop is a move of the machine.
  pub stopped-comes : (honest : D → Type 0) (name : JournalId) → ComesFrom state honest name old → (new : JournalValue D) → StopsHandles state old new →
      ComesFrom state honest name new
  stopped-comes honest name was new NoneStopped = was
  stopped-comes honest name was new (OneMoreStopped mid next before one) =
      from-front state honest name mid next (stopped-comes honest name was mid before) (StopHandle one.handle) one.device one.stops
