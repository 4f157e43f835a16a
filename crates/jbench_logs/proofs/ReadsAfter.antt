-- A fact of each moment stays one through later calls.
use Rattle.journal_model.specs.Disk.{Disk}
use Rattle.block_device.specs.State.{DeviceState, EachMoment, Moves, Stays}
use Rattle.block_device.proofs.Moments.{each-joins, each-moves, each-stays}
use Rattle.journal_world.proofs.Elements.{all-weaker}

pub each-read : (P : Disk → Type 0) (a b c : DeviceState) → EachMoment P a b → Stays b c → EachMoment P a c
each-read P a b c each stays = each-joins P a b c each (each-stays P b c stays each.now)

-- a fact of each moment of the log's making, in the words of the command
pub each-of-log : (P Q : Disk → Type 0) (a b : DeviceState) → ((disk : Disk) → P disk → Q disk) → EachMoment P a b → EachMoment Q a b
each-of-log P Q a b weaker each = record { since = each.since; past = each.past; each = all-weaker P Q weaker each.since each.each; now = weaker b.disk each.now }

-- home is made durable after them
pub each-flushed : (P : Disk → Type 0) (a b c : DeviceState) (disk : Disk) → EachMoment P a b → Moves b c disk → P disk → EachMoment P a c
each-flushed P a b c disk each moves holds = each-joins P a b c each (each-moves P b c disk moves each.now holds)
