-- What a function does to a device, counted in calls. This project's own.
use Rattle.std.specs.Prelude.{◌≡◌}
use Rattle.journal_model.specs.Disk.{Disk}
use Rattle.block_device.specs.State.{DeviceState, EachMoment, MakesAtMostOneCall, Moves, Stays}

-- the disk changes at most once
pub data IsOneMoment (old new : DeviceState) : Type 0 where
  Same : Stays old new → IsOneMoment old new
  Another : (disk : Disk) → Moves old new disk → IsOneMoment old new

-- at most one call, with the same shape; if earlier reads were correct, `During` holds at each moment since
pub record MakesOneCall {A : Type 0} (state : A → DeviceState) (Honest : A → Type 0) (During : Disk → Type 0) (old new : A) : Type 0 where
  pub shape : (state new).shape ≡ (state old).shape
  pub moments : Honest old → EachMoment During (state old) (state new)
  pub one : IsOneMoment (state old) (state new)
  pub calls : MakesAtMostOneCall (state old) (state new)
  pub honest : Honest new → Honest old

-- reads change no disk
pub record OnlyReads {A : Type 0} (state : A → DeviceState) (Honest : A → Type 0) (old new : A) : Type 0 where
  pub stays : Stays (state old) (state new)
  pub honest : Honest new → Honest old
