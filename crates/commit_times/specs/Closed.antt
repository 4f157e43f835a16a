-- What a closed journal leaves on its device.
use Rattle.journal_model.specs.Disk.{Image, Leaves}
use Rattle.journal_model.specs.Transaction.{History}
use Rattle.block_device.specs.State.{DeviceState}
use Rattle.log_epochs.specs.JournalPromise.{IsClosed}

-- for some sealed transactions, each crash image has a clean log and opens to all of them
pub record IsLeftClosed (state : DeviceState) : Type 0 where
  pub sealed : History
  pub each : (image : Image) → Leaves state.disk image → IsClosed state.shape sealed image
