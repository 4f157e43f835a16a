-- What an epoch of a log is: from an opening that answered Ok to the next one that does.
use Rattle.std.specs.Prelude.{ℕ, List, [], ◌∷◌, Option, Some, None, unwrap_or}
use Rattle.journal_model.specs.Disk.{Disk, Image, Shape}
use Rattle.journal_world.specs.Engine.{Engine}
use Rattle.journal_world.specs.Journal.{fresh_engine}
use Rattle.log_epochs.specs.OpeningSteps.{OpeningStage}
use Rattle.log_epochs.specs.OpeningSteps.OpeningStage.{LogFlush, Copies, SuperblockWrite, SuperblockFlush, Done}

pub record Epoch : Type 0 where
  pub opening : Disk  -- as that opening left it
  pub engine : Engine  -- its accepted batches are the epoch's history
  pub directs : List (ℕ × List ℕ)  -- blocks and bytes of direct writes since then, newest first
  -- The epoch's first crash image, or what the device read when an opening flushed the log before any crash. Its
  -- log's count pins n for the rest of the epoch.
  pub pin : Option Image

-- an ended epoch, and the disk as the opening that ended it left it
pub record Ended : Type 0 where
  pub epoch : Epoch
  pub after : Disk

abbrev pub fresh_epoch : Shape → List ℕ → ℕ → Disk → Epoch
fresh_epoch shape superblock next disk = record { opening = disk; engine = fresh_engine shape superblock next; directs = []; pin = None }

-- the image becomes the pin, if there is none
abbrev pub pinned : Epoch → Image → Epoch
pinned epoch image = record epoch { pin = Some (unwrap_or epoch.pin image) }

abbrev pub pinning : Option Epoch → Image → Option Epoch
pinning None image = None
pinning (Some epoch) image = Some (pinned epoch image)

-- an opening's flush of the log pins what the device reads
abbrev pub pinning_at : OpeningStage → Option Epoch → Image → Option Epoch
pinning_at LogFlush epoch image = pinning epoch image
pinning_at Copies epoch image = epoch
pinning_at SuperblockWrite epoch image = epoch
pinning_at SuperblockFlush epoch image = epoch
pinning_at Done epoch image = epoch

abbrev pub ending : Option Epoch → Disk → List Ended → List Ended
ending None after ended = ended
ending (Some epoch) after ended = record { epoch = epoch; after = after } ∷ ended
