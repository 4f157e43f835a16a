-- A device's calls on its files, each with its answer. This project's own.
use Rattle.std.specs.Prelude.{ℕ, List}
use Rattle.journal_model.specs.declared.number.Area.{Area}

-- A call on the file of an area. Lengths and places are in bytes, places from the beginning of the file.
pub data FileCall : Type 0 where
  Measured : Area → ℕ → FileCall  -- the file's length, or the part of it that the area has; 0 for an area without a file
  Read : Area → ℕ → List ℕ → FileCall  -- these bytes came from this place on
  ReadFailed : Area → ℕ → FileCall  -- a read from this place on failed
  Wrote : Area → ℕ → List ℕ → FileCall  -- these bytes were taken at this place
  WriteFailed : Area → ℕ → List ℕ → FileCall  -- these bytes were handed over for this place, and the call failed
  GatheredFailed : Area → ℕ → List ℕ → FileCall  -- these bytes of gathered blocks were handed over in one call, and it failed
  Synced : Area → FileCall  -- the file was synced
  SyncFailed : Area → FileCall  -- a sync of the file failed
