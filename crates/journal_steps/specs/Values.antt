-- A front and an engine with its device, as one journal.
use Rattle.journal_world.specs.Front.{Front}
use Rattle.journal_world.specs.Journal.{Journal}
use Rattle.log_engine.specs.Engine.{EngineValue}

-- a journal and its device
pub record JournalValue (D : Type 0) : Type 0 where
  pub device : D
  pub journal : Journal

-- the journal of a front and an engine with its device
abbrev pub together : {D : Type 0} → Front → EngineValue D → JournalValue D
together f e = record { device = e.device; journal = record { front = f; engine = e.engine } }
