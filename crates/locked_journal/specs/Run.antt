-- A journal's run of events, and one handle's steps in it.
use Rattle.std.specs.Prelude.{◌≡◌, List, [], ◌∷◌, ◌++◌}
use Rattle.journal_model.specs.declared.transaction.Step.{Step}
use Rattle.journal_model.specs.Disk.{Disk}
use Rattle.journal_world.specs.Front.{Front, FrontEvent, read_step, revoke_step, write_step}
use Rattle.journal_world.specs.Front.FrontEvent.{Reserve, RefuseReserve, TakeBack, GiveBack, LoadCredits, LoadMark, Join, ExtendHandle, WriteBlock, RevokeBlock, StopHandle, Lock, Raise}
use Rattle.journal_world.specs.Journal.{Event, Happens, Journal}
use Rattle.journal_world.specs.Journal.Event.{FrontStep, Seal, CommitStep, CommitFault, CheckpointStep, CheckpointFault, ReadBlock, ReadFault, DirectWrite, DirectWriteFault, DirectSync, DirectSyncFault, Finish, AbortMark}
use Rattle.locked_journal.specs.declared.own.HandleStage.{HandleStage}
use Rattle.locked_journal.specs.declared.own.OwnSteps.{OwnSteps}
use Rattle.locked_journal.specs.Own.{IsOwn}

-- The journal runs through these events in order.
abbrev pub Runs : Journal → Disk → List Event → Journal → Disk → Type 0
Runs old disk [] new after = (new ≡ old) × (after ≡ disk)
Runs old disk (event ∷ events) new after =
    (mid : Journal) × (between : Disk) × Happens old disk event mid between × Runs mid between events new after

-- The steps on blocks, each as a step of its handle.
abbrev pub front_steps : FrontEvent → List Step
front_steps (Reserve n) = []
front_steps (RefuseReserve n) = []
front_steps (TakeBack n) = []
front_steps (GiveBack n) = []
front_steps (LoadCredits found) = []
front_steps (LoadMark found) = []
front_steps (Join n) = []
front_steps (ExtendHandle h n) = []
front_steps (WriteBlock h b v) = write_step h b v ∷ []
front_steps (RevokeBlock h b) = revoke_step h b ∷ []
front_steps (StopHandle h) = []
front_steps Lock = []
front_steps (Raise t) = []

abbrev pub block_steps : Event → List Step
block_steps (FrontStep event) = front_steps event
block_steps Seal = []
block_steps CommitStep = []
block_steps CommitFault = []
block_steps CheckpointStep = []
block_steps CheckpointFault = []
block_steps (ReadBlock h b v) = read_step h b v ∷ []
block_steps ReadFault = []
block_steps (DirectWrite b v) = []
block_steps (DirectWriteFault b v) = []
block_steps DirectSync = []
block_steps DirectSyncFault = []
block_steps Finish = []
block_steps AbortMark = []

-- The holder's handle, at some stage, is recorded with the steps that the holder knows, and then these.
abbrev pub HasMade : Front → OwnSteps → List Step → Type 0
HasMade f own made = (stage : HandleStage) × IsOwn f (record own { steps = own.steps ++ made; stage = stage })
