-- Which facts of holders the steps of a journal preserve, and what a step adds for its own holder.
use Rattle.std.specs.Prelude.{◌≡◌, ◌≢◌, ℕ, Option, Some, None}
use Rattle.journal_world.specs.Front.{Front, FrontEvent}
use Rattle.journal_world.specs.Front.FrontEvent.{Reserve, RefuseReserve, TakeBack, GiveBack, LoadCredits, LoadMark, Join, ExtendHandle, WriteBlock, RevokeBlock, StopHandle, Lock, Raise}
use Rattle.journal_world.specs.Journal.{Event}
use Rattle.journal_world.specs.Journal.Event.{FrontStep, Seal, CommitStep, CommitFault, CheckpointStep, CheckpointFault, ReadBlock, ReadFault, DirectWrite, DirectWriteFault, DirectSync, DirectSyncFault, Finish, AbortMark}
use Rattle.parts.specs.Parts.{MayBecome}
use Rattle.locked_journal.specs.declared.own.OwnSteps.{OwnSteps}
use Rattle.locked_journal.specs.Own.{AreApart, IsOwn}

-- The open handle that makes the step.
abbrev pub handle_of : FrontEvent → Option ℕ
handle_of (Reserve n) = None
handle_of (RefuseReserve n) = None
handle_of (TakeBack n) = None
handle_of (GiveBack n) = None
handle_of (LoadCredits found) = None
handle_of (LoadMark found) = None
handle_of (Join n) = None
handle_of (ExtendHandle h n) = Some h
handle_of (WriteBlock h b v) = Some h
handle_of (RevokeBlock h b) = Some h
handle_of (StopHandle h) = Some h
handle_of Lock = None
handle_of (Raise t) = None

abbrev pub actor : Event → Option ℕ
actor (FrontStep event) = handle_of event
actor Seal = None
actor CommitStep = None
actor CommitFault = None
actor CheckpointStep = None
actor CheckpointFault = None
actor (ReadBlock h b v) = Some h
actor ReadFault = None
actor (DirectWrite b v) = None
actor (DirectWriteFault b v) = None
actor DirectSync = None
actor DirectSyncFault = None
actor Finish = None
actor AbortMark = None

-- Every holder's facts are preserved.
abbrev pub AllStillKnow : Front → Front → Type 0
AllStillKnow old new = (x : OwnSteps) → IsOwn old x → IsOwn new x

-- The facts of every holder but the one of handle n are preserved.
abbrev pub OthersStillKnow : ℕ → Front → Front → Type 0
OthersStillKnow n old new = (x : OwnSteps) → n ≢ x.number → IsOwn old x → IsOwn new x

-- One more holder knows `own` of the new record, and the others' facts are preserved.
abbrev pub MayAdd : Front → Front → OwnSteps → Type 0
MayAdd old new own = MayBecome IsOwn AreApart old None new (Some own)

-- A holder who knew `own` of the old record knows `next` of the new one, and the others' facts are preserved.
abbrev pub MayGo : Front → OwnSteps → Front → OwnSteps → Type 0
MayGo old own new next =
    (had : Option OwnSteps) → had ≡ Some own → ((h : OwnSteps) → had ≡ Some h → IsOwn old h) → MayBecome IsOwn AreApart old had new (Some next)
