-- How each event of a front changes the credits held and the credit word.
-- Source: journalling.rst (the credits of handles).
use Rattle.std.specs.Prelude.{◌≡◌, ⊤, ℕ, ◌+◌, List, length, map}
use Rattle.journal_model.specs.Credits.{Accounts}
use Rattle.journal_model.specs.Transaction.{entries}
use Rattle.journal_world.specs.Front.{Front, FrontEvent, IsOpen, held}
use Rattle.journal_world.specs.Front.FrontEvent.{Reserve, RefuseReserve, TakeBack, GiveBack, LoadCredits, LoadMark, Join, ExtendHandle, WriteBlock, RevokeBlock, StopHandle, Lock, Raise}
use Rattle.journal_world.specs.Journal.{Event, Journal}
use Rattle.journal_world.specs.Journal.Event.{FrontStep, Seal, CommitStep, CommitFault, CheckpointStep, CheckpointFault, ReadBlock, ReadFault, DirectWrite, DirectWriteFault, DirectSync, DirectSyncFault, Finish, AbortMark}

abbrev pub HeldAfter : Front → FrontEvent → ℕ → Type 0
HeldAfter old (Reserve n) after = after ≡ held old + n
HeldAfter old (RefuseReserve n) after = after ≡ held old
HeldAfter old (TakeBack n) after = after ≡ held old
HeldAfter old (GiveBack n) after = after + n ≡ held old
HeldAfter old (LoadCredits found) after = after ≡ held old
HeldAfter old (LoadMark found) after = after ≡ held old
HeldAfter old (Join n) after = after ≡ held old
HeldAfter old (ExtendHandle h n) after = after ≡ held old
HeldAfter old (WriteBlock h b v) after = after ≡ held old
HeldAfter old (RevokeBlock h b) after = after ≡ held old
HeldAfter old (StopHandle h) after = (handle : IsOpen old h) × (after + handle.left ≡ held old)
HeldAfter old Lock after = after ≡ held old
HeldAfter old (Raise t) after = after ≡ held old

-- what refused reserves still have in the word
abbrev pub RefusedAfter : Front → FrontEvent → ℕ → Type 0
RefusedAfter old (Reserve n) after = after ≡ old.refused
RefusedAfter old (RefuseReserve n) after = after ≡ old.refused + n
RefusedAfter old (TakeBack n) after = after + n ≡ old.refused
RefusedAfter old (GiveBack n) after = after ≡ old.refused
RefusedAfter old (LoadCredits found) after = after ≡ old.refused
RefusedAfter old (LoadMark found) after = after ≡ old.refused
RefusedAfter old (Join n) after = after ≡ old.refused
RefusedAfter old (ExtendHandle h n) after = after ≡ old.refused
RefusedAfter old (WriteBlock h b v) after = after ≡ old.refused
RefusedAfter old (RevokeBlock h b) after = after ≡ old.refused
RefusedAfter old (StopHandle h) after = after ≡ old.refused
RefusedAfter old Lock after = after ≡ old.refused
RefusedAfter old (Raise t) after = after ≡ old.refused

-- the front with so many more reserved and refused credits
abbrev pub beside : ℕ → ℕ → Front → Front
beside reserved refused f = record f { reserved = f.reserved + reserved; refused = f.refused + refused }

-- neither a caller's step on the credit word nor a load of the mark
abbrev pub IsAtHand : FrontEvent → Type 0
IsAtHand (Reserve n) = ⊥
IsAtHand (RefuseReserve n) = ⊥
IsAtHand (TakeBack n) = ⊥
IsAtHand (GiveBack n) = ⊥
IsAtHand (LoadCredits found) = ⊥
IsAtHand (LoadMark found) = ⊥
IsAtHand (Join n) = ⊤
IsAtHand (ExtendHandle h n) = ⊤
IsAtHand (WriteBlock h b v) = ⊤
IsAtHand (RevokeBlock h b) = ⊤
IsAtHand (StopHandle h) = ⊤
IsAtHand Lock = ⊤
IsAtHand (Raise t) = ⊤

-- where the credits of a front lie: in `values`, with open handles, one with each entry of the running transaction; and
-- what each refused reserve has not taken back
abbrev pub accounts_of : Front → (values refused : List ℕ) → Accounts
accounts_of f values refused = record {
  values = values;
  handles = map (λ h. h.1) f.open_handles;
  entries = length (entries f.running.steps);
  refused = refused;
}

-- a seal returns the credits of the transaction's entries
abbrev pub HeldAfterEvent : Front → Event → ℕ → Type 0
HeldAfterEvent old (FrontStep event) after = HeldAfter old event after
HeldAfterEvent old Seal after = after + length (entries old.running.steps) ≡ held old
HeldAfterEvent old CommitStep after = after ≡ held old
HeldAfterEvent old CommitFault after = after ≡ held old
HeldAfterEvent old CheckpointStep after = after ≡ held old
HeldAfterEvent old CheckpointFault after = after ≡ held old
HeldAfterEvent old (ReadBlock h b v) after = after ≡ held old
HeldAfterEvent old ReadFault after = after ≡ held old
HeldAfterEvent old (DirectWrite b v) after = after ≡ held old
HeldAfterEvent old (DirectWriteFault b v) after = after ≡ held old
HeldAfterEvent old DirectSync after = after ≡ held old
HeldAfterEvent old DirectSyncFault after = after ≡ held old
HeldAfterEvent old Finish after = after ≡ held old
HeldAfterEvent old AbortMark after = after ≡ held old

abbrev pub NeedsFront : Event → Type 0
NeedsFront (FrontStep event) = IsAtHand event
NeedsFront Seal = ⊤
NeedsFront CommitStep = ⊤
NeedsFront CommitFault = ⊤
NeedsFront CheckpointStep = ⊤
NeedsFront CheckpointFault = ⊤
NeedsFront (ReadBlock h b v) = ⊤
NeedsFront ReadFault = ⊤
NeedsFront (DirectWrite b v) = ⊤
NeedsFront (DirectWriteFault b v) = ⊤
NeedsFront DirectSync = ⊤
NeedsFront DirectSyncFault = ⊤
NeedsFront Finish = ⊤
NeedsFront AbortMark = ⊤

abbrev pub beside_all : ℕ → ℕ → Journal → Journal
beside_all reserved refused j = record j { front = beside reserved refused j.front }
