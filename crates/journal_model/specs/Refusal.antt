-- The refusals and their numbers, this project's own. Those of an opening are what fs/jbd2 tests when it
-- loads a journal, except as docs/DECISIONS.md names.
use Rattle.std.specs.Prelude.{ℕ, ◌++◌, List, codes}
use Rattle.std.specs.Fmt.{decimal}
use Rattle.journal_model.specs.declared.refusal.JournalError.{JournalError}
use Rattle.journal_model.specs.declared.refusal.JournalError.TheVariants.{Memory, Device, Aborted, NoCredit, Full, TooMany, NotRunning, BadBlock, NotDirect, SequenceEnd, NeedSpace, Revoked, BadMagic, BadType, BadBlockSize, BadLength, BadFirst, BadFeature, BadStart, ErrnoSet, Ahead, Damage, AlreadyWide, NotEmpty}

abbrev pub number_of : JournalError → ℕ
number_of Memory = 1
number_of Device = 2
number_of Aborted = 3
number_of NoCredit = 4
number_of Full = 5
number_of TooMany = 6
number_of NotRunning = 7
number_of BadBlock = 8
number_of NotDirect = 9
number_of SequenceEnd = 10
number_of NeedSpace = 11
number_of Revoked = 12
number_of BadMagic = 13
number_of BadType = 14
number_of BadBlockSize = 15
number_of BadLength = 16
number_of BadFirst = 17
number_of BadFeature = 18
number_of BadStart = 19
number_of ErrnoSet = 20
number_of (Ahead place) = 21
number_of (Damage place) = 22
number_of AlreadyWide = 23
number_of NotEmpty = 24

-- the name, with the block's place if it has one
abbrev pub refusal_text : JournalError → List ℕ
refusal_text Memory = codes "Memory"
refusal_text Device = codes "Device"
refusal_text Aborted = codes "Aborted"
refusal_text NoCredit = codes "NoCredit"
refusal_text Full = codes "Full"
refusal_text TooMany = codes "TooMany"
refusal_text NotRunning = codes "NotRunning"
refusal_text BadBlock = codes "BadBlock"
refusal_text NotDirect = codes "NotDirect"
refusal_text SequenceEnd = codes "SequenceEnd"
refusal_text NeedSpace = codes "NeedSpace"
refusal_text Revoked = codes "Revoked"
refusal_text BadMagic = codes "BadMagic"
refusal_text BadType = codes "BadType"
refusal_text BadBlockSize = codes "BadBlockSize"
refusal_text BadLength = codes "BadLength"
refusal_text BadFirst = codes "BadFirst"
refusal_text BadFeature = codes "BadFeature"
refusal_text BadStart = codes "BadStart"
refusal_text ErrnoSet = codes "ErrnoSet"
refusal_text (Ahead place) = codes "Ahead " ++ decimal place
refusal_text (Damage place) = codes "Damage " ++ decimal place
refusal_text AlreadyWide = codes "AlreadyWide"
refusal_text NotEmpty = codes "NotEmpty"

-- what happened
abbrev pub cause_of : JournalError → List ℕ
cause_of Memory = codes "memory ran out, or a thread could not be started"
cause_of Device = codes "the device failed during this call"
cause_of Aborted = codes "the device failed in an earlier call"
cause_of NoCredit = codes "no credit is left for a block that is new to the transaction, or the handle or the credits are of another journal"
cause_of Full = codes "the credits held leave fewer than asked"
cause_of TooMany = codes "more credits than one transaction can have, or more tasks than a journal can serve"
cause_of NotRunning = codes "the transaction takes no more handles, other handles are open, or the ticket is of another journal"
cause_of BadBlock = codes "home has no such block, the log can not spell its number, or the bytes are not one block"
cause_of NotDirect = codes "the block is not left to home, so it takes no direct write"
cause_of SequenceEnd = codes "no number is left for a transaction or a handle"
cause_of NeedSpace = codes "the ring has fewer free blocks than the transaction needs"
cause_of Revoked = codes "an uncommitted transaction revoked the block last"
cause_of BadMagic = codes "the superblock does not begin with the magic"
cause_of BadType = codes "the type of the superblock is not 4"
cause_of BadBlockSize = codes "s_blocksize is not 1024, 2048 or 4096, or is not that of the device"
cause_of BadLength = codes "the length of the log is outside its limits or above the blocks of the log area, or that has no block"
cause_of BadFirst = codes "s_first is 0, or leaves a ring of fewer than 16 blocks"
cause_of BadFeature = codes "a feature is not taken, or s_nr_users is not 1"
cause_of BadStart = codes "s_start is not 0, and outside the ring"
cause_of ErrnoSet = codes "s_errno is not 0"
cause_of (Ahead place) = codes "that block has a number above what the log may hold"
cause_of (Damage place) = codes "that block is malformed"
cause_of AlreadyWide = codes "the log has 64-bit block numbers already"
cause_of NotEmpty = codes "the log is not clean"

-- the sentence with number, name and cause
abbrev pub sentence_of : JournalError → List ℕ
sentence_of e = codes "refusal " ++ decimal (number_of e) ++ codes " " ++ refusal_text e ++ codes ": " ++ cause_of e
