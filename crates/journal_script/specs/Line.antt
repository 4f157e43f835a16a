-- The left side of an operation's line, as it is printed.
use Rattle.std.specs.Prelude.{ℕ, ◌++◌, List, [], Option, Some, None, codes}
use Rattle.std.specs.Fmt.{decimal}
use Rattle.journal_script.specs.declared.script.Operation.{Operation}
use Rattle.journal_script.specs.declared.script.Operation.TheVariants.{Start, Write, Revoke, Read, Extend, Restart, Stop, Request, Lock, Turn, Commit, CheckpointTurn, Check, Status, Wait, WriteDirect, SyncDirect}

-- the first word
abbrev pub word_of : Operation → List ℕ
word_of (Start name credits) = codes "start"
word_of (Write name block bytes) = codes "write"
word_of (Revoke name block) = codes "revoke"
word_of (Read name block) = codes "read"
word_of (Extend name credits) = codes "extend"
word_of (Restart name credits) = codes "restart"
word_of (Stop name) = codes "stop"
word_of (Request name) = codes "request"
word_of Lock = codes "lock"
word_of Turn = codes "turn"
word_of Commit = codes "commit"
word_of CheckpointTurn = codes "ckturn"
word_of Check = codes "check"
word_of (Status name) = codes "status"
word_of (Wait name) = codes "wait"
word_of (WriteDirect block bytes) = codes "direct"
word_of SyncDirect = codes "sync"

-- the handle, if any
abbrev pub handle_in : Operation → Option ℕ
handle_in (Start name credits) = Some name
handle_in (Write name block bytes) = Some name
handle_in (Revoke name block) = Some name
handle_in (Read name block) = Some name
handle_in (Extend name credits) = Some name
handle_in (Restart name credits) = Some name
handle_in (Stop name) = Some name
handle_in (Request name) = Some name
handle_in Lock = None
handle_in Turn = None
handle_in Commit = None
handle_in CheckpointTurn = None
handle_in Check = None
handle_in (Status name) = Some name
handle_in (Wait name) = Some name
handle_in (WriteDirect block bytes) = None
handle_in SyncDirect = None

-- the number of credits or of a block, if any
abbrev pub number_in : Operation → Option ℕ
number_in (Start name credits) = Some credits
number_in (Write name block bytes) = Some block
number_in (Revoke name block) = Some block
number_in (Read name block) = Some block
number_in (Extend name credits) = Some credits
number_in (Restart name credits) = Some credits
number_in (Stop name) = None
number_in (Request name) = None
number_in Lock = None
number_in Turn = None
number_in Commit = None
number_in CheckpointTurn = None
number_in Check = None
number_in (Status name) = None
number_in (Wait name) = None
number_in (WriteDirect block bytes) = Some block
number_in SyncDirect = None

-- a blank and a number, if any; and an operation's text
abbrev pub behind_blank : Option ℕ → List ℕ
behind_blank None = []
behind_blank (Some n) = codes " " ++ decimal n

abbrev pub operation_text : Operation → List ℕ
operation_text operation = word_of operation ++ behind_blank (handle_in operation) ++ behind_blank (number_in operation)
