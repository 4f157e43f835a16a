-- The words of a script's operations.
use Rattle.std.specs.Prelude.{ℕ, List, codes}
use Rattle.journal_script.specs.declared.error.OperationName.{OperationName}
use Rattle.journal_script.specs.declared.error.OperationName.TheVariants.{Start, Write, Revoke, Read, Extend, Restart, Stop, Request, Lock, Turn, Commit, CheckpointTurn, Check, Status, Wait, WriteDirect, SyncDirect}

abbrev pub name_word : OperationName → List ℕ
name_word Start = codes "start"
name_word Write = codes "write"
name_word Revoke = codes "revoke"
name_word Read = codes "read"
name_word Extend = codes "extend"
name_word Restart = codes "restart"
name_word Stop = codes "stop"
name_word Request = codes "request"
name_word Lock = codes "lock"
name_word Turn = codes "turn"
name_word Commit = codes "commit"
name_word CheckpointTurn = codes "ckturn"
name_word Check = codes "check"
name_word Status = codes "status"
name_word Wait = codes "wait"
name_word WriteDirect = codes "direct"
name_word SyncDirect = codes "sync"
