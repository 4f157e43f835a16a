-- The blocks that a script names.
use Rattle.std.specs.Prelude.{◌≡◌, ℕ, ◌<◌, List, Option, Some, None, Contains}
use Rattle.std.specs.BTreeSet.{keys}
use Rattle.journal_script.specs.declared.script.NamedBlocks.{NamedBlocks}
use Rattle.journal_script.specs.declared.script.Operation.{Operation}
use Rattle.journal_script.specs.declared.script.Operation.TheVariants.{Start, Write, Revoke, Read, Extend, Restart, Stop, Request, Lock, Turn, Commit, CheckpointTurn, Check, Status, Wait, WriteDirect, SyncDirect}
use Rattle.journal_script.specs.declared.script.Script.{Script}

-- the block that an operation names, if any
abbrev pub block_in : Operation → Option ℕ
block_in (Write name block bytes) = Some block
block_in (Revoke name block) = Some block
block_in (Read name block) = Some block
block_in (WriteDirect block bytes) = Some block
block_in (Start name credits) = None
block_in (Extend name credits) = None
block_in (Restart name credits) = None
block_in (Stop name) = None
block_in (Request name) = None
block_in Lock = None
block_in Turn = None
block_in Commit = None
block_in CheckpointTurn = None
block_in Check = None
block_in (Status name) = None
block_in (Wait name) = None
block_in SyncDirect = None

-- the block that an operation writes directly, if any
abbrev pub direct_in : Operation → Option ℕ
direct_in (WriteDirect block bytes) = Some block
direct_in (Write name block bytes) = None
direct_in (Revoke name block) = None
direct_in (Read name block) = None
direct_in (Start name credits) = None
direct_in (Extend name credits) = None
direct_in (Restart name credits) = None
direct_in (Stop name) = None
direct_in (Request name) = None
direct_in Lock = None
direct_in Turn = None
direct_in Commit = None
direct_in CheckpointTurn = None
direct_in Check = None
direct_in (Status name) = None
direct_in (Wait name) = None
direct_in SyncDirect = None

-- one of the operations writes this block directly
pub record IsDirectOf (operations : List Operation) (b : ℕ) : Type 0 where
  pub operation : Operation
  pub one : Contains operations operation
  pub writes : direct_in operation ≡ Some b

-- the list has each home block that an operation names
abbrev pub HasNamed : ℕ → List Operation → List ℕ → Type 0
HasNamed home_blocks operations named =
    (operation : Operation) (b : ℕ) → Contains operations operation → block_in operation ≡ Some b → b < home_blocks → Contains named b

-- the list has exactly the blocks that an operation writes directly
pub record HasDirects (operations : List Operation) (directs : List ℕ) : Type 0 where
  pub all : (b : ℕ) → IsDirectOf operations b → Contains directs b
  pub only : (b : ℕ) → Contains directs b → IsDirectOf operations b

-- the blocks have each home block that the script names, and the directs are exactly those of its direct writes
pub record AreNamedBy (script : Script) (named : NamedBlocks) : Type 0 where
  pub blocks : HasNamed script.measures.home_blocks script.operations.items (keys named.blocks)
  pub directs : HasDirects script.operations.items (keys named.directs)
