-- What the text of a script of clients says: each client's operations, in order; and which clients can be served.
use Rattle.std.specs.Prelude.{◌≡◌, ◌++◌, ◌-◌, ◌<◌, ◌≤◌, ⊤, ℕ, Bool, true, false, if◌then◌else◌, List, [], ◌∷◌, Option, Some, None, IfSome, All, Contains, codes, count_by, length, map}
use Rattle.std.specs.List.{AllZip, flat_map}
use Rattle.journal_model.specs.Layout.{Layout, narrow, wide}
use Rattle.log_model.specs.Room.{IsCapacity}
use Rattle.serde_json.specs.Data.{Data, string}
use Rattle.serde_json.specs.Find.{get}
use Rattle.serde_json.specs.Read.{read}
use Rattle.journal_script.specs.Text.{AgreesWith, IsDefaultElse, IsHexOf, list_value, number_value}
use Rattle.journal_script.specs.declared.clients.ClientHandle.{ClientHandle}
use Rattle.journal_script.specs.declared.clients.ClientOperation.{ClientOperation}
use Rattle.journal_script.specs.declared.clients.ClientOperation.TheVariants.{Start, Touches, Stop, Wait}
use Rattle.journal_script.specs.declared.clients.ClientScript.{ClientScript}
use Rattle.journal_script.specs.declared.clients.ClientTouch.{ClientTouch}
use Rattle.journal_script.specs.declared.clients.ClientTouch.TheVariants.{Write, Revoke}
use Rattle.journal_script.specs.declared.clients.OpenHandle.{OpenHandle}
use Rattle.journal_script.specs.declared.clients.Reading.{Reading}
use Rattle.journal_script.specs.declared.measures.Measures.{Measures}

-- the first word of a client's operation
abbrev pub client_word : ClientOperation → List ℕ
client_word (Start credits) = codes "start"
client_word (Touches (Write block bytes)) = codes "write"
client_word (Touches (Revoke block)) = codes "revoke"
client_word Stop = codes "stop"
client_word Wait = codes "wait"

-- the values after that word: credits or a block number, and bytes in hex digits
abbrev pub AreClientArguments : ClientOperation → List Data → Type 0
AreClientArguments (Start credits) values = values ≡ number_value credits ∷ []
AreClientArguments (Touches (Write block bytes)) values = (hex : Data) × IsHexOf bytes.items hex × (values ≡ number_value block ∷ hex ∷ [])
AreClientArguments (Touches (Revoke block)) values = values ≡ number_value block ∷ []
AreClientArguments Stop values = values ≡ []
AreClientArguments Wait values = values ≡ []

-- the value is this operation: a list of its word and its arguments
pub record IsClientOperation (operation : ClientOperation) (value : Data) : Type 0 where
  pub arguments : List Data
  pub are : AreClientArguments operation arguments
  pub is : value ≡ list_value (string (client_word operation) ∷ arguments)

-- the operations of an open handle with these credits and touches
abbrev pub begun : ℕ → List ClientTouch → List ClientOperation
begun credits touches = Start credits ∷ map Touches touches

abbrev pub waiting : Bool → List ClientOperation
waiting true = Wait ∷ []
waiting false = []

-- the operations of a handle from its start to its stop, and the wait for it, if any
abbrev pub operations_of : ClientHandle → List ClientOperation
operations_of h = begun h.credits h.touches.items ++ Stop ∷ waiting h.waits

-- the operations of all handles of a client
abbrev pub client_operations : List ClientHandle → List ClientOperation
client_operations handles = flat_map operations_of handles

-- the value is a client with these handles: the list of their operations
pub record IsClient (handles : List ClientHandle) (value : Data) : Type 0 where
  pub values : List Data
  pub is : value ≡ list_value values
  pub are : AllZip IsClientOperation (client_operations handles) values

-- the handles of each client
abbrev pub handles_of : ClientScript → List (List ClientHandle)
handles_of script = map (λ c. c.items) script.clients.items

-- the value's key `clients` has the list of these clients
pub record HasClients (value : Data) (clients : List (List ClientHandle)) : Type 0 where
  pub lists : List Data
  pub listed : get (codes "clients") value ≡ Some (list_value lists)
  pub are : AllZip IsClient clients lists

-- the text is JSON, whose value has these clients and measures; absent keys have the defaults
pub record IsClientScriptOf (text : List ℕ) (script : ClientScript) : Type 0 where
  pub value : Data
  pub is : read text ≡ Some value
  pub has : HasClients value (handles_of script)
  pub agrees : AgreesWith value script.measures
  pub defaults : IsDefaultElse value script.measures

-- the block of a touch
abbrev pub touched : ClientTouch → ℕ
touched (Write block bytes) = block
touched (Revoke block) = block

-- the list has the block of each touch
abbrev pub HasTouched : List ClientTouch → List ℕ → Type 0
HasTouched touches blocks = All (λ t. Contains blocks (touched t)) touches

abbrev pub HasTouchedAll : List ClientHandle → List ℕ → Type 0
HasTouchedAll handles blocks = All (λ h. HasTouched h.touches.items blocks) handles

-- A journal of this capacity can serve the handle: it asks for no more credits, and for as many as it touches different blocks, all of
-- which exist.
pub record IsServable (capacity home_blocks : ℕ) (handle : ClientHandle) : Type 0 where
  pub few : handle.credits ≤ capacity
  pub there : All (λ t. touched t < home_blocks) handle.touches.items
  pub different : List ℕ
  pub enough : length different ≤ handle.credits
  pub has : HasTouched handle.touches.items different

abbrev pub layout_of : Measures → Layout
layout_of m = if m.wide then wide m.block_size else narrow m.block_size

-- a journal on a device of the script's measures can serve each of its handles
pub record CanBeServed (script : ClientScript) : Type 0 where
  pub capacity : ℕ
  pub is : IsCapacity (layout_of script.measures) (script.measures.log_blocks - 1) capacity
  pub servable : All (All (IsServable capacity script.measures.home_blocks)) (handles_of script)

-- how many handles a client waits for
abbrev pub waits_of : List ClientHandle → ℕ
waits_of handles = count_by (λ h. h.waits) handles

-- the operations of a client that were read so far
abbrev pub open_part : Option OpenHandle → List ClientOperation
open_part None = []
open_part (Some h) = begun h.credits h.touches.items

abbrev pub so_far : Reading → List ClientOperation
so_far reading = client_operations reading.handles.items ++ open_part reading.open

-- each handle that was read so far can be served
pub record AreServable (capacity home_blocks : ℕ) (reading : Reading) : Type 0 where
  pub stopped : All (IsServable capacity home_blocks) reading.handles.items
  pub few : IfSome reading.open (λ h. h.credits ≤ capacity)
  pub there : IfSome reading.open (λ h. All (λ t. touched t < home_blocks) h.touches.items)

-- the handle has at least as many credits as it touches different blocks
pub record HasCredits (handle : OpenHandle) : Type 0 where
  pub different : List ℕ
  pub enough : length different ≤ handle.credits
  pub has : HasTouched handle.touches.items different

-- the block of the operation exists, if it has one
abbrev pub IsOfBlock : ℕ → ClientOperation → Type 0
IsOfBlock home_blocks (Start credits) = ⊤
IsOfBlock home_blocks (Touches t) = touched t < home_blocks
IsOfBlock home_blocks Stop = ⊤
IsOfBlock home_blocks Wait = ⊤
