-- What the text of a script says: its operations, in order, and measures.
use Rattle.std.specs.Prelude.{◌≡◌, ◌++◌, ⊤, ℕ, false, List, [], ◌∷◌, Option, Some, Ok, IfSome, MatchOption, codes, replicate}
use Rattle.hex.specs.Hex.{decode_of}
use Rattle.serde_json.specs.Data.{Data, array, boolean, number, string, unsigned}
use Rattle.serde_json.specs.Find.{get}
use Rattle.serde_json.specs.Read.{read}
use Rattle.serde_json.specs.View.{items_of}
use Rattle.journal_script.specs.Line.{word_of}
use Rattle.journal_script.specs.declared.error.Key.{Key}
use Rattle.journal_script.specs.declared.error.Key.TheVariants.{Operations, Block, Length, Home, Uuid, Wide}
use Rattle.journal_script.specs.declared.measures.Measures.{Measures}
use Rattle.journal_script.specs.declared.script.Operation.{Operation}
use Rattle.journal_script.specs.declared.script.Operation.TheVariants.{Start, Write, Revoke, Read, Extend, Restart, Stop, Request, Lock, Turn, Commit, CheckpointTurn, Check, Status, Wait, WriteDirect, SyncDirect}

-- the keys of a script
abbrev pub key_name : Key → List ℕ
key_name Operations = codes "ops"
key_name Block = codes "block"
key_name Length = codes "length"
key_name Home = codes "home"
key_name Uuid = codes "uuid"
key_name Wide = codes "wide"

-- a list, and a whole number, as JSON values
abbrev pub list_value : List Data → Data
list_value values = array (items_of values)

abbrev pub number_value : ℕ → Data
number_value n = number (unsigned n)

-- the value is a text of hex digits of these bytes
pub record IsHexOf (bytes : List ℕ) (value : Data) : Type 0 where
  pub digits : List ℕ
  pub is : value ≡ string digits
  pub decoded : decode_of digits ≡ Ok bytes

-- the values after an operation's name: its handle, its credits or block number, and its bytes in hex digits
abbrev pub AreArguments : Operation → List Data → Type 0
AreArguments (Start name credits) values = values ≡ number_value name ∷ number_value credits ∷ []
AreArguments (Write name block bytes) values = (hex : Data) × IsHexOf bytes.items hex × (values ≡ number_value name ∷ number_value block ∷ hex ∷ [])
AreArguments (Revoke name block) values = values ≡ number_value name ∷ number_value block ∷ []
AreArguments (Read name block) values = values ≡ number_value name ∷ number_value block ∷ []
AreArguments (Extend name credits) values = values ≡ number_value name ∷ number_value credits ∷ []
AreArguments (Restart name credits) values = values ≡ number_value name ∷ number_value credits ∷ []
AreArguments (Stop name) values = values ≡ number_value name ∷ []
AreArguments (Request name) values = values ≡ number_value name ∷ []
AreArguments Lock values = values ≡ []
AreArguments Turn values = values ≡ []
AreArguments Commit values = values ≡ []
AreArguments CheckpointTurn values = values ≡ []
AreArguments Check values = values ≡ []
AreArguments (Status name) values = values ≡ number_value name ∷ []
AreArguments (Wait name) values = values ≡ number_value name ∷ []
AreArguments (WriteDirect block bytes) values = (hex : Data) × IsHexOf bytes.items hex × (values ≡ number_value block ∷ hex ∷ [])
AreArguments SyncDirect values = values ≡ []

-- the value is this operation: a list of its name and its arguments
pub record IsOperation (operation : Operation) (value : Data) : Type 0 where
  pub arguments : List Data
  pub are : AreArguments operation arguments
  pub is : value ≡ list_value (string (word_of operation) ∷ arguments)

-- the values are these operations, one for one, in order
pub data AreOperations : List Operation → List Data → Type 0 where
  NoMore : AreOperations [] []
  OneMore : (operations : List Operation) (values : List Data) (operation : Operation) (value : Data) →
      AreOperations operations values → IsOperation operation value → AreOperations (operations ++ operation ∷ []) (values ++ value ∷ [])

-- the value's key `ops` has the list of these operations
pub record HasOperations (script : Data) (operations : List Operation) : Type 0 where
  pub values : List Data
  pub listed : get (key_name Operations) script ≡ Some (list_value values)
  pub are : AreOperations operations values

-- the key has this value, if it is present
abbrev pub IsAt : Option Data → Data → Type 0
IsAt found value = IfSome found (λ there. there ≡ value)

-- the keys that describe a device agree with these measures, if they are present
pub record AgreesWith (script : Data) (m : Measures) : Type 0 where
  pub block : IsAt (get (key_name Block) script) (number_value m.block_size)
  pub length : IsAt (get (key_name Length) script) (number_value m.log_blocks)
  pub home : IsAt (get (key_name Home) script) (number_value m.home_blocks)
  pub uuid : IfSome (get (key_name Uuid) script) (IsHexOf m.uuid)
  pub wide : IsAt (get (key_name Wide) script) (boolean m.wide)

-- if the key is absent, this holds
abbrev pub IsElse : Option Data → Type 0 → Type 0
IsElse found default = MatchOption found default (λ there. ⊤)

-- absent keys have the defaults: 33 log blocks and 64 home blocks of 1024 bytes, a UUID of bytes aa, and block numbers of 32 bits
pub record IsDefaultElse (script : Data) (m : Measures) : Type 0 where
  pub block : IsElse (get (key_name Block) script) (m.block_size ≡ 1024)
  pub length : IsElse (get (key_name Length) script) (m.log_blocks ≡ 33)
  pub home : IsElse (get (key_name Home) script) (m.home_blocks ≡ 64)
  pub uuid : IsElse (get (key_name Uuid) script) (m.uuid ≡ replicate 16 0xaa)
  pub wide : IsElse (get (key_name Wide) script) (m.wide ≡ false)

-- the text is JSON, whose value has these operations and measures
pub record IsTextOf (text : List ℕ) (operations : List Operation) (measures : Measures) : Type 0 where
  pub script : Data
  pub is : read text ≡ Some script
  pub has : HasOperations script operations
  pub agrees : AgreesWith script measures

-- the same, and absent keys have the defaults
pub record IsScriptOf (text : List ℕ) (operations : List Operation) (measures : Measures) : Type 0 where
  pub of_text : IsTextOf text operations measures
  pub defaults : IsDefaultElse of_text.script measures
