-- The script of a command, and what `run` did with it.
use Rattle.std.specs.Prelude.{◌≡◌, ◌⊎◌, ℕ, ◌≤◌, Bool, true, false, List}
use Rattle.block_device.specs.State.{DeviceState}
use Rattle.journal_script.specs.Clients.{CanBeServed, IsClientScriptOf}
use Rattle.journal_script.specs.Measures.{AreLimited}
use Rattle.journal_script.specs.Text.{IsScriptOf}
use Rattle.journal_script.specs.declared.clients.ClientScript.{ClientScript}
use Rattle.journal_script.specs.declared.script.Script.{Script}
use Rattle.jbench_words.specs.declared.words.RunWords.{RunWords}
use Rattle.jbench_words.specs.declared.words.StopWords.{StopWords}
use Rattle.script_run.specs.Copying.{IsCopiedRun}
use Rattle.script_run.specs.Left.{IsRunOf}
use Rattle.script_run.specs.declared.stops.Stop.{Stop}
use Rattle.script_run.specs.declared.stops.Stops.{Stops}
use Rattle.jbench_commands.specs.declared.check.Good.{Good}
use Rattle.jbench_commands.specs.declared.check.Good.TheVariants.{Operations, Clients}

-- a script with the text's operations and measures, within their limits
pub record IsTaken (text : List ℕ) (script : Script) : Type 0 where
  pub is : IsScriptOf text script.operations.items script.measures
  pub limited : AreLimited script.measures

-- the text's script was accepted
pub record HasTaken (text : List ℕ) : Type 0 where
  pub script : Script
  pub taken : IsTaken text script

-- or it is one of clients, and can be served
pub record HasTakenClients (text : List ℕ) : Type 0 where
  pub script : ClientScript
  pub is : IsClientScriptOf text script
  pub servable : CanBeServed script

abbrev pub HasTakenEither : List ℕ → Type 0
HasTakenEither text = HasTaken text ⊎ HasTakenClients text

-- a good script of this text
abbrev pub IsGoodOf : List ℕ → Good → Type 0
IsGoodOf text (Operations script) = IsScriptOf text script.operations.items script.measures × AreLimited script.measures
IsGoodOf text (Clients script) = IsClientScriptOf text script × CanBeServed script

-- a device stops at the words' write, and keeps the words' writes
pub record IsStopTold (words : StopWords) (stop : Stop) : Type 0 where
  pub at_write : stop.at_write ≡ words.at_write
  pub keep : stop.keep.now ≡ words.keep.items

-- the stops of the run and the opening, and the failing call, are the words'
pub record AreStopsTold (words : RunWords) (stops : Stops) : Type 0 where
  pub failing_call : stops.failing_call ≡ words.failing_call
  pub run : IsStopTold words.run stops.run
  pub opening : IsStopTold words.opening stops.opening

-- a script was run with the words' stops, with this verdict
pub record IsRunAsTold (Runs : Script → Stops → Bool → Type 0) (words : RunWords) (script : Script) (right : Bool) : Type 0 where
  pub stops : Stops
  pub told : AreStopsTold words stops
  pub run : Runs script stops right

-- a run copied its image to a device, and home is small enough
pub record IsRunWithImage (script : Script) (stops : Stops) (right : Bool) : Type 0 where
  pub device : DeviceState
  pub run : IsCopiedRun script stops device right
  pub small : script.measures.home_blocks ≤ 1048576

-- a run copies its image if one is given, or the words name files for it
abbrev pub runs_told : (copied : Bool) → Script → Stops → Bool → Type 0
runs_told false script stops right = IsRunOf script stops right
runs_told true script stops right = IsRunWithImage script stops right

-- the text's script was accepted and run
pub record HasRun (Runs : Script → Stops → Bool → Type 0) (text : List ℕ) (words : RunWords) (right : Bool) : Type 0 where
  pub script : Script
  pub taken : IsTaken text script
  pub run : IsRunAsTold Runs words script right
