-- What the command `sweep` did, and how it ends.
use Rattle.std.specs.Prelude.{◌≡◌, ◌≢◌, ℕ, ◌+◌, Bool, true, false, List}
use Rattle.jbench_words.specs.declared.fault.CommandStatus.{CommandStatus}
use Rattle.jbench_words.specs.declared.fault.CommandStatus.TheVariants.{Fine, Refused}
use Rattle.journal_script.specs.declared.script.Script.{Script}
use Rattle.script_sweep.specs.declared.counts.Counts.{Counts}
use Rattle.script_sweep.specs.declared.counts.FailureCounts.{FailureCounts}
use Rattle.script_sweep.specs.Sweeping.{IsFailureSweep, IsSweep, capped, not_right_of}
use Rattle.jbench_commands.specs.Runs.{IsTaken}

-- a script was swept with a stop at each of its writes, and this many openings were not right
pub record HasSweptStops (script : Script) (count : ℕ) : Type 0 where
  pub counts : Counts
  pub is : IsSweep (Unit {0}) script counts
  pub counted : count ≡ not_right_of counts.not_right

-- it was swept with each of its calls failing, and this many openings were not right
pub record HasSweptFailures (script : Script) (count : ℕ) : Type 0 where
  pub counts : FailureCounts
  pub is : IsFailureSweep (Unit {0}) script counts
  pub counted : count ≡ not_right_of counts.not_right

-- the text's script was swept with a stop at each of its writes and, if asked, with each of its calls failing; this many openings in all were
-- not right
pub record HasSwept (text : List ℕ) (fails : Bool) (count : ℕ) : Type 0 where
  pub script : Script
  pub taken : IsTaken text script
  pub of_stops : ℕ
  pub stops : HasSweptStops script of_stops
  pub alone : fails ≡ false → count ≡ of_stops
  pub more : fails ≡ true → (of_failures : ℕ) × HasSweptFailures script of_failures × (count ≡ capped (of_stops + of_failures))

-- the command succeeded if it swept and each opening was right; else it was refused
pub record IsSweptTo (text : List ℕ) (fails : Bool) (status : CommandStatus) : Type 0 where
  pub fine : status ≡ Fine → HasSwept text fails 0
  pub other : status ≢ Fine → status ≡ Refused
