-- What a command with exit status 0 did, also one that starts threads.
use Rattle.std.specs.Prelude.{ℕ, List, Option}
use Rattle.file_device.specs.Files.{FileContents, FileState, HasAgreed, file_state}
use Rattle.commit_times.specs.Closed.{IsLeftClosed}
use Rattle.jbench_words.specs.declared.words.CommandWords.{CommandWords}
use Rattle.jbench_words.specs.declared.words.CommandWords.TheVariants.{Threads, Bench, Serve, OneThread}
use Rattle.jbench_files.specs.declared.text.ScriptText.{ScriptText}
use Rattle.jbench_commands.specs.Obeying.{IsOfText, HasObeyed as HasObeyedAlone}
use Rattle.script_threads.specs.Runs.{HasFoundFalse, HasServed}

-- the device after `bench` or `serve`: its journal was closed
abbrev pub IsClosedLeft : FileContents → FileState → Type 0
IsClosedLeft first left = HasAgreed first left → IsLeftClosed (file_state first left)

pub record IsClosedDone (first : FileContents) : Type 0 where
  pub left : FileState
  pub closed : IsClosedLeft first left

-- the command did this, with the text that it read
abbrev pub HasObeyed : (first : FileContents) → (text : ScriptText) → (contents : Option (List ℕ)) → CommandWords → Type 0
HasObeyed first text contents (Threads path) = IsOfText text path.now HasServed
HasObeyed first text contents (Bench words) = IsClosedDone first
HasObeyed first text contents (Serve words) = IsClosedDone first
HasObeyed first text contents (OneThread words) = HasObeyedAlone first text contents words

-- a command that ends with 2 ran clients in threads, and has a false verdict
abbrev pub HasFoundWrong : ScriptText → CommandWords → Type 0
HasFoundWrong text (Threads path) = IsOfText text path.now HasFoundFalse
HasFoundWrong text (Bench words) = ⊥
HasFoundWrong text (Serve words) = ⊥
HasFoundWrong text (OneThread words) = ⊥
