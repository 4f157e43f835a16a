-- What a command with exit status 0 did, by its words.
use Rattle.std.specs.Prelude.{◌≡◌, ⊤, ℕ, Bool, true, false, List, Option, is_some, string_bytes}
use Rattle.journal_model.specs.Transaction.{History}
use Rattle.block_device.specs.State.{DeviceState}
use Rattle.file_device.specs.Files.{FileContents, FileState, HasAgreed, file_state}
use Rattle.script_client.specs.Ended.{IsLeftClosed}
use Rattle.jbench_words.specs.declared.words.ApplyWords.{ApplyWords}
use Rattle.jbench_words.specs.declared.words.FormatWords.{FormatWords}
use Rattle.jbench_words.specs.declared.words.OneThreadWords.{OneThreadWords}
use Rattle.jbench_words.specs.declared.words.OneThreadWords.TheVariants.{Run, Sweep, Check, Format, Dump, Cat, Show, Recover, Upgrade, Apply, Completions, Man}
use Rattle.jbench_files.specs.Apart.{AreApart}
use Rattle.jbench_files.specs.Cleared.{cleared, log_cleared}
use Rattle.jbench_files.specs.Over.{IsOver}
use Rattle.jbench_files.specs.declared.regular.RegularFile.{RegularFile}
use Rattle.jbench_files.specs.declared.text.ScriptText.{ScriptText}
use Rattle.jbench_views.specs.Looked.{HasDumped, HasLeft}
use Rattle.jbench_logs.specs.Done.{HasUpgraded, IsMade, Recovers}
use Rattle.jbench_commands.specs.Applying.{IsDoneTo, after_told, ending_told, lines_told}
use Rattle.jbench_commands.specs.Runs.{HasRun, HasTakenEither, runs_told}
use Rattle.jbench_commands.specs.Sweeps.{HasSwept}

-- the device has a log in one file, and its home area in another
pub record IsOverTwo (device : FileState) : Type 0 where
  pub log : RegularFile
  pub home : RegularFile
  pub apart : AreApart log home
  pub over : IsOver log.file home.file device

-- this program made the log's file, and the home area's unless that is kept
pub record IsOverNew (keep_home : Bool) (device : FileState) : Type 0 where
  pub log : RegularFile
  pub home : RegularFile
  pub apart : AreApart log home
  pub over : IsOver log.file home.file device
  pub log_is_made : log.is_made ≡ true
  pub home_is_made : keep_home ≡ false → home.is_made ≡ true

-- a log's files, by the words
abbrev pub over_told : (has_to_be_new keep_home : Bool) → FileState → Type 0
over_told true keep_home device = IsOverNew keep_home device
over_told false keep_home device = IsOverTwo device

-- this was done to a device over such files with this first content, if its reads were correct
pub record IsDoneOver (first : FileContents) (Over : FileState → Type 0) (Did : DeviceState → DeviceState → Type 0) : Type 0 where
  pub old : FileState
  pub over : Over old
  pub new : FileState
  pub did : HasAgreed first new → Did (file_state first old) (file_state first new)

-- any device over files
abbrev pub IsOverAny : FileState → Type 0
IsOverAny device = ⊤

-- the device has its home area on a block device
pub record IsOverHomeDevice (device : FileState) : Type 0 where
  pub log : RegularFile
  pub home : RegularFile
  pub apart : AreApart log home
  pub over : IsOver log.file home.file device
  pub home_is_device : home.identity.is_device ≡ true

-- a log was made as the words tell
abbrev pub IsMadeTold : FormatWords → DeviceState → DeviceState → Type 0
IsMadeTold words old new = IsMade words.measures.log_blocks words.measures.uuid words.measures.wide old new

-- so it was made on this device with this first content, if its reads were correct
pub record IsMadeOn (first : FileContents) (words : FormatWords) (old : FileState) : Type 0 where
  pub new : FileState
  pub did : HasAgreed first new → IsMadeTold words (file_state first old) (file_state first new)

-- what `format` did to two files, which had to be new if the words ask for it: both were cleared, or only the log if home is kept; then a
-- log was made. A home area on a block device was also kept where the words ask neither for a new one nor for zeros
pub data IsFormatDone (first : FileContents) (words : FormatWords) : Type 0 where
  Both : words.keep_home ≡ false → IsDoneOver (cleared first) (over_told words.has_to_be_new false) (IsMadeTold words) → IsFormatDone first words
  Kept : words.keep_home ≡ true → IsDoneOver (log_cleared first) (over_told words.has_to_be_new true) (IsMadeTold words) → IsFormatDone first words
  KeptDevice : words.zero_home ≡ false → words.has_to_be_new ≡ false → IsDoneOver (log_cleared first) IsOverHomeDevice (IsMadeTold words) →
      IsFormatDone first words

-- this was done with the bytes of a text that came from this path
abbrev pub IsOfText : ScriptText → (path : List ℕ) → (Did : List ℕ → Type 0) → Type 0
IsOfText text path Did = (string_bytes text.path ≡ path) × Did text.bytes.items

-- what `apply` did over two files: it applied the operations of a script's text, and closed the journal unless it had to stay
pub record IsAppliedOver (first : FileContents) (words : ApplyWords) (contents : Option (List ℕ)) (script : List ℕ) : Type 0 where
  pub old : FileState
  pub over : IsOverTwo old
  pub left : FileState
  pub sealed : History
  pub shown : Option ℕ
  pub done : IsDoneTo (file_state first) (HasAgreed first) old script (after_told words.keep_going words.make_room) (ending_told words.stay) left sealed shown (lines_told words.json contents)
  pub closed : words.stay ≡ false → HasAgreed first left → IsLeftClosed (file_state first left) sealed

-- What the command did, over log files with this first content, an output with these first contents, and with the text that it read.
abbrev pub HasObeyed : (first : FileContents) → (text : ScriptText) → (contents : Option (List ℕ)) → OneThreadWords → Type 0
HasObeyed first text contents (Run words) = IsOfText text words.script.now (λ bytes. HasRun (runs_told (is_some words.image)) bytes words true)
HasObeyed first text contents (Sweep words) = IsOfText text words.script.now (λ bytes. HasSwept bytes words.fails 0)
HasObeyed first text contents (Check path) = IsOfText text path.now HasTakenEither
HasObeyed first text contents (Format words) = IsFormatDone first words
HasObeyed first text contents (Dump words) = IsDoneOver first IsOverAny (λ old new. HasDumped words.copy old)
HasObeyed first text contents (Cat words) = IsDoneOver first IsOverTwo (λ old new. HasLeft words.block old)
HasObeyed first text contents (Show path) = ⊤
HasObeyed first text contents (Recover words) = IsDoneOver first IsOverTwo (Recovers words.dry_run words.before_damage)
HasObeyed first text contents (Upgrade path) = IsDoneOver first IsOverAny HasUpgraded
HasObeyed first text contents (Apply words) = IsOfText text words.script.now (IsAppliedOver first words contents)
HasObeyed first text contents (Completions shell) = ⊤
HasObeyed first text contents Man = ⊤
