-- What a sweep opens and judges, image by image, and how it counts that.
use Rattle.std.specs.Prelude.{◌≡◌, ◌≢◌, ◌↔◌, ℕ, ◌+◌, ◌-◌, ◌^◌, ◌<◌, zero, suc, min, Bool, true, false, IsTrue, Option, Some, None, All}
use Rattle.std.specs.BTreeSet.{keys}
use Rattle.journal_model.specs.declared.number.Area.TheVariants.{Home}
use Rattle.journal_model.specs.declared.refusal.JournalError.{JournalError}
use Rattle.journal_model.specs.declared.refusal.JournalError.TheVariants.{Device, Memory, SequenceEnd}
use Rattle.journal_model.specs.Disk.{reading}
use Rattle.log_model.specs.Opening.{numbered_below}
use Rattle.block_device.specs.Memory.{MemState, state_of, writes_of}
use Rattle.recovery.specs.declared.opening.Report.{Report}
use Rattle.journal_script.specs.declared.script.NamedBlocks.{NamedBlocks}
use Rattle.journal_script.specs.declared.script.Script.{Script}
use Rattle.journal_script.specs.Named.{AreNamedBy}
use Rattle.script_sweep.specs.Steps.{Steps}
use Rattle.script_run.specs.declared.opening.OpenedImage.{OpenedImage}
use Rattle.script_run.specs.declared.running.StoppedRun.{StoppedRun}
use Rattle.script_run.specs.Left.{IsCrashOf}
use Rattle.script_run.specs.Numbers.{HasNumbersLeft}
use Rattle.script_run.specs.OpenedImages.{IsOpenedImage, IsUnopened}
use Rattle.script_run.specs.Reopening.{FollowsOn, IsBefore, IsStoppedAt}
use Rattle.script_run.specs.Verdict.{IsRight}
use Rattle.script_sweep.specs.declared.counts.Counts.{Counts}
use Rattle.script_sweep.specs.declared.counts.FailureCounts.{FailureCounts}
use Rattle.script_sweep.specs.declared.counts.NotRight.{NotRight}
use Rattle.script_sweep.specs.declared.judging.ImageFinding.{ImageFinding}
use Rattle.script_sweep.specs.Places.{choices_of, kept_of}
use Rattle.script_sweep.specs.Swept.{HasRun, MakesCalls, one_more}

-- a false verdict is counted
abbrev pub counted : Bool → NotRight → NotRight
counted true n = n
counted false n = record n { wrong = one_more n.wrong }

-- a refused image is counted
abbrev pub with_refusal : NotRight → NotRight
with_refusal n = record n { refused = one_more n.refused }

-- A counted refusal is of the image's contents: memory and the device did not fail, and the run had numbers left. (Any other ends the
-- sweep.)
pub record CountsRefusal (stopped : StoppedRun) (e : JournalError) (old new : NotRight) : Type 0 where
  pub device : e ≢ Device
  pub memory : e ≢ Memory
  pub numbers : e ≡ SequenceEnd → HasNumbersLeft stopped.recorded.sealed.items
  pub after : new ≡ with_refusal old

-- a count stays at 2^64 - 1
abbrev pub capped : ℕ → ℕ
capped n = min n (2 ^ 64 - 1)

-- how many openings were not right
abbrev pub not_right_of : NotRight → ℕ
not_right_of n = capped (n.wrong + n.refused)

abbrev pub none_wrong : NotRight
none_wrong = record { wrong = 0; refused = 0 }

-- the verdict on an opening of a run's crash image
abbrev pub IsFirstVerdict : StoppedRun → NamedBlocks → OpenedImage → Bool → Type 0
IsFirstVerdict stopped named opened right =
    All (λ b. b < opened.device.shape.home_blocks) (keys named.blocks)
    × (IsTrue right ↔ IsRight stopped.recorded.sealed.items stopped.recorded.acknowledged named (numbered_below opened.report.ends_at stopped.recorded.sealed.items)
    opened.device.shape.block_size (reading (state_of opened.device).disk Home))

-- the verdict on an opening of the crash image of a stopped opening; `first` is what the first image's log held
abbrev pub IsAgainVerdict : StoppedRun → NamedBlocks → Report → OpenedImage → Bool → Type 0
IsAgainVerdict stopped named first opened right =
    All (λ b. b < opened.device.shape.home_blocks) (keys named.blocks)
    × (IsTrue right ↔ FollowsOn first.clean first.ends_at opened.report.clean opened.report.ends_at
    × IsRight stopped.recorded.sealed.items stopped.recorded.acknowledged named (numbered_below first.ends_at stopped.recorded.sealed.items)
    opened.device.shape.block_size (reading (state_of opened.device).disk Home))

-- what an opening found, and how many writes it made
abbrev pub found_by : OpenedImage → ImageFinding
found_by opened = record { report = opened.report; writes = writes_of opened.device.calls }

-- the verdict on this opening is counted
pub record JudgesFirst (stopped : StoppedRun) (named : NamedBlocks) (opened : OpenedImage) (old new : NotRight) : Type 0 where
  pub right : Bool
  pub verdict : IsFirstVerdict stopped named opened right
  pub after : new ≡ counted right old

-- a crash image of a run was opened and judged, or its contents were refused; either is counted
pub data IsJudged (keeps : Type 0) (stopped : StoppedRun) (named : NamedBlocks) (image : MemState) (old : NotRight) : Option ImageFinding → NotRight → Type 0 where
  IsOpened : (opened : OpenedImage) (new : NotRight) → (keeps → IsOpenedImage image.shape (state_of image).disk opened) → JudgesFirst stopped named opened old new →
      IsJudged keeps stopped named image old (Some (found_by opened)) new
  IsRefused : (e : JournalError) (new : NotRight) → (keeps → IsUnopened image.shape (reading (state_of image).disk) e) → CountsRefusal stopped e old new →
      IsJudged keeps stopped named image old None new

pub record JudgesAgain (stopped : StoppedRun) (named : NamedBlocks) (first : Report) (opened : OpenedImage) (old new : NotRight) : Type 0 where
  pub right : Bool
  pub verdict : IsAgainVerdict stopped named first opened right
  pub after : new ≡ counted right old

-- a crash image of a stopped opening was opened and judged, or its contents were refused
pub data IsJudgedAgain (keeps : Type 0) (stopped : StoppedRun) (named : NamedBlocks) (first : Report) (image : MemState) (old : NotRight) : NotRight → Type 0 where
  IsOpenedAgain : (opened : OpenedImage) (new : NotRight) → (keeps → IsOpenedImage image.shape (state_of image).disk opened) → JudgesAgain stopped named first opened old new →
      IsJudgedAgain keeps stopped named first image old new
  IsRefusedAgain : (e : JournalError) (new : NotRight) → (keeps → IsUnopened image.shape (reading (state_of image).disk) e) → CountsRefusal stopped e old new →
      IsJudgedAgain keeps stopped named first image old new

-- the crash image of an opening that stopped at write `j`, by this choice of its last writes, was opened and judged
pub record SweepsAgain (keeps : Type 0) (stopped : StoppedRun) (named : NamedBlocks) (first : Report) (j : ℕ) (device : MemState) (choice : ℕ) (old new : Counts) : Type 0 where
  pub image : MemState
  pub crash : IsCrashOf device (kept_of j choice) image
  pub judged : NotRight
  pub is_judged : IsJudgedAgain keeps stopped named first image old.not_right judged
  pub after : new ≡ record old { again = one_more old.again; not_right = judged }

-- an opening was stopped at its write `j`, and each choice of its crash image judged; or it was refused before. (It ends before only if
-- another opening of the image made more writes.)
pub data SweepsOpening (keeps : Type 0) (stopped : StoppedRun) (named : NamedBlocks) (image : MemState) (first : Report) (j : ℕ) (old new : Counts) : Type 0 where
  StopsThere : (device : MemState) → (keeps → IsStoppedAt (state_of image) j device) → Steps (SweepsAgain keeps stopped named first j device) (choices_of j) old new →
      SweepsOpening keeps stopped named image first j old new
  EndsBefore : (opened : OpenedImage) → (keeps → IsBefore (state_of image) j opened.device) → new ≡ old → SweepsOpening keeps stopped named image first j old new
  RefusesBefore : (e : JournalError) (judged : NotRight) → (keeps → IsUnopened image.shape (reading (state_of image).disk) e) → CountsRefusal stopped e old.not_right judged →
      new ≡ record old { not_right = judged } → SweepsOpening keeps stopped named image first j old new

-- the opening of the image was stopped at each of its writes
abbrev pub SweepsFound : (keeps : Type 0) → StoppedRun → NamedBlocks → MemState → Option ImageFinding → Counts → Counts → Type 0
SweepsFound keeps stopped named image None old new = new ≡ old
SweepsFound keeps stopped named image (Some found) old new = Steps (λ i. SweepsOpening keeps stopped named image found.report (i + 1)) found.writes old new

-- an image was opened and judged, and so were the crash images of its stopped openings
pub record SweepsImage (keeps : Type 0) (stopped : StoppedRun) (named : NamedBlocks) (image : MemState) (old new : Counts) : Type 0 where
  pub found : Option ImageFinding
  pub judged : NotRight
  pub is_judged : IsJudged keeps stopped named image old.not_right found judged
  pub openings : SweepsFound keeps stopped named image found (record old { not_right = judged }) new

-- the same for the crash image of a run that stopped at write `k`, by this choice of its last writes
pub record SweepsChoice (keeps : Type 0) (stopped : StoppedRun) (named : NamedBlocks) (k choice : ℕ) (old new : Counts) : Type 0 where
  pub image : MemState
  pub crash : IsCrashOf stopped.device (kept_of k choice) image
  pub sweeps : SweepsImage keeps stopped named image (record old { images = one_more old.images }) new

-- a script was run with a stop at write `k`, and each choice of its crash image was swept
pub record SweepsStop (keeps : Type 0) (script : Script) (named : NamedBlocks) (k : ℕ) (old new : Counts) : Type 0 where
  pub stopped : StoppedRun
  pub run : keeps → HasRun script (Some k) None stopped
  pub choices : Steps (SweepsChoice keeps stopped named k) (choices_of k) old new

-- A sweep of stops: a run without a stop made `writes` writes, and each was swept. All counts are sums over what was done.
pub record IsSweep (keeps : Type 0) (script : Script) (counts : Counts) : Type 0 where
  pub named : NamedBlocks
  pub names : AreNamedBy script named
  pub whole : StoppedRun
  pub run : keeps → HasRun script None None whole
  pub writes : counts.writes ≡ writes_of whole.device.calls
  pub stops : Steps (λ i. SweepsStop keeps script named (i + 1)) counts.writes (record { writes = counts.writes; images = 0; again = 0; not_right = none_wrong }) counts

-- how many images the stops at so many writes leave
abbrev pub images_of : ℕ → ℕ
images_of zero = 0
images_of (suc n) = images_of n + choices_of (suc n)

-- the crash image of a run, by this choice of its last writes, was opened and judged
pub record FailsChoice (keeps : Type 0) (stopped : StoppedRun) (named : NamedBlocks) (choice : ℕ) (old new : NotRight) : Type 0 where
  pub image : MemState
  pub crash : IsCrashOf stopped.device (kept_of (writes_of stopped.device.calls) choice) image
  pub found : Option ImageFinding
  pub is_judged : IsJudged keeps stopped named image old found new

-- a script was run with a failure of call `k`, and each choice of its crash image was judged
pub record FailsCall (keeps : Type 0) (script : Script) (named : NamedBlocks) (k : ℕ) (old new : NotRight) : Type 0 where
  pub stopped : StoppedRun
  pub run : keeps → HasRun script None (Some k) stopped
  pub choices : Steps (FailsChoice keeps stopped named) (choices_of (writes_of stopped.device.calls)) old new

-- A sweep of failing calls: a run without a failure made `calls` calls, and each was swept.
pub record IsFailureSweep (keeps : Type 0) (script : Script) (counts : FailureCounts) : Type 0 where
  pub named : NamedBlocks
  pub names : AreNamedBy script named
  pub whole : keeps → MakesCalls script counts.calls
  pub calls : Steps (λ i. FailsCall keeps script named (i + 1)) counts.calls none_wrong counts.not_right
