-- Lemmas: what each step of a sweep keeps, and what the steps add up to.
use Rattle.std.proofs.Common.{◌∙◌, ap, refl, subst, sym, arith, add-one, rules}
use Rattle.std.specs.Prelude.{◌≡◌, ℕ, ◌+◌, Bool, true, List, Option, Some, None, Result, Ok, Err, IfOk, OnOk, false}
use Rattle.journal_model.specs.declared.refusal.JournalError.{JournalError}
use Rattle.journal_model.specs.Disk.{reading}
use Rattle.block_device.specs.Memory.{MemState, state_of, writes_of}
use Rattle.recovery.specs.declared.opening.Report.{Report}
use Rattle.journal_script.specs.declared.script.NamedBlocks.{NamedBlocks}
use Rattle.journal_script.specs.declared.script.Script.{Script}
use Rattle.journal_script.specs.Named.{AreNamedBy}
use Rattle.script_sweep.specs.Steps.{Steps}
use Rattle.script_sweep.specs.Steps.Steps.{NoStep, OneMore}
use Rattle.script_run.specs.declared.opening.OpenedImage.{OpenedImage}
use Rattle.script_run.specs.declared.running.StoppedRun.{StoppedRun}
use Rattle.script_run.specs.Left.{IsCrashOf}
use Rattle.script_run.specs.declared.reopening.Attempt.{Attempt}
use Rattle.script_run.specs.declared.reopening.Attempt.TheVariants.{Stopped, Whole}
use Rattle.script_run.specs.OpenedImages.{IsUnopened}
use Rattle.script_run.specs.Reopening.{IsAttempt, IsBefore, IsStoppedAt}
use Rattle.script_sweep.specs.declared.counts.Counts.{Counts}
use Rattle.script_sweep.specs.declared.counts.FailureCounts.{FailureCounts}
use Rattle.script_sweep.specs.declared.counts.NotRight.{NotRight}
use Rattle.script_sweep.specs.declared.judging.ImageFinding.{ImageFinding}
use Rattle.script_sweep.specs.Places.{choices_of, kept_of}
use Rattle.script_sweep.specs.Swept.{HasRun, HasRunNamed, IsFirst, one_more}
use Rattle.script_sweep.specs.Sweeping.{CountsRefusal, FailsCall, FailsChoice, IsAgainVerdict, IsFailureSweep, IsFirstVerdict, IsJudged, IsJudgedAgain, IsSweep, JudgesAgain, JudgesFirst, SweepsAgain, SweepsChoice, SweepsFound, SweepsOpening, SweepsStop, capped, counted, images_of, none_wrong}
use Rattle.script_sweep.specs.Sweeping.IsJudged.{IsOpened, IsRefused}
use Rattle.script_sweep.specs.Sweeping.IsJudgedAgain.{IsOpenedAgain, IsRefusedAgain}
use Rattle.script_sweep.specs.Sweeping.SweepsOpening.{EndsBefore, RefusesBefore, StopsThere}
use Rattle.script_run.proofs.Refusals.{again-unrefused, crash-unrefused}
use Rattle.script_sweep.proofs.Right.{again-right, first-right}

-- two facts of an answer give a third
pub both-ok : {X E : Type 0} (r : Result X E) (P Q R : X → Type 0) → ((x : X) → P x → Q x → R x) → IfOk r P → IfOk r Q → IfOk r R
both-ok (Ok x) P Q R on p q = on x p q
both-ok (Err e) P Q R on p q = p

-- exactly the false verdicts are counted
counts-verdict : (old new : NotRight) (right : Bool) → (right ≡ true → new ≡ old) → (right ≡ false → new ≡ record old { wrong = one_more old.wrong }) → new ≡ counted right old
counts-verdict old new true ok wrong = ok refl
counts-verdict old new false ok wrong = wrong refl

pub judges-first : {T E : Type 0} (stopped : StoppedRun) (named : NamedBlocks) (opened : OpenedImage) (right : Bool) (old new : NotRight) (result : Result T E) → IsFirstVerdict stopped named opened right
    → (right ≡ true → new ≡ old) → (right ≡ false → new ≡ record old { wrong = one_more old.wrong }) → OnOk result (JudgesFirst stopped named opened old new)
judges-first stopped named opened right old new (Ok x) verdict ok wrong = record { right = right; verdict = verdict; after = counts-verdict old new right ok wrong }
judges-first stopped named opened right old new (Err e) verdict ok wrong = search rules

pub judges-again : {T E : Type 0} (stopped : StoppedRun) (named : NamedBlocks) (first : Report) (opened : OpenedImage) (right : Bool) (old new : NotRight) (result : Result T E) → IsAgainVerdict stopped named first opened right
    → (right ≡ true → new ≡ old) → (right ≡ false → new ≡ record old { wrong = one_more old.wrong }) → OnOk result (JudgesAgain stopped named first opened old new)
judges-again stopped named first opened right old new (Ok x) verdict ok wrong = record { right = right; verdict = verdict; after = counts-verdict old new right ok wrong }
judges-again stopped named first opened right old new (Err e) verdict ok wrong = search rules

-- an opening of a copy of the image stopped
pub stops-there : (keeps : Type 0) (image copy : MemState) (j : ℕ) (attempt : Attempt) (device : MemState) → copy ≡ image → attempt ≡ Stopped device
    → (keeps → IsAttempt (state_of copy) j attempt) → keeps → IsStoppedAt (state_of image) j device
stops-there keeps image copy j attempt device same is of holds =
    subst (λ (m : MemState). IsStoppedAt (state_of m) j device) same (subst (λ (a : Attempt). IsAttempt (state_of copy) j a) is (of holds))

-- or it ended before that
pub ends-before : (keeps : Type 0) (image copy : MemState) (j : ℕ) (attempt : Attempt) (opened : OpenedImage) → copy ≡ image → attempt ≡ Whole opened
    → (keeps → IsAttempt (state_of copy) j attempt) → keeps → IsBefore (state_of image) j opened.device
ends-before keeps image copy j attempt opened same is of holds =
    subst (λ (m : MemState). IsBefore (state_of m) j opened.device) same (subst (λ (a : Attempt). IsAttempt (state_of copy) j a) is (of holds)).1

-- what each step keeps, all steps keep
steps-keep : {S : Type 0} (R : ℕ → S → S → Type 0) (P : S → Type 0) → ((n : ℕ) (s t : S) → R n s t → P s → P t) → (n : ℕ) (s t : S) → Steps R n s t → P s → P t
steps-keep R P keeps n s t (NoStep x) holds = holds
steps-keep R P keeps n s u (OneMore m x t y before step) holds = keeps m t y step (steps-keep R P keeps m x t before holds)

-- an ok verdict is not counted
right-counts : (old new : NotRight) (right : Bool) → right ≡ true → new ≡ counted right old → old ≡ none_wrong → new ≡ none_wrong
right-counts old new right is after none = after ∙ ap (λ (r : Bool). counted r old) is ∙ none

module _ (keeps : Type 0) (holds : keeps) (stopped : StoppedRun) (named : NamedBlocks) (run : HasRunNamed stopped named) where
  -- no refusal of a crash image of the run is counted
  first-opens : (keep : List ℕ) (image : MemState) (e : JournalError) (old new : NotRight) → IsCrashOf stopped.device keep image
      → (keeps → IsUnopened image.shape (reading (state_of image).disk) e) → CountsRefusal stopped e old new → ⊥
  first-opens keep image e old new crash why counts =
      crash-unrefused run.operations stopped.device keep stopped.recorded.sealed.items stopped.recorded.acknowledged image e run.run crash (why holds) counts.device counts.memory counts.numbers

  -- no verdict on one is false
  first-keeps : (keep : List ℕ) (image : MemState) (old : NotRight) (found : Option ImageFinding) (new : NotRight) → IsCrashOf stopped.device keep image
      → IsJudged keeps stopped named image old found new → old ≡ none_wrong → new ≡ none_wrong
  first-keeps keep image old found new crash (IsOpened opened after is judged) none =
      right-counts old after judged.right (first-right stopped keep image opened named judged.right run crash (is holds) judged.verdict.0 judged.verdict.1) judged.after none
  first-keeps keep image old found new crash (IsRefused e after why counts) none = absurd (first-opens keep image e old after crash why counts)

  -- nor is one on a crash image of a stopped opening of it
  again-keeps : (keep : List ℕ) (image : MemState) (first : Report) (j : ℕ) (device : MemState) (choice : ℕ) (old new : Counts) → IsCrashOf stopped.device keep image → IsFirst image first
      → (keeps → IsStoppedAt (state_of image) j device) → SweepsAgain keeps stopped named first j device choice old new → old.not_right ≡ none_wrong → new.not_right ≡ none_wrong
  again-keeps keep image first j device choice old new crash tells stop again none =
      ap (λ (c : Counts). c.not_right) again.after ∙ judged-again old.not_right again.judged again.is_judged none
    where
      judged-again : (from to : NotRight) → IsJudgedAgain keeps stopped named first again.image from to → from ≡ none_wrong → to ≡ none_wrong
      judged-again from to (IsOpenedAgain opened after is judged) so_far =
          right-counts from after judged.right
          (again-right stopped keep image first j device (kept_of j choice) again.image opened named judged.right run crash tells (stop holds) again.crash (is holds) judged.verdict.0 judged.verdict.1)
          judged.after so_far
      judged-again from to (IsRefusedAgain e after why counts) so_far =
          absurd
          (again-unrefused run.operations stopped.device keep stopped.recorded.sealed.items stopped.recorded.acknowledged image j device (kept_of j choice) again.image e run.run crash (stop holds)
          again.crash (why holds) counts.device counts.memory counts.numbers)

  opening-keeps : (keep : List ℕ) (image : MemState) (first : Report) (j : ℕ) (old new : Counts) → IsCrashOf stopped.device keep image → IsFirst image first
      → SweepsOpening keeps stopped named image first j old new → old.not_right ≡ none_wrong → new.not_right ≡ none_wrong
  opening-keeps keep image first j old new crash tells (StopsThere device stop again) none =
      steps-keep (SweepsAgain keeps stopped named first j device) (λ c. c.not_right ≡ none_wrong)
      (λ choice s t step so_far. again-keeps keep image first j device choice s t crash tells stop step so_far) (choices_of j) old new again none
  opening-keeps keep image first j old new crash tells (EndsBefore opened is same) none = ap (λ (c : Counts). c.not_right) same ∙ none
  opening-keeps keep image first j old new crash tells (RefusesBefore e judged why counts is) none = absurd (first-opens keep image e old.not_right judged crash why counts)

  openings-keep : (keep : List ℕ) (image : MemState) (from : NotRight) (found : Option ImageFinding) (judged : NotRight) (old new : Counts) → IsCrashOf stopped.device keep image
      → IsJudged keeps stopped named image from found judged → SweepsFound keeps stopped named image found old new → old.not_right ≡ none_wrong → new.not_right ≡ none_wrong
  openings-keep keep image from found judged old new crash (IsOpened opened after is by) openings none =
      steps-keep (λ i. SweepsOpening keeps stopped named image opened.report (i + 1)) (λ c. c.not_right ≡ none_wrong)
      (λ i s t step so_far. opening-keeps keep image opened.report (i + 1) s t crash (is holds).tells step so_far) (writes_of opened.device.calls) old new openings none
  openings-keep keep image from found judged old new crash (IsRefused e after why counts) openings none = ap (λ (c : Counts). c.not_right) openings ∙ none

  choice-keeps : (k choice : ℕ) (old new : Counts) → SweepsChoice keeps stopped named k choice old new → old.not_right ≡ none_wrong → new.not_right ≡ none_wrong
  choice-keeps k choice old new one none =
      let image = one.sweeps in
      openings-keep (kept_of k choice) one.image old.not_right image.found image.judged (record old { images = one_more old.images; not_right = image.judged }) new one.crash image.is_judged image.openings
      (first-keeps (kept_of k choice) one.image old.not_right image.found image.judged one.crash image.is_judged none)

  fails-keeps : (choice : ℕ) (old new : NotRight) → FailsChoice keeps stopped named choice old new → old ≡ none_wrong → new ≡ none_wrong
  fails-keeps choice old new one none = first-keeps (kept_of (writes_of stopped.device.calls) choice) one.image old one.found new one.crash one.is_judged none

-- a run of a script that names these blocks
run-named : (script : Script) (named : NamedBlocks) (stop fail : Option ℕ) (stopped : StoppedRun) → AreNamedBy script named → HasRun script stop fail stopped → HasRunNamed stopped named
run-named script named stop fail stopped names run = record { operations = script.operations.items; run = run.led; directs = names.directs }

-- no verdict of a sweep is false, and no opening is refused
pub sweep-right : (keeps : Type 0) (script : Script) (counts : Counts) → IsSweep keeps script counts → keeps → counts.not_right ≡ none_wrong
sweep-right keeps script counts sweep holds =
    steps-keep (λ i. SweepsStop keeps script sweep.named (i + 1)) (λ c. c.not_right ≡ none_wrong)
    (λ i s t stop so_far.
    steps-keep (SweepsChoice keeps stop.stopped sweep.named (i + 1)) (λ c. c.not_right ≡ none_wrong)
    (λ choice x y step none. choice-keeps keeps holds stop.stopped sweep.named (run-named script sweep.named (Some (i + 1)) None stop.stopped sweep.names (stop.run holds)) (i + 1) choice x y step none)
    (choices_of (i + 1)) s t stop.choices so_far)
    counts.writes (record { writes = counts.writes; images = 0; again = 0; not_right = none_wrong }) counts sweep.stops refl

pub failures-right : (keeps : Type 0) (script : Script) (counts : FailureCounts) → IsFailureSweep keeps script counts → keeps → counts.not_right ≡ none_wrong
failures-right keeps script counts sweep holds =
    steps-keep (λ i. FailsCall keeps script sweep.named (i + 1)) (λ n. n ≡ none_wrong)
    (λ i s t call so_far.
    steps-keep (FailsChoice keeps call.stopped sweep.named) (λ n. n ≡ none_wrong)
    (λ choice x y step none. fails-keeps keeps holds call.stopped sweep.named (run-named script sweep.named None (Some (i + 1)) call.stopped sweep.names (call.run holds)) choice x y step none)
    (choices_of (writes_of call.stopped.device.calls)) s t call.choices so_far)
    counts.calls none_wrong counts.not_right sweep.calls refl

-- counts that no verdict and no stopped opening changes
module _ (f : Counts → ℕ) (still : (c : Counts) (again : ℕ) (n : NotRight) → f (record c { again = again; not_right = n }) ≡ f c) (keeps : Type 0) (stopped : StoppedRun) (named : NamedBlocks) (image : MemState) where
  opening-still : (first : Report) (j n : ℕ) (old new : Counts) → SweepsOpening keeps stopped named image first j old new → f old ≡ n → f new ≡ n
  opening-still first j n old new (StopsThere device stop again) is =
      steps-keep (SweepsAgain keeps stopped named first j device) (λ c. f c ≡ n)
      (λ choice s t step so_far. ap f step.after ∙ still s (one_more s.again) step.judged ∙ so_far) (choices_of j) old new again is
  opening-still first j n old new (EndsBefore opened ends same) is = ap f same ∙ is
  opening-still first j n old new (RefusesBefore e judged why counts after) is = ap f after ∙ still old old.again judged ∙ is

  pub found-still : (n : ℕ) (found : Option ImageFinding) (old new : Counts) → SweepsFound keeps stopped named image found old new → f old ≡ n → f new ≡ n
  found-still n None old new same is = ap f same ∙ is
  found-still n (Some found) old new steps is =
      steps-keep (λ i. SweepsOpening keeps stopped named image found.report (i + 1)) (λ c. f c ≡ n)
      (λ i s t step so_far. opening-still found.report (i + 1) n s t step so_far) found.writes old new steps is

found-images : (keeps : Type 0) (stopped : StoppedRun) (named : NamedBlocks) (image : MemState) (n : ℕ) (found : Option ImageFinding) (old new : Counts)
    → SweepsFound keeps stopped named image found old new → old.images ≡ n → new.images ≡ n
found-images keeps stopped named image n found old new steps is = found-still (λ (c : Counts). c.images) (λ c again n. refl) keeps stopped named image n found old new steps is

-- no step changes the number of writes
pub stops-writes : (keeps : Type 0) (script : Script) (named : NamedBlocks) (n : ℕ) (old new : Counts) → Steps (λ i. SweepsStop keeps script named (i + 1)) n old new → new.writes ≡ old.writes
stops-writes keeps script named n old new steps =
    steps-keep (λ i. SweepsStop keeps script named (i + 1)) (λ c. c.writes ≡ old.writes)
    (λ i s t stop so_far.
    steps-keep (SweepsChoice keeps stop.stopped named (i + 1)) (λ c. c.writes ≡ old.writes)
    (λ choice x y step same.
    found-still (λ (c : Counts). c.writes) (λ c again n. refl) keeps stop.stopped named step.image old.writes step.sweeps.found
    (record x { images = one_more x.images; not_right = step.sweeps.judged }) y step.sweeps.openings same)
    (choices_of (i + 1)) s t stop.choices so_far)
    n old new steps refl

-- capped counts add one
capped-one : (n : ℕ) → one_more (capped n) ≡ capped (n + 1)
capped-one n = omega arith

-- each choice counts one image
choices-images : (keeps : Type 0) (stopped : StoppedRun) (named : NamedBlocks) (k m n : ℕ) (old new : Counts) → Steps (SweepsChoice keeps stopped named k) n old new
    → old.images ≡ capped m → new.images ≡ capped (m + n)
choices-images keeps stopped named k m n old new (NoStep x) is = is ∙ ap capped (omega arith)
choices-images keeps stopped named k m n old new (OneMore l x t y before step) is =
    found-images keeps stopped named step.image (capped (m + (l + 1))) step.sweeps.found (record t { images = one_more t.images; not_right = step.sweeps.judged }) y step.sweeps.openings
    (ap one_more (choices-images keeps stopped named k m l x t before is) ∙ capped-one (m + l) ∙ ap capped (omega arith))

-- so the stops at `n` writes count all their images
stops-images : (keeps : Type 0) (script : Script) (named : NamedBlocks) (n : ℕ) (old new : Counts) → Steps (λ i. SweepsStop keeps script named (i + 1)) n old new
    → old.images ≡ 0 → new.images ≡ capped (images_of n)
stops-images keeps script named n old new (NoStep x) is = is
stops-images keeps script named n old new (OneMore l x t y before step) is =
    choices-images keeps step.stopped named (l + 1) (images_of l) (choices_of (l + 1)) t y step.choices (stops-images keeps script named l x t before is)
    ∙ ap capped (subst (λ (s : ℕ). images_of l + choices_of s ≡ images_of s) (sym (add-one l)) refl)

pub sweep-images : (keeps : Type 0) (script : Script) (counts : Counts) → IsSweep keeps script counts → counts.images ≡ capped (images_of counts.writes)
sweep-images keeps script counts sweep =
    stops-images keeps script sweep.named counts.writes (record { writes = counts.writes; images = 0; again = 0; not_right = record { wrong = 0; refused = 0 } }) counts sweep.stops refl
