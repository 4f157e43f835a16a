-- Lemmas: a verdict that is reached is ok.
use Rattle.std.proofs.Common.{refl, sym, ap, subst, ◌∙◌, arith, inl, inr, ⊎_elim}
use Rattle.std.proofs.lemmas.Bool.Decides.{nat_tests}
use Rattle.std.proofs.lemmas.List.Elements.{All-weaker}
use Rattle.std.proofs.lemmas.Option.{none-some, same_Some}
use Rattle.std.specs.Prelude.{◌≡◌, ◌⊎◌, ℕ, zero, suc, ◌<◌, ◌≤◌, ◌||◌, nat_le, Bool, true, false, List, [], ◌∷◌, replicate, take, slice_get, count_by, Option, Some, None, All, Contains}
use Rattle.std.specs.List.{list_any}
use Rattle.journal_model.specs.declared.entry.Entry.{Entry}
use Rattle.journal_model.specs.declared.entry.Entry.TheVariants.{Copy, Revoke}
use Rattle.journal_model.specs.declared.number.Area.TheVariants.{Home}
use Rattle.journal_model.specs.Disk.{Disk, Image, IsOneOf, Leaves, Shape, disk_of, reading}
use Rattle.log_model.specs.HomeChange.{IsRightlyHeld}
use Rattle.log_model.specs.HomeChange.IsRightlyHeld.{FromCopy, FromDirectWrite, FromOpening}
use Rattle.log_model.specs.Opening.{OpensAs, numbered_below}
use Rattle.journal_model.specs.Record.{acknowledged}
use Rattle.journal_model.specs.Transaction.{History, Transaction, Volume, bytes_of, content_of, effect, last_effect}
use Rattle.journal_world.proofs.Suffixes.{get-take}
use Rattle.block_device.specs.Memory.{MemState, crashed, state_of}
use Rattle.block_device.specs.State.{DeviceState}
use Rattle.block_device.proofs.Crash.{crash_leaves_held}
use Rattle.journal_world.proofs.Lasts.{none-both}
use Rattle.journal_world.proofs.Promises.{opens-same}
use Rattle.log_epochs.specs.Epoch.{Epoch}
use Rattle.log_epochs.specs.JournalPromise.{KeepsPromise, Kept}
use Rattle.log_epochs.specs.JournalWorld.{JournalWorld, Told}
use Rattle.log_epochs.specs.OpeningRun.{IsMoment}
use Rattle.log_epochs.proofs.Journals.{journal-promise}
use Rattle.log_epochs.proofs.Keeping.{one-limit}
use Rattle.log_epochs.proofs.Lives.{life-promise}
use Rattle.log_epochs.proofs.Moments.{moment-keeps}
use Rattle.log_epochs.proofs.Replaying.{durable-one}
use Rattle.recovery.specs.Opening.{Tells}
use Rattle.journal_script.specs.declared.script.Operation.{Operation}
use Rattle.journal_script.specs.declared.script.Script.{Script}
use Rattle.journal_script.specs.Named.{HasDirects}
use Rattle.script_client.specs.Told.{IsLedTo, IsZeroHome, greatest_of, running_world, with_told}
use Rattle.std.specs.BTreeSet.{keys}
use Rattle.journal_script.specs.declared.script.NamedBlocks.{NamedBlocks}
use Rattle.script_run.specs.declared.stops.Stops.{Stops}
use Rattle.script_run.specs.Left.{IsCrashOf, IsRunTo, IsVerdictBy}
use Rattle.script_run.specs.Reopening.{IsOpeningVerdict, IsSecondVerdict, IsVerdictAfterStop}
use Rattle.script_run.specs.Reopening.IsOpeningVerdict.{Once, Twice}
use Rattle.script_run.specs.Verdict.{IsAsLeft, IsImageVerdict, IsLeftBy, IsRight, owed}
use Rattle.script_run.proofs.Judging.{HasLimit-from_tells}
use Rattle.script_run.proofs.OpeningMoves.{moment-reaches, stop-reaches, stopped_world}
use Rattle.script_run.proofs.Reopened.{follows-moment}

-- the greatest number covers this one
abbrev told-by : ℕ → Option ℕ → Bool
told-by tid None = false
told-by tid (Some greatest) = nat_le tid greatest || false

told-more : (tid n : ℕ) (greatest : Option ℕ) → told-by tid (with_told n greatest) ≡ (nat_le tid n || told-by tid greatest)
told-more tid n None = refl
told-more tid n (Some m) = grind (arith, nat_tests)

-- the greatest of some numbers covers this one exactly if one of them does
told-any : (tid : ℕ) (answered : List ℕ) → told-by tid (greatest_of answered) ≡ list_any (λ n. nat_le tid n) answered
told-any tid [] = refl
told-any tid (n ∷ ns) = told-more tid n (greatest_of ns) ∙ ap (λ (b : Bool). nat_le tid n || b) (told-any tid ns)

count-none : (ts : History) → 0 ≡ count_by (λ (t : Transaction). false) ts
count-none [] = refl
count-none (t ∷ ts) = count-none ts

owed-told : (greatest : Option ℕ) (ts : History) → owed greatest ts ≡ count_by (λ t. told-by t.tid greatest) ts
owed-told None ts = count-none ts
owed-told (Some n) ts = refl

-- the owed transactions are those that were answered
pub owed-answered : (answered : List ℕ) (ts : History) → owed (greatest_of answered) ts ≡ acknowledged answered ts
owed-answered answered ts = owed-told (greatest_of answered) ts ∙ (λ i. count_by (λ (t : Transaction). told-any t.tid answered i) ts)

-- if the last entry is none, no transaction has one
none-each : (b : ℕ) (ts : History) (i : ℕ) (t : Transaction) → last_effect b ts ≡ None → slice_get ts i ≡ Some t → effect b t.steps ≡ None
none-each b [] i t none at = absurd (none-some t at)
none-each b (x ∷ xs) zero t none at = ap (λ (s : Transaction). effect b s.steps) (sym (same_Some x t at)) ∙ (none-both (effect b x.steps) (last_effect b xs) none).0
none-each b (x ∷ xs) (suc i) t none at = none-each b xs i t (none-both (effect b x.steps) (last_effect b xs) none).1 at

-- an opening's bytes suit the last entry; without one they are zeros, unless a direct write names the block
left-by : (e : Option Entry) (direct : Type 0) (size : ℕ) (got home : List ℕ) → got ≡ bytes_of (content_of e) home → (e ≡ None → direct ⊎ (home ≡ replicate size 0)) → IsLeftBy e direct size got
left-by None direct size got home is held = ⊎_elim (λ (named : direct). inl named) (λ (zeros : home ≡ replicate size 0). inr (is ∙ zeros)) (held refl)
left-by (Some (Copy v)) direct size got home is held = is
left-by (Some Revoke) direct size got home is held = tt

-- each of these direct writes is of a block that the script's direct writes name
abbrev AreNamed : List (ℕ × List ℕ) → NamedBlocks → Type 0
AreNamed written named = (b : ℕ) (v : List ℕ) → IsOneOf written (b, v) → Contains (keys named.directs) b

-- a permitted value of a block without an entry is zeros, unless a direct write names it
untouched-held : (shape : Shape) (opening : Disk) (written : List (ℕ × List ℕ)) (named : NamedBlocks) (ts : History) (n b : ℕ) (v : List ℕ) → IsZeroHome shape opening → AreNamed written named
    → last_effect b (take n ts) ≡ None → IsRightlyHeld opening written ts n b v → Contains (keys named.directs) b ⊎ (v ≡ replicate shape.block_size 0)
untouched-held shape opening written named ts n b v zeros are none (FromOpening one) = inr (durable-one (opening Home b) (replicate shape.block_size 0) v (zeros b) one)
untouched-held shape opening written named ts n b v zeros are none (FromDirectWrite one) = inl (are b v one)
untouched-held shape opening written named ts n b v zeros are none (FromCopy i t below at copy) =
    absurd (none-some (Copy v) (sym (none-each b (take n ts) i t none (get-take n ts i below ∙ at)) ∙ copy))

-- the opening of a kept image is right
pub kept-right : (shape : Shape) (epoch : Epoch) (told : Told) (image : Image) (got : Volume) (shown : Option ℕ) (named : NamedBlocks) (n : ℕ) → (kept : Kept shape epoch told image)
    → kept.n ≡ n → IsZeroHome shape epoch.opening → AreNamed epoch.directs named → shown ≡ greatest_of told.answered → OpensAs shape image got
    → All (λ b. b < shape.home_blocks) (keys named.blocks)
    → IsRight told.front.sealed shown named n shape.block_size got
kept-right shape epoch told image got shown named n kept is zeros are greatest opens there =
    let sealed : History = told.front.sealed in
    let directs : List ℕ = keys named.directs in
    let P : ℕ → Type 0 = λ b. b < shape.home_blocks in
    let Q : ℕ → Type 0 = λ b. IsAsLeft sealed directs kept.n shape.block_size got b in
    let each : (b : ℕ) → P b → Q b = λ b below.
    left-by (last_effect b (take kept.n sealed)) (Contains directs b) shape.block_size (got b) (image Home b)
    (opens-same shape image got kept.opens.got opens kept.opens.opens b below ∙ kept.opens.recovered b below)
    (λ none. untouched-held shape epoch.opening epoch.directs named sealed kept.n b (image Home b) zeros are none (kept.others b below (ap content_of none))) in
    let low : owed shown sealed ≤ kept.n =
    subst (λ (k : ℕ). k ≤ kept.n) (sym (ap (λ (o : Option ℕ). owed o sealed) greatest ∙ owed-answered told.answered sealed)) kept.low in
    subst (λ (k : ℕ). IsRight sealed shown named k shape.block_size got) is
    (record { kept = low; known = kept.high; home_is = All-weaker P Q each (keys named.blocks) there })

-- the verdict on any crash image of the run's disk is ok
image-right : (operations : List Operation) (state : DeviceState) (sealed : History) (shown : Option ℕ) (image : Image) (named : NamedBlocks) (right : Bool) → IsLedTo IsZeroHome operations state sealed shown
    → HasDirects operations (keys named.directs) → Leaves state.disk image → IsImageVerdict state.shape image sealed shown named right → right ≡ true
image-right operations state sealed shown image named right to direct leaves verdict =
    let led = to.led in
    let end : JournalWorld = running_world led.opening to.journal state led.directs led.answered in
    let epoch : Epoch = record { opening = led.opening; engine = to.journal.engine; directs = led.directs; pin = None } in
    let told : Told = record { front = to.journal.front; answered = led.answered } in
    let promise : KeepsPromise end = journal-promise life-promise led.start end led.moves led.begins led.leads in
    let kept : Kept state.shape epoch told image = promise.now image leaves in
    let sealed_is : to.journal.front.sealed ≡ sealed = sym to.sealed_is in
    let same : kept.n ≡ numbered_below verdict.limit to.journal.front.sealed =
    kept.count.count ∙ ap (λ (limit : ℕ). numbered_below limit to.journal.front.sealed) (one-limit state.shape image kept.count.limit verdict.limit kept.count.has verdict.has_limit) in
    let good = kept-right state.shape epoch told image verdict.got shown named (numbered_below verdict.limit to.journal.front.sealed) kept same led.fact (λ b v one. direct.all b (led.written b v one)) led.greatest verdict.opens verdict.there in
    verdict.right_is.1 (subst (λ (ts : History). IsRight ts shown named (numbered_below verdict.limit ts) state.shape.block_size verdict.got) sealed_is good)

-- so is that on a crash image of a stopped opening of it
second-right : (operations : List Operation) (state : DeviceState) (sealed : History) (shown : Option ℕ) (image left : Image) (disk : Disk) (was_clean : Bool) (limit count : ℕ) (named : NamedBlocks) (right : Bool)
    → IsLedTo IsZeroHome operations state sealed shown → HasDirects operations (keys named.directs) → Leaves state.disk image → IsMoment state.shape (disk_of image) disk → Leaves disk left
    → Tells state.shape image was_clean limit count
    → IsSecondVerdict state.shape left was_clean limit sealed shown named right → right ≡ true
second-right operations state sealed shown image left disk was_clean limit count named right to direct leaves moment leaves_again first verdict =
    let led = to.led in
    let j = to.journal in
    let start_reached = stop-reaches led.start led.opening j state led.directs led.answered image leaves (record { moves = led.moves; leads = led.leads }) in
    let now = moment-reaches led.start led.opening j state.shape led.directs led.answered image (disk_of image) disk moment start_reached in
    let end : JournalWorld = stopped_world led.opening j state.shape led.directs led.answered image disk now.phase in
    let epoch : Epoch = record { opening = led.opening; engine = j.engine; directs = led.directs; pin = Some image } in
    let told : Told = record { front = j.front; answered = led.answered } in
    let promise : KeepsPromise end = journal-promise life-promise led.start end now.is.moves led.begins now.is.leads in
    let kept : Kept state.shape epoch told left = promise.now left leaves_again in
    let same : kept.n ≡ numbered_below limit j.front.sealed =
    kept.count.count
    ∙ ap (λ (n : ℕ). numbered_below n j.front.sealed)
    (one-limit state.shape image kept.count.limit limit kept.count.has (HasLimit-from_tells state.shape image was_clean limit count first)) in
    let good = kept-right state.shape epoch told left verdict.got shown named (numbered_below limit j.front.sealed) kept same led.fact (λ b v one. direct.all b (led.written b v one)) led.greatest verdict.opens verdict.there in
    let follows =
    follows-moment state.shape (disk_of image) disk left was_clean verdict.clean limit count verdict.ends_at verdict.transactions (λ n. refl)
    (moment-keeps state.shape (disk_of image) disk moment) leaves_again first verdict.tells in
    verdict.right_is.1 (follows, subst (λ (ts : History). IsRight ts shown named (numbered_below limit ts) state.shape.block_size verdict.got) (sym to.sealed_is) good)

-- a crash image is the disk on which all is durable
pub crash-disk : (device : MemState) (keep : List ℕ) (image : MemState) → IsCrashOf device keep image → (state_of image).disk ≡ disk_of (crashed keep device)
crash-disk device keep image crash = λ i a n. crash.each a n i

-- what a crash leaves is a crash image
pub crash-leaves : (device : MemState) (keep : List ℕ) → Leaves (state_of device).disk (crashed keep device)
crash-leaves device keep = record { each = λ a n. crash_leaves_held keep device.shape.block_size a n device.calls }

-- the verdict after one opening of a crash image is ok
once-right : (operations : List Operation) (device : MemState) (keep : List ℕ) (sealed : History) (shown : Option ℕ) (image : MemState) (named : NamedBlocks) (right : Bool)
    → IsLedTo IsZeroHome operations (state_of device) sealed shown → HasDirects operations (keys named.directs)
    → Leaves (state_of device).disk (crashed keep device) → IsCrashOf device keep image
    → IsImageVerdict image.shape (reading (state_of image).disk) sealed shown named right → right ≡ true
once-right operations device keep sealed shown image named right to direct leaves crash verdict =
    image-right operations (state_of device) sealed shown (crashed keep device) named right to direct leaves
    (subst (λ (s : Shape). IsImageVerdict s (crashed keep device) sealed shown named right) crash.shape_is
    (subst (λ (m : Image). IsImageVerdict image.shape m sealed shown named right) (ap reading (crash-disk device keep image crash)) verdict))

-- so is that after a stopped opening and a second one
twice-right : (operations : List Operation) (device : MemState) (keep : List ℕ) (sealed : History) (shown : Option ℕ) (image : MemState) (k : ℕ) (keep_again : List ℕ) (named : NamedBlocks) (right : Bool)
    → IsLedTo IsZeroHome operations (state_of device) sealed shown → HasDirects operations (keys named.directs)
    → Leaves (state_of device).disk (crashed keep device) → IsCrashOf device keep image
    → IsVerdictAfterStop (state_of image) k keep_again sealed shown named right → right ≡ true
twice-right operations device keep sealed shown image k keep_again named right to direct leaves crash behind =
    let disk : (state_of image).disk ≡ disk_of (crashed keep device) = crash-disk device keep image crash in
    let later : MemState = behind.device in
    let moment : IsMoment device.shape (disk_of (crashed keep device)) (state_of later).disk =
    subst (λ (s : Shape). IsMoment s (disk_of (crashed keep device)) (state_of later).disk) crash.shape_is
    (subst (λ (d : Disk). IsMoment image.shape d (state_of later).disk) disk behind.stopped.moment) in
    let first : Tells device.shape (crashed keep device) behind.was_clean behind.limit behind.count =
    subst (λ (s : Shape). Tells s (crashed keep device) behind.was_clean behind.limit behind.count) crash.shape_is
    (subst (λ (m : Image). Tells image.shape m behind.was_clean behind.limit behind.count) (ap reading disk) behind.first) in
    second-right operations (state_of device) sealed shown (crashed keep device) (crashed keep_again later) (state_of later).disk behind.was_clean behind.limit behind.count named right to direct leaves moment
    (crash-leaves later keep_again) first
    (subst (λ (s : Shape). IsSecondVerdict s (crashed keep_again later) behind.was_clean behind.limit sealed shown named right) crash.shape_is behind.verdict)

opening-right : (operations : List Operation) (device : MemState) (keep : List ℕ) (sealed : History) (shown : Option ℕ) (image : MemState) (k : ℕ) (keep_again : List ℕ) (named : NamedBlocks) (right : Bool)
    → IsLedTo IsZeroHome operations (state_of device) sealed shown → HasDirects operations (keys named.directs)
    → Leaves (state_of device).disk (crashed keep device) → IsCrashOf device keep image
    → IsOpeningVerdict (state_of image) k keep_again sealed shown named right → right ≡ true
opening-right operations device keep sealed shown image k keep_again named right to direct leaves crash (Once once) = once-right operations device keep sealed shown image named right to direct leaves crash once.verdict
opening-right operations device keep sealed shown image k keep_again named right to direct leaves crash (Twice twice) =
    twice-right operations device keep sealed shown image k keep_again named right to direct leaves crash twice

-- the verdict on a crash image of the run is ok
pub by-right : (operations : List Operation) (device : MemState) (keep : List ℕ) (sealed : History) (shown : Option ℕ) (image : MemState) (at_write : Option ℕ) (keep_again : List ℕ) (named : NamedBlocks) (right : Bool)
    → IsLedTo IsZeroHome operations (state_of device) sealed shown → HasDirects operations (keys named.directs) → IsCrashOf device keep image → IsVerdictBy at_write keep_again image sealed shown named right → right ≡ true
by-right operations device keep sealed shown image None keep_again named right to direct crash verdict =
    once-right operations device keep sealed shown image named right to direct (crash-leaves device keep) crash verdict
by-right operations device keep sealed shown image (Some k) keep_again named right to direct crash verdict =
    opening-right operations device keep sealed shown image k keep_again named right to direct (crash-leaves device keep) crash verdict

pub run-right : (script : Script) (stops : Stops) (image : MemState) (right : Bool) → IsRunTo script stops image right → right ≡ true
run-right script stops image right run =
    by-right script.operations.items run.end.device stops.run.keep.now run.sealed run.shown image stops.opening.at_write stops.opening.keep.now run.named right run.end.led run.end.names.directs run.end.crash run.verdict
