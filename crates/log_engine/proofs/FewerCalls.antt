-- Each call of a commit or a round leaves fewer to make.
use Rattle.std.proofs.Common.{refl, sym, ap, subst, arith, inl, inr, ⊎_elim, le_refl, lt_of_lt_of_le, mul_comm, suc-mul}
use Rattle.std.specs.Prelude.{◌≡◌, ◌≢◌, ℕ, zero, suc, ◌+◌, ◌-◌, ◌*◌, ◌<◌, ◌≤◌, nat_lt, Bool, true, false, if◌then◌else◌, List, [], ◌∷◌, length, Contains}
use Rattle.std.specs.List.{AllByRecursion}
use Rattle.std.proofs.lemmas.Bool.Decides.{nat_tests}
use Rattle.std.proofs.lemmas.List.Elements.{recursion_from_All}
use Rattle.std.proofs.lemmas.Nat.{mul-add-lt}
use Rattle.journal_model.specs.declared.entry.Entry.{Entry}
use Rattle.journal_model.specs.declared.entry.Entry.TheVariants.{Copy}
use Rattle.journal_model.specs.Block.{IsAllowedBlock}
use Rattle.journal_model.specs.Disk.{Disk}
use Rattle.journal_model.proofs.ListElements.{contains-cases, contains-none}
use Rattle.journal_world.specs.declared.round.Round.{Round}
use Rattle.journal_world.specs.declared.round.Round.TheVariants.{Idle as NoRound, Copies, TailWrite, TailFlush}
use Rattle.journal_world.specs.declared.stage.Stage.{Stage}
use Rattle.journal_world.specs.declared.stage.Stage.TheVariants.{Idle, SuperblockWrite, SuperblockFlush, Blocks, CommitWrite, CommitFlush}
use Rattle.journal_world.specs.Call.{Call}
use Rattle.journal_world.specs.Checkpoint.{HasRound, IsFrom, IsNewestCopy, RoundCall, RoundSteps, begun, begun_from}
use Rattle.journal_world.specs.Checkpoint.RoundCall.{CopyHome, FlushHome, WriteTail, FlushTail}
use Rattle.journal_world.specs.Engine.{CommitSteps, Engine, IsBatch, due_blocks, stepped_from}
use Rattle.journal_world.specs.Sound.{IsPlain, StageAgrees}
use Rattle.journal_world.proofs.Elements.{all-at}
use Rattle.journal_world.proofs.Rounds.{begun-plain}
use Rattle.log_ledger.specs.declared.progress.Progress.{Progress}
use Rattle.log_ledger.specs.declared.progress.Progress.TheVariants.{Idle as NoProgress, Step, Done}
use Rattle.log_ledger.proofs.Rounds.{KeepsCommit, due-alike}
use Rattle.log_engine.specs.Engine.{RoundDid, StepDid}
use Rattle.log_engine.specs.Left.{LeavesFewer, calls_from, commit_calls, round_calls, round_calls_from, whole_round}
use Rattle.log_engine.proofs.Stepping.{busy}

-- until its last call, a commit's transaction stays the same
same-due : (e new : Engine) → KeepsCommit e new → length (due_blocks new) ≡ length (due_blocks e)
same-due e new keeps = ap length (due-alike e new keeps)

-- after block k comes another block, or the commit block
after-block : (blocks other k : ℕ) (more : Bool) → nat_lt (k + 1) blocks ≡ more → other ≡ blocks → k < blocks →
    calls_from other (if more then Blocks (k + 1) else CommitWrite) < calls_from blocks (Blocks k)
after-block blocks other k true is same below = omega arith
after-block blocks other k false is same below = omega arith

-- a commit's call leaves one less
stage-fewer : (e : Engine) (stage : Stage) → StageAgrees e stage → stage ≢ Idle →
    commit_calls (stepped_from e stage) < calls_from (length (due_blocks e)) stage
stage-fewer e Idle agrees busy = absurd (busy refl)
stage-fewer e SuperblockWrite agrees busy =
    let same = same-due e (stepped_from e SuperblockWrite) (record { shape = refl; layout = refl; uuid = refl; accepted = refl; committed = refl; start = refl }) in omega arith
stage-fewer e SuperblockFlush agrees busy =
    let same = same-due e (stepped_from e SuperblockFlush) (record { shape = refl; layout = refl; uuid = refl; accepted = refl; committed = refl; start = refl }) in omega arith
stage-fewer e (Blocks k) agrees busy =
    let same = same-due e (stepped_from e (Blocks k)) (record { shape = refl; layout = refl; uuid = refl; accepted = refl; committed = refl; start = refl }) in
    after-block (length (due_blocks e)) _ k (nat_lt (k + 1) (length (due_blocks e))) refl same agrees.2
stage-fewer e CommitWrite agrees busy = omega arith
stage-fewer e CommitFlush agrees busy = omega arith

-- so does a commit step
commit-fewer : (old new : Engine) (disk after : Disk) → IsPlain old → CommitSteps old disk new after → commit_calls new < commit_calls old
commit-fewer old new disk after plain step =
    subst (λ (e : Engine). commit_calls e < commit_calls old) (sym step.engine)
    (stage-fewer old old.stage plain.stage (busy old step.call step.due))

pub step-fewer : (p : Progress) (old new : Engine) (disk after : Disk) → IsPlain old → StepDid p old disk new after → LeavesFewer commit_calls p old new
step-fewer NoProgress old new disk after plain did = tt
step-fewer Step old new disk after plain did = commit-fewer old new disk after plain did.0
step-fewer (Done tid) old new disk after plain did = commit-fewer old new disk after plain did.0

-- what holds of each element of a list holds of one
contained : {X : Type 0} (P : X → Type 0) (xs : List X) (x : X) → AllByRecursion P xs → Contains xs x → P x
contained P [] x all has = absurd (contains-none x has)
contained P (y ∷ ys) x all has = ⊎_elim (λ same. subst P same all.0) (λ behind. contained P ys x all.1 behind) (contains-cases y ys x has)

-- a newest copy is of a block of home
copy-home : (e : Engine) (i b : ℕ) (v : List ℕ) → IsPlain e → IsNewestCopy e i b v → b < e.shape.home_blocks
copy-home e i b v plain newest =
    let batch = all-at (IsBatch e.layout e.shape) e.accepted i newest.copy.batch plain.batches newest.copy.stands in
    let allowed = recursion_from_All (λ p. IsAllowedBlock e.layout e.shape.home_blocks p.0) newest.copy.batch.entries batch.allowed in
    (contained (λ (p : ℕ × Entry). IsAllowedBlock e.layout e.shape.home_blocks p.0) newest.copy.batch.entries (b, Copy v) allowed newest.copy.copy).in_home

-- after a copy fewer calls are left
copy-fewer : (bound transaction block i b home rest : ℕ) → IsFrom transaction block i b → i < bound → b < home →
    (bound - (i + 1)) * home + (home - (b + 1)) + 3 + rest < (bound - (transaction + 1)) * home + (home - block) + 3 + rest
copy-fewer bound transaction block i b home rest (inl later) due there =
    let below : bound - (i + 1) < bound - (transaction + 1) = omega arith in
    let product : (bound - (i + 1)) * home + (home - (b + 1)) < home * (bound - (transaction + 1)) =
    mul-add-lt (bound - (i + 1)) home (home - (b + 1)) (bound - (transaction + 1)) below (omega arith) in
    let turned : home * (bound - (transaction + 1)) ≡ (bound - (transaction + 1)) * home = mul_comm home (bound - (transaction + 1)) in
    omega arith
copy-fewer bound transaction block i b home rest (inr same) due there =
    let product : (bound - (i + 1)) * home ≡ (bound - (transaction + 1)) * home = ap (λ (n : ℕ). (bound - (n + 1)) * home) (sym same.0) in
    let order : block ≤ b = same.1 in
    omega arith

-- a call of a round leaves fewer
call-fewer : (e : Engine) (round : Round) (call : Call) (new : Engine) → IsPlain e → RoundCall e round call new → round_calls new < round_calls_from e round
call-fewer e round call new plain (CopyHome transaction block i b v next) =
    copy-fewer e.bound transaction block i b e.shape.home_blocks (whole_round e e.bound) next.unwritten.from next.unwritten.due
    (copy-home e i b v plain next.unwritten.pending.newest)
call-fewer e round call new plain (FlushHome transaction block none) = omega arith
call-fewer e round call new plain WriteTail = omega arith
call-fewer e round call new plain FlushTail = omega arith

-- a new round needs at most the calls of a whole one
begins-within : (committed released home : ℕ) → released < committed →
    (committed - (0 + 1)) * home + (home - 0) + 3 + (if nat_lt committed committed then committed * home + 3 else 0)
    ≤ (if nat_lt released committed then committed * home + 3 else 0)
begins-within committed released home below =
    let none : nat_lt committed committed ≡ false = grind (arith, nat_tests) in
    let some : nat_lt released committed ≡ true = grind (arith, nat_tests) in
    rw (none, some) (within committed below)
  where
    within : (n : ℕ) → released < n → (n - (0 + 1)) * home + (home - 0) + 3 + 0 ≤ n * home + 3
    within zero below = absurd (omega arith)
    within (suc n) below =
        let first : suc n - (0 + 1) ≡ n = omega arith in
        let front : (suc n - (0 + 1)) * home ≡ n * home = ap (λ (m : ℕ). m * home) first in
        let product : suc n * home ≡ n * home + home = suc-mul n home in
        omega arith

begun-within : (e : Engine) (round : Round) → e.round ≡ round → HasRound e →
    round_calls_from (begun_from e round) (begun_from e round).round ≤ round_calls_from e round
begun-within e NoRound at has = begins-within e.committed e.released e.shape.home_blocks has
begun-within e (Copies transaction block) at has = subst (λ (r : Round). round_calls_from e e.round ≤ round_calls_from e r) at (le_refl (round_calls_from e e.round))
begun-within e TailWrite at has = subst (λ (r : Round). round_calls_from e e.round ≤ round_calls_from e r) at (le_refl (round_calls_from e e.round))
begun-within e TailFlush at has = subst (λ (r : Round). round_calls_from e e.round ≤ round_calls_from e r) at (le_refl (round_calls_from e e.round))

-- a checkpoint step leaves fewer calls
steps-fewer : (old new : Engine) (disk after : Disk) → IsPlain old → RoundSteps old disk new after → round_calls new < round_calls old
steps-fewer old new disk after plain step =
    let fewer = call-fewer (begun old) (begun old).round step.call new (begun-plain old plain step.round) step.due in
    lt_of_lt_of_le fewer (begun-within old old.round refl step.round)

pub round-fewer : (p : Progress) (old new : Engine) (disk after : Disk) → IsPlain old → RoundDid p old disk new after → LeavesFewer round_calls p old new
round-fewer NoProgress old new disk after plain did = tt
round-fewer Step old new disk after plain did = steps-fewer old new disk after plain did.0
round-fewer (Done tid) old new disk after plain did = steps-fewer old new disk after plain did.0
