-- What the engine keeps true of itself, over each step, on any disk.
use Rattle.std.proofs.Common.{refl, sym, subst}
use Rattle.std.specs.Prelude.{◌≡◌, ℕ, ◌+◌, Bool, true, false, nat_lt, if◌then◌else◌, length, Some}
use Rattle.std.proofs.lemmas.Bool.{ltb-true}
use Rattle.std.proofs.lemmas.Option.{none-some}
use Rattle.journal_model.specs.declared.entry.Batch.{Batch}
use Rattle.journal_world.specs.declared.stage.Stage.{Stage}
use Rattle.journal_world.specs.declared.stage.Stage.TheVariants.{Idle, SuperblockWrite, SuperblockFlush, Blocks, CommitWrite, CommitFlush}
use Rattle.journal_world.specs.Call.{Call}
use Rattle.journal_world.specs.Engine.{Accepts, Engine, accepting, call_due, call_in, due_blocks, stepped, stepped_from}
use Rattle.journal_world.specs.Sound.{IsPlain}
use Rattle.journal_world.proofs.Accepted.{MayTake, taken, taken-one, taken-plain}
use Rattle.journal_world.proofs.Changes.{at, plain-at}
use Rattle.journal_world.proofs.Committing.{done-plain}
use Rattle.journal_world.proofs.Starting.{start-plain}
use Rattle.journal_world.proofs.Texts.{due-some}

-- the engine stays plain after block k, whichever block is due then
blocks-plain : (e : Engine) (k : ℕ) (a more : Bool) → IsPlain (at e (Blocks k) a) → nat_lt (k + 1) (length (due_blocks e)) ≡ more →
    IsPlain (at e (if more then Blocks (k + 1) else CommitWrite) a)
blocks-plain e k a true plain more = plain-at e (Blocks k) (Blocks (k + 1)) a a plain (plain.stage.0, plain.stage.1, ltb-true _ _ more)
blocks-plain e k a false plain more = plain-at e (Blocks k) CommitWrite a a plain (plain.stage.0, plain.stage.1)

-- the due step of a stage keeps the engine plain
step-plain-at : (e : Engine) (stage : Stage) (a : Bool) (call : Call) → IsPlain (at e stage a) → call_in (at e stage a) stage ≡ Some call →
    IsPlain (stepped_from (at e stage a) stage)
step-plain-at e Idle a call plain due = absurd (none-some call due)
step-plain-at e SuperblockWrite a call plain due = start-plain e a plain
step-plain-at e SuperblockFlush a call plain due =
    plain-at e SuperblockFlush (Blocks 0) a a plain (plain.stage.0, plain.stage.1, due-some e plain.stage.0)
step-plain-at e (Blocks k) a call plain due = blocks-plain e k a (nat_lt (k + 1) (length (due_blocks e))) plain refl
step-plain-at e CommitWrite a call plain due = plain-at e CommitWrite CommitFlush a a plain (plain.stage.0, plain.stage.1)
step-plain-at e CommitFlush a call plain due = done-plain e a plain

-- a step of a commit keeps the engine plain
pub step-plain : (e : Engine) (call : Call) → IsPlain e → call_due e ≡ Some call → IsPlain (stepped e)
step-plain e call plain due = step-plain-at e e.stage e.aborted call plain due

-- a batch keeps the engine plain, by whether the log is started
accepts-plain-by : (e : Engine) (started : Bool) (b : Batch) → IsPlain (record e { started = started; stage = Idle }) → MayTake e b →
    IsPlain (accepting (record e { started = started; stage = Idle }) b)
accepts-plain-by e true b plain may =
    let one : length (taken e b (Blocks 0)).accepted ≡ e.committed + 1 = taken-one e b plain.stage.0 in
    taken-plain (record e { started = true }) b (Blocks 0) plain
    (record { number = may.number; left = may.left; batch = may.batch; room = may.room })
    (one, refl, due-some (taken e b (Blocks 0)) one)
accepts-plain-by e false b plain may =
    let one : length (taken e b SuperblockWrite).accepted ≡ e.committed + 1 = taken-one e b plain.stage.0 in
    taken-plain (record e { started = false }) b SuperblockWrite plain
    (record { number = may.number; left = may.left; batch = may.batch; room = may.room })
    (one, refl, plain.stage.1 refl)

-- a batch that is taken keeps the engine plain
pub accepts-plain : (old : Engine) (b : Batch) (new : Engine) → IsPlain old → Accepts old b new → IsPlain new
accepts-plain old b new plain accepts =
    let idle : IsPlain (record old { stage = Idle }) = subst (λ (s : Stage). IsPlain (record old { stage = s })) accepts.idle plain in
    subst IsPlain (sym accepts.after)
    (accepts-plain-by old old.started b idle (record { number = accepts.number; left = accepts.left; batch = accepts.batch; room = accepts.room }))
