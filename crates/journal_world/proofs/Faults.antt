-- A call of a commit that fails keeps the engine sound.
use Rattle.std.proofs.Common.{refl, sym, subst, arith}
use Rattle.std.specs.Prelude.{◌≡◌, ℕ, ◌+◌, ◌-◌, ◌<◌, nat_lt, Bool, true, false, if◌then◌else◌, length, Some}
use Rattle.std.proofs.lemmas.Bool.{ltb-true}
use Rattle.std.proofs.lemmas.Option.{none-some, same_Some}
use Rattle.journal_model.specs.declared.number.Area.TheVariants.{Log}
use Rattle.log_model.specs.Chain.{ring_place}
use Rattle.journal_model.specs.Disk.{Disk}
use Rattle.journal_world.specs.declared.stage.Stage.{Stage}
use Rattle.journal_world.specs.declared.stage.Stage.TheVariants.{Idle, SuperblockWrite, SuperblockFlush, Blocks, CommitWrite, CommitFlush}
use Rattle.journal_world.specs.Call.{Call, IsAfterFault}
use Rattle.journal_world.specs.Call.Call.{Flush}
use Rattle.journal_world.specs.Engine.{Engine, CommitFaults, block_at, call_in, due_blocks, started_superblock, write_block}
use Rattle.journal_world.specs.Sound.{Sound, StageAgrees, StageHolds}
use Rattle.journal_world.proofs.Blocks.{block-fails, commit-fails}
use Rattle.journal_world.proofs.Changes.{IsDueWrite, at, behind-later, home-at, may-at, plain-at, round-at}
use Rattle.journal_world.proofs.Places.{flush-fault, is_write-fault}
use Rattle.journal_world.proofs.Starting.{start-fails}
use Rattle.journal_world.proofs.Texts.{due-some}

-- on an unchanged disk, the engine is sound at the same stage
same-sound : (e : Engine) (stage : Stage) (a b : Bool) (disk : Disk) → Sound (at e stage a) disk → StageAgrees (at e stage b) stage →
    StageHolds (at e stage b) disk stage → Sound (at e stage b) disk
same-sound e stage a b disk sound agrees holds = record {
  plain = plain-at e stage stage a b sound.plain agrees;
  superblock = λ v one. may-at e stage stage a b v (λ flush. flush) (sound.superblock v one);
  durable = sound.durable;
  behind = λ k v low high one. behind-later e stage stage a b k v (omega arith) (sound.behind k v low high one);
  stage = holds;
  home = home-at e stage stage a b disk disk sound (record { same = λ n. refl });
  round = round-at e stage stage a b disk disk sound (record { same = λ n. refl }) refl;
}

-- the stage agrees whether or not the device has failed
agrees-either : (e : Engine) (stage : Stage) (a b : Bool) → StageAgrees (at e stage a) stage → StageAgrees (at e stage b) stage
agrees-either e Idle a b agrees = agrees
agrees-either e SuperblockWrite a b agrees = agrees
agrees-either e SuperblockFlush a b agrees = agrees
agrees-either e (Blocks k) a b agrees = agrees
agrees-either e CommitWrite a b agrees = agrees
agrees-either e CommitFlush a b agrees = agrees

-- the stage holds whether or not the device has failed
holds-either : (e : Engine) (stage : Stage) (a b : Bool) (disk : Disk) → StageHolds (at e stage a) disk stage → StageHolds (at e stage b) disk stage
holds-either e Idle a b disk holds = holds
holds-either e SuperblockWrite a b disk holds = holds
holds-either e SuperblockFlush a b disk holds = holds
holds-either e (Blocks k) a b disk holds = holds
holds-either e CommitWrite a b disk holds = holds
holds-either e CommitFlush a b disk holds = holds

-- an engine aborted by a call that leaves the disk stays sound
pub abort-sound : (e : Engine) (disk : Disk) → Sound e disk → Sound (record e { aborted = true }) disk
abort-sound e disk sound =
    same-sound e e.stage e.aborted true disk sound (agrees-either e e.stage e.aborted true sound.plain.stage)
    (holds-either e e.stage e.aborted true disk sound.stage)

-- the engine stays sound if the flush of the superblock fails
started-fails : (e : Engine) (a b : Bool) (disk after : Disk) → Sound (at e SuperblockFlush a) disk → IsAfterFault (Flush Log) disk after →
    Sound (at e SuperblockFlush b) after
started-fails e a b disk after sound fault =
    subst (λ (d : Disk). Sound (at e SuperblockFlush b) d) (sym (flush-fault disk after fault))
    (same-sound e SuperblockFlush a b disk sound sound.plain.stage sound.stage)

-- the engine stays sound if the write of a block before the commit block, or their flush, fails
blocks-fails : (e : Engine) (a b : Bool) (disk after : Disk) (k : ℕ) (more : Bool) → Sound (at e (Blocks k) a) disk →
    nat_lt (k + 1) (length (due_blocks e)) ≡ more →
    IsAfterFault (if more then write_block e k else Flush Log) disk after → Sound (at e (Blocks k) b) after
blocks-fails e a b disk after k true sound test fault =
    let below : k + 1 < length (due_blocks e) = ltb-true _ _ test in
    let due : IsDueWrite (at e (Blocks k) a) disk after k = record {
      write = is_write-fault disk after (ring_place e.ring (e.start + k)) (block_at (due_blocks e) k) fault;
      within = omega arith;
    } in
    block-fails e a b disk after k sound below due
blocks-fails e a b disk after k false sound test fault =
    subst (λ (d : Disk). Sound (at e (Blocks k) b) d) (sym (flush-fault disk after fault))
    (same-sound e (Blocks k) a b disk sound sound.plain.stage sound.stage)

-- the engine stays sound if the write of the commit block fails
commit_write-fails : (e : Engine) (a b : Bool) (disk after : Disk) → Sound (at e CommitWrite a) disk →
    IsAfterFault (write_block e (length (due_blocks e) - 1)) disk after →
    Sound (at e CommitWrite b) after
commit_write-fails e a b disk after sound fault =
    let i : ℕ = length (due_blocks e) - 1 in
    let some : 0 < length (due_blocks e) = due-some e sound.plain.stage.0 in
    let due : IsDueWrite (at e CommitWrite a) disk after i = record {
      write = is_write-fault disk after (ring_place e.ring (e.start + i)) (block_at (due_blocks e) i) fault;
      within = omega arith;
    } in
    commit-fails e a b disk after sound due

-- the engine stays sound if the flush of the commit block fails
commit_flush-fails : (e : Engine) (a b : Bool) (disk after : Disk) → Sound (at e CommitFlush a) disk → IsAfterFault (Flush Log) disk after →
    Sound (at e CommitFlush b) after
commit_flush-fails e a b disk after sound fault =
    subst (λ (d : Disk). Sound (at e CommitFlush b) d) (sym (flush-fault disk after fault))
    (same-sound e CommitFlush a b disk sound sound.plain.stage sound.stage)

-- the call that failed is the due one
due-fault : (disk after : Disk) (call due : Call) → Some due ≡ Some call → IsAfterFault call disk after → IsAfterFault due disk after
due-fault disk after call due same fault = subst (λ (c : Call). IsAfterFault c disk after) (sym (same_Some due call same)) fault

-- the engine stays sound if the due call of a stage fails
fault-at : (e : Engine) (stage : Stage) (a b : Bool) (disk after : Disk) (call : Call) → Sound (at e stage a) disk →
    call_in (at e stage a) stage ≡ Some call →
    IsAfterFault call disk after → Sound (at e stage b) after
fault-at e Idle a b disk after call sound due fault = absurd (none-some call due)
fault-at e SuperblockWrite a b disk after call sound due fault =
    start-fails e a b disk after sound (record { write = is_write-fault disk after 0 (started_superblock e) (due-fault disk after call _ due fault) })
fault-at e SuperblockFlush a b disk after call sound due fault = started-fails e a b disk after sound (due-fault disk after call _ due fault)
fault-at e (Blocks k) a b disk after call sound due fault =
    blocks-fails e a b disk after k (nat_lt (k + 1) (length (due_blocks e))) sound refl (due-fault disk after call _ due fault)
fault-at e CommitWrite a b disk after call sound due fault = commit_write-fails e a b disk after sound (due-fault disk after call _ due fault)
fault-at e CommitFlush a b disk after call sound due fault = commit_flush-fails e a b disk after sound (due-fault disk after call _ due fault)

-- a step of a commit that fails keeps the engine sound
pub fault-sound : (old new : Engine) (disk after : Disk) → Sound old disk → CommitFaults old disk new after → Sound new after
fault-sound old new disk after sound fault =
    subst (λ (e : Engine). Sound e after) (sym fault.engine)
    (fault-at old old.stage old.aborted true disk after fault.call sound fault.due fault.disk_is)
