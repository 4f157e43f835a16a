-- A call of a round that fails keeps the engine sound.
use Rattle.std.proofs.Common.{refl, sym, subst, arith, inr}
use Rattle.std.specs.Prelude.{◌≡◌, ◌<◌, true, ℕ}
use Rattle.journal_model.specs.declared.number.Area.{Area}
use Rattle.journal_model.specs.Disk.{Disk}
use Rattle.journal_world.specs.declared.round.Round.{Round}
use Rattle.journal_world.specs.declared.round.Round.TheVariants.{Copies, TailFlush}
use Rattle.journal_world.specs.Call.{Call, IsAfterFault}
use Rattle.journal_world.specs.Call.IsAfterFault.{Undone}
use Rattle.journal_world.specs.Call.Call.{Flush}
use Rattle.journal_world.specs.Checkpoint.{RoundCall, RoundFaults, begun}
use Rattle.journal_world.specs.Checkpoint.RoundCall.{CopyHome, FlushHome, WriteTail, FlushTail}
use Rattle.journal_world.specs.Engine.{Engine}
use Rattle.journal_world.specs.Sound.{RoundAgrees, RoundHolds, Sound}
use Rattle.journal_world.specs.Sound.MayBeSuperblock.{New}
use Rattle.journal_world.proofs.Copying.{copy-fails}
use Rattle.journal_world.proofs.Pending.{pending-of}
use Rattle.journal_world.proofs.Releasing.{tail-fault, tail_write-fails}
use Rattle.journal_world.proofs.Rounded.{cell-kept, rounded-sound}
use Rattle.journal_world.proofs.Rounds.{begun-sound, going, going-change, home-kept, may-kept, none-moved, some-committed}

-- the engine, aborted
abbrev aborting : Engine → Engine
aborting e = record e { aborted = true }

-- a flush that failed changed nothing
flush-undone : (area : Area) (old new : Disk) → IsAfterFault (Flush area) old new → new ≡ old
flush-undone area old new (Undone call x y same) = same

-- on an unchanged disk, the engine stays sound among the round's copies
copies-stay : (e : Engine) (disk : Disk) (transaction block : ℕ) → Sound e disk → e.round ≡ Copies transaction block →
    Sound (going e (Copies transaction block) true) disk
copies-stay e disk transaction block sound at =
    let f : Engine = going e (Copies transaction block) true in
    let more : e.released < e.bound = subst (RoundAgrees e) at sound.plain.round in
    let some = some-committed e sound.plain more in
    let holds : RoundHolds e disk (Copies transaction block) = subst (RoundHolds e disk) at sound.round in
    rounded-sound e f disk disk sound (record {
      some = some;
      change = going-change e (Copies transaction block) (Copies transaction block) true sound.plain some at (λ names. names) more;
      ring = record { each = λ k. cell-kept _ _ refl };
      superblock = λ v one. may-kept e f v (λ names. names) (λ moves names. absurd (none-moved e transaction block at moves)) (sound.superblock v one);
      freed = λ k v low out within one. absurd (omega arith);
      home = home-kept e f disk disk e.released (λ b v is. is) sound.home;
      round = λ i b v pending due before. holds i b v (pending-of f e i b v refl refl refl pending) due before;
    })

-- on an unchanged disk, the engine stays sound after the superblock's write
tail-stays : (e : Engine) (disk : Disk) → Sound e disk → e.round ≡ TailFlush → Sound (going e TailFlush true) disk
tail-stays e disk sound at =
    let f : Engine = going e TailFlush true in
    let more : e.released < e.bound = subst (RoundAgrees e) at sound.plain.round in
    let some = some-committed e sound.plain more in
    let holds : RoundHolds e disk TailFlush = subst (RoundHolds e disk) at sound.round in
    rounded-sound e f disk disk sound (record {
      some = some;
      change = going-change e TailFlush TailFlush true sound.plain some at (λ names. names) more;
      ring = record { each = λ k. cell-kept _ _ refl };
      superblock = λ v one. may-kept e f v (λ names. names) (λ moves names. New (inr refl) names) (sound.superblock v one);
      freed = λ k v low out within one. absurd (omega arith);
      home = home-kept e f disk disk e.released (λ b v is. is) sound.home;
      round = (home-kept e f disk disk e.bound (λ b v is. is) holds.0, holds.1);
    })

-- an engine that goes on at the round that it is at, aborted
at-round : (e : Engine) (round : Round) (disk : Disk) → e.round ≡ round → Sound (going e round true) disk → Sound (aborting e) disk
at-round e round disk at sound = subst (λ (r : Round). Sound (going e r true) disk) (sym at) sound

-- whichever call is due, the engine stays sound if it fails
call-fails : (e : Engine) (round : Round) (call : Call) (new : Engine) (disk after : Disk) → Sound e disk → e.round ≡ round → RoundCall e round call new →
    IsAfterFault call disk after → Sound (aborting e) after
call-fails e round call new disk after sound at (CopyHome transaction block i b v next) fault =
    at-round e (Copies transaction block) after at (copy-fails e disk after transaction block i b v true sound at next fault)
call-fails e round call new disk after sound at (FlushHome transaction block none) fault =
    subst (λ (d : Disk). Sound (aborting e) d) (sym (flush-undone _ disk after fault))
    (at-round e (Copies transaction block) disk at (copies-stay e disk transaction block sound at))
call-fails e round call new disk after sound at WriteTail fault =
    at-round e _ after at (tail_write-fails e disk after sound at (tail-fault e disk after fault) true)
call-fails e round call new disk after sound at FlushTail fault =
    subst (λ (d : Disk). Sound (aborting e) d) (sym (flush-undone _ disk after fault)) (at-round e TailFlush disk at (tail-stays e disk sound at))

-- a step of a round that fails keeps the engine sound
pub round-fault-sound : (old new : Engine) (disk after : Disk) → Sound old disk → RoundFaults old disk new after → Sound new after
round-fault-sound old new disk after sound fault =
    subst (λ (e : Engine). Sound e after) (sym fault.engine)
    (call-fails (begun old) (begun old).round fault.call fault.stepped disk after (begun-sound old disk sound fault.round) refl fault.due fault.disk_is)
