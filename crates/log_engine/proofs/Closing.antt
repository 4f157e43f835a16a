-- A close on a device: the machine's moves, and what holds at each moment and at the end.
use Rattle.std.proofs.Common.{refl, sym, ◌∙◌, ap, subst, arith, inl, inr, ⊎_elim}
use Rattle.std.specs.Prelude.{◌≡◌, ℕ, ◌≤◌, true, false, List, [], ◌∷◌, length, None, Result, Ok, Err, OnOk, OnErr}
use Rattle.journal_model.specs.declared.number.Area.TheVariants.{Log}
use Rattle.journal_model.specs.Disk.{Cell, Disk, Image, IsOneOf, Leaves, flushed, held, written}
use Rattle.log_model.specs.Opening.{IsClean, IsCountOf, Opens}
use Rattle.log_model.specs.Superblock.{super_in, super_refusal}
use Rattle.journal_model.specs.Transaction.{History}
use Rattle.block_device.specs.State.{DeviceState, EachMoment, Moves, Stays, Writes}
use Rattle.block_device.proofs.Moments.{each-joins, each-moves, each-stays}
use Rattle.journal_world.specs.declared.stage.Stage.TheVariants.{Idle}
use Rattle.journal_world.specs.Call.{IsAfterFault}
use Rattle.journal_world.specs.Call.Call.{Write, Flush}
use Rattle.journal_world.specs.Call.IsAfterFault.{Undone, Whole}
use Rattle.journal_world.specs.Engine.{AreBatchesOf, Engine}
use Rattle.journal_world.specs.Opening.{NamesNothing}
use Rattle.journal_world.specs.Sound.{IsPlain, Names, OpensBetween, Sound, StageAgrees, durable_cell}
use Rattle.journal_world.proofs.Elements.{all-weaker}
use Rattle.journal_world.proofs.HomeRights.{right-first}
use Rattle.journal_world.proofs.Images.{images-open}
use Rattle.journal_world.proofs.Places.{IsWrite, is_write-fault, is_write-written}
use Rattle.log_epochs.specs.EnginePromise.{Kept}
use Rattle.log_epochs.specs.EngineSteps.{MayClose, closed_superblock}
use Rattle.log_epochs.specs.EngineWorld.CloseCall.{WriteClosed, FlushClosed}
use Rattle.log_epochs.specs.EngineWorld.Move.{CloseStep, CloseFault}
use Rattle.log_epochs.specs.EngineWorld.Phase.{Closed, Closing, Shut}
use Rattle.log_epochs.proofs.Closing.{close-closes, close-keeps}
use Rattle.log_epochs.proofs.Keeping.{flushed-leaves}
use Rattle.log_epochs.proofs.Running.{IsRunning}
use Rattle.log_engine.specs.Close.{ClosesBy, IsAllReleased, IsClosedLog, IsDuringClose, IsWritingFirst, KeepsClean, world_with}
use Rattle.log_engine.specs.Close.IsWritingFirst.{Handed, Durable}
use Rattle.block_device.proofs.OneCall.{each-one}
use Rattle.log_engine.proofs.Calls.{fault-write, moment-write}

-- a log that is not clean may be closed once everything is released
pub may-close : (e : Engine) → e.aborted ≡ false → e.started ≡ true → IsAllReleased e → MayClose e
may-close e running started all = record { running = running; started = started; idle = all.idle; released = all.released }

-- if no commit is under way, everything accepted is committed
all-committed : (e : Engine) → IsPlain e → e.stage ≡ Idle → length e.accepted ≡ e.committed
all-committed e plain idle = (subst (StageAgrees e) idle plain.stage).0

-- then each crash image opens to everything
opens-all : (e : Engine) (disk : Disk) → Sound e disk → e.stage ≡ Idle → OpensBetween e.shape e.accepted (length e.accepted) (length e.accepted) disk
opens-all e disk sound idle =
    subst (λ (n : ℕ). OpensBetween e.shape e.accepted n (length e.accepted) disk) (sym (all-committed e sound.plain idle)) (images-open e disk sound)

-- an unchanged disk is a moment of the close
pub during-same : (e : Engine) (disk : Disk) → Sound e disk → e.stage ≡ Idle → IsDuringClose e disk disk
during-same e disk sound idle = record {
  home = record { same = λ b. refl };
  log = λ n other. inl refl;
  block_0 = λ v one. inl one;
  opens = opens-all e disk sound idle;
}

-- if nothing was handed over since the opening, the log is closed
pub was-closed : (e : Engine) (disk : Disk) → Sound e disk → KeepsClean e disk → e.started ≡ false → e.stage ≡ Idle → IsClosedLog e disk
was-closed e disk sound keeps fresh idle = record { clean = clean; opens = opens-all e disk sound idle }
  where
    names : NamesNothing e.shape e.layout e.ring e.first e.superblock
    names = subst (λ b. Names e b e.superblock) fresh sound.plain.names

    first : (image : Image) → Leaves disk image → image Log 0 ≡ e.superblock
    first image leaves =
        ⊎_elim (λ is. is) (λ none. absurd none)
        (subst (λ (c : Cell). IsOneOf (held c) (image Log 0)) (keeps.durable fresh idle) (leaves.each Log 0))

    clean : (image : Image) → Leaves disk image → IsClean e.shape image
    clean image leaves = record {
      accepted = ap (super_refusal e.shape) (first image leaves) ∙ names.is_superblock.accepted;
      clean = ap (λ (block : List ℕ). (super_in block).s_start) (first image leaves) ∙ names.clean;
    }

module _ (e : Engine) (disk after : Disk) (sound : Sound e disk) (may : MayClose e) (write : IsWrite disk after 0 (closed_superblock e)) where
  -- the engine runs, in an epoch that began with this disk
  running : IsRunning e.shape disk [] e disk
  running = record { shape_is = refl; sound = sound; home = right-first disk [] e }

  -- each image of the written or unwritten block 0 opens to everything
  written-to : (image : Image) (ts : History) → Leaves after image → AreBatchesOf ts e.accepted →
      Opens e.shape ts (length e.accepted) image × IsCountOf e.shape image ts (length e.accepted)
  written-to image ts leaves are =
      let kept : Kept e.shape (record { opening = disk; engine = e; directs = []; pin = None }) ts image = close-keeps e.shape disk [] e disk after running may write image leaves ts are in
      let all : length e.accepted ≡ e.committed = all-committed e sound.plain may.idle in
      let low : e.committed ≤ kept.n = kept.low in
      let high : kept.n ≤ length e.accepted = kept.high in
      let same : kept.n ≡ length e.accepted = omega arith in (
        subst (λ (n : ℕ). Opens e.shape ts n image) same kept.opens,
        subst (λ (n : ℕ). IsCountOf e.shape image ts n) same kept.count,
      )

  written-opens : OpensBetween e.shape e.accepted (length e.accepted) (length e.accepted) after
  written-opens = record {
    each = λ image leaves. (
      length e.accepted,
      omega arith,
      omega arith,
      record { opens = λ ts are. (written-to image ts leaves are).0; count = λ ts are. (written-to image ts leaves are).1 },
    );
  }

  -- so a moment of that write is one of the close
  during-written : IsDuringClose e disk after
  during-written = record {
    home = write.home;
    log = λ n other. inl (write.others n other);
    block_0 = λ v one. ⊎_elim (λ new. inr new) (λ was. inl was) (write.there v one);
    opens = written-opens;
  }

  -- so is a moment after its flush
  during-flushed : (after Log 0).reads ≡ closed_superblock e → IsDuringClose e disk (flushed after Log)
  during-flushed reads = record {
    home = record { same = λ b. write.home.same b };
    log = λ n other. inr (ap (λ (c : Cell). durable_cell c.reads) (write.others n other));
    block_0 = λ v one. ⊎_elim (λ is. inr (is ∙ reads)) (λ none. absurd none) one;
    opens = record { each = λ image leaves. written-opens.each image (flushed-leaves after Log image leaves) };
  }

  -- then the log is closed
  flushed-closed : (after Log 0).reads ≡ closed_superblock e → IsClosedLog e (flushed after Log)
  flushed-closed reads = record {
    clean = λ image leaves.
        (close-closes e.shape disk [] e disk after running may write image (flushed-leaves after Log image leaves)
        (⊎_elim (λ is. is ∙ reads) (λ none. absurd none) (leaves.each Log 0))).clean;
    opens = (during-flushed reads).opens;
  }

-- each moment of writing and flushing the superblock is one of the close
while-closing : (e : Engine) (old disk : Disk) → Sound e old → MayClose e → IsWritingFirst (closed_superblock e) old disk → IsDuringClose e old disk
while-closing e old disk sound may (Handed fault) = during-written e old disk sound may (is_write-fault old disk 0 (closed_superblock e) fault)
while-closing e old disk sound may (Durable is) =
    subst (IsDuringClose e old) (sym is)
    (during-flushed e old (written old Log 0 (closed_superblock e)) sound may (is_write-written old 0 (closed_superblock e)) refl)

pub each-closing : (e : Engine) (old new : DeviceState) → Sound e old.disk → MayClose e →
    EachMoment (IsWritingFirst (closed_superblock e) old.disk) old new → EachMoment (IsDuringClose e old.disk) old new
each-closing e old new sound may each = record {
  since = each.since;
  past = each.past;
  each = all-weaker _ _ (λ (disk : Disk) (first : IsWritingFirst (closed_superblock e) old.disk disk). while-closing e old.disk disk sound may first) each.since each.each;
  now = while-closing e old.disk new.disk sound may each.now;
}

-- if the device does nothing, the one moment holds what holds now
pub each-unclosed : (e : Engine) (state : DeviceState) → Sound e state.disk → e.stage ≡ Idle → EachMoment (IsDuringClose e state.disk) state state
each-unclosed e state sound idle =
    each-stays (IsDuringClose e state.disk) state state (record { shape = refl; disk = refl; past = refl }) (during-same e state.disk sound idle)

-- at the end the log is closed
pub is-closed : (e : Engine) (old new : Disk) → Sound e old → MayClose e → new ≡ flushed (written old Log 0 (closed_superblock e)) Log → IsClosedLog e new
is-closed e old new sound may is =
    subst (IsClosedLog e) (sym is)
    (flushed-closed e old (written old Log 0 (closed_superblock e)) sound may (is_write-written old 0 (closed_superblock e)) refl)

-- the machine closes by the same two calls
pub closes-by : (e : Engine) (old new : Disk) → MayClose e → new ≡ flushed (written old Log 0 (closed_superblock e)) Log →
    ClosesBy e old (CloseStep ∷ CloseStep ∷ []) new Closed
closes-by e old new may is =
    subst (λ (disk : Disk). ClosesBy e old (CloseStep ∷ CloseStep ∷ []) disk Closed) (sym is)
    (record {
      leads = λ w epoch. (
        world_with w epoch e (written old Log 0 (closed_superblock e)) Closing,
        record {
          epoch = record epoch { engine = e };
          now = refl;
          call = Write Log 0 (closed_superblock e);
          phase = Closing;
          due = WriteClosed may;
          after = refl;
        },
        (
          world_with w epoch e (flushed (written old Log 0 (closed_superblock e)) Log) Closed,
          record { epoch = record epoch { engine = e }; now = refl; call = Flush Log; phase = Closed; due = FlushClosed; after = refl },
          refl,
        ),
      );
    })

-- if one of them fails, the machine's close fails alike
pub close-fails : (e : Engine) (old new : Disk) → MayClose e → IsAfterFault (Write Log 0 (closed_superblock e)) old new → ClosesBy e old (CloseFault ∷ []) new Shut
close-fails e old new may fault = record {
  leads = λ w epoch. (
    world_with w epoch e new Shut,
    record {
      epoch = record epoch { engine = e };
      now = refl;
      call = Write Log 0 (closed_superblock e);
      phase = Closing;
      due = WriteClosed may;
      disk_is = fault;
      after = refl;
    },
    refl,
  );
}

-- the moments of a write of block 0
pub write-moments : (block : List ℕ) (old new : DeviceState) → Writes old new Log 0 block → EachMoment (IsWritingFirst block old.disk) old new
write-moments block old new writes =
    each-one (IsWritingFirst block old.disk) old new (moment-write Log 0 block old new writes) (Handed (Undone (Write Log 0 block) old.disk old.disk refl))
    (Handed (fault-write Log 0 block old new writes))

-- and of the flush after it
pub flush-moments : {T E : Type 0} (r : Result T E) (block : List ℕ) (old mid new : DeviceState) → Moves old mid (written old.disk Log 0 block) →
    EachMoment (IsWritingFirst block old.disk) old mid → OnOk r (Moves mid new (flushed mid.disk Log)) → OnErr r (Stays mid new) →
    EachMoment (IsWritingFirst block old.disk) old new
flush-moments (Ok x) block old mid new wrote each moves stays =
    each-joins (IsWritingFirst block old.disk) old mid new each
    (each-moves (IsWritingFirst block old.disk) mid new (flushed mid.disk Log) moves each.now (Durable (ap (λ (disk : Disk). flushed disk Log) wrote.now)))
flush-moments (Err e) block old mid new wrote each moves stays =
    each-joins (IsWritingFirst block old.disk) old mid new each (each-stays (IsWritingFirst block old.disk) mid new stays each.now)

-- a failed flush leaves what a failed write may leave
pub flush-lost : {T E : Type 0} (r : Result T E) (block : List ℕ) (old mid new : DeviceState) → Moves old mid (written old.disk Log 0 block) →
    OnErr r (Stays mid new) → OnErr r (IsAfterFault (Write Log 0 block) old.disk new.disk)
flush-lost (Ok x) block old mid new wrote stays = tt
flush-lost (Err e) block old mid new wrote stays = Whole Log 0 block old.disk new.disk (stays.disk ∙ wrote.now)
