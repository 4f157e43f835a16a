-- Lemmas: the disk on which a run begins.
use Rattle.std.proofs.Common.{◌∙◌, refl, sym, ap, subst, arith}
use Rattle.std.specs.Prelude.{◌≡◌, ℕ, ◌^◌, ◌<◌, ◌≤◌, Bool, List, [], ◌∷◌, Option, length, replicate}
use Rattle.journal_model.specs.declared.number.Area.{Area}
use Rattle.journal_model.specs.declared.number.Area.TheVariants.{Home, Log}
use Rattle.journal_model.specs.Disk.{Cell, Disk, Shape, flushed}
use Rattle.log_model.specs.Superblock.{Super, formatted_super, greatest_length, super_in}
use Rattle.block_device.specs.Memory.{MemState, crashed, durable, kept_value, state_of, unflushed}
use Rattle.block_device.specs.State.{DeviceState}
use Rattle.block_device.specs.declared.fail.FailOnce.{FailOnce}
use Rattle.block_device.specs.declared.stop.StopAt.{StopAt}
use Rattle.journal_world.specs.Opening.{IsOpening}
use Rattle.journal_world.specs.Sound.{durable_cell}
use Rattle.log_epochs.specs.EngineWorld.{LeadsToEngine}
use Rattle.log_format.proofs.Formatted.{formatted_says}
use Rattle.recovery.specs.Opening.{IsFormatted}
use Rattle.recovery.specs.Values.{OpenedValue}
use Rattle.journal_script.specs.declared.measures.Measures.{Measures}
use Rattle.script_client.specs.Told.{IsZeroHome}
use Rattle.script_run.specs.Disks.{IsEmptyLog, IsOpenedAnew, run_device_over, run_state, shape_of}

-- a crash that keeps no write leaves what was flushed
kept-none : (v : List ℕ) (ws : List (ℕ × List ℕ)) → kept_value [] v ws ≡ v
kept-none v [] = refl
kept-none v (w ∷ ws) = kept-none v ws

-- a durable block reads the same after a crash
crashed-durable : (s : MemState) (a : Area) (n : ℕ) (v : List ℕ) → (state_of s).disk a n ≡ durable_cell v → crashed [] s a n ≡ v
crashed-durable s a n v is = kept-none (durable ((state_of s).disk a n)) (unflushed a n s.calls) ∙ ap durable is

small : (n : ℕ) → n ≤ greatest_length → n < 2 ^ 32
small n most = omega (arith, most)

-- a blank device that was formatted is, after a crash, a disk with an empty log
pub empty-log : (m : Measures) (blank formatted left : MemState)
    → blank ≡ record { shape = shape_of m; calls = []; faults = 0; calls_made = 0 } → formatted.shape ≡ blank.shape
    → IsFormatted blank.shape m.log_blocks m.uuid m.wide (state_of blank).disk (state_of formatted).disk → length m.uuid ≡ 16
    → ((a : Area) (n : ℕ) → (state_of left).disk a n ≡ record { reads = crashed [] formatted a n; others = [] })
    → left.shape ≡ formatted.shape
    → IsEmptyLog m (state_of left)
empty-log m blank formatted left new same is long crash left_shape =
    let shape : Shape = shape_of m in
    let maxlen : ℕ = m.log_blocks in
    let uuid : List ℕ = m.uuid in
    let is_wide : Bool = m.wide in
    let size : left.shape ≡ shape = left_shape ∙ same ∙ ap (λ (s : MemState). s.shape) new in
    let zeros : List ℕ = replicate shape.block_size 0 in
    let blank_home : (b : ℕ) → (state_of blank).disk Home b ≡ durable_cell zeros = λ b. ap (λ (s : MemState). (state_of s).disk Home b) new in
    let home : (b : ℕ) → (state_of left).disk Home b ≡ durable_cell zeros = λ b.
    crash Home b ∙ ap durable_cell (crashed-durable formatted Home b zeros (is.home b ∙ blank_home b)) in
    let log : ((state_of left).disk Log 0).reads ≡ formatted_super blank.shape.block_size maxlen uuid is_wide =
    ap (λ (c : Cell). c.reads) (crash Log 0) ∙ crashed-durable formatted Log 0 (formatted_super blank.shape.block_size maxlen uuid is_wide) is.superblock in
    record {
      shape_is = size;
      home = λ b. home b ∙ ap (λ (s : Shape). durable_cell (replicate s.block_size 0)) (sym size);
      superblock = log ∙ ap (λ (s : MemState). formatted_super s.shape.block_size maxlen uuid is_wide) new;
      clean = ap (λ (block : List ℕ). (super_in block).s_start) log
          ∙ ap (λ (s : Super). s.s_start) (formatted_says blank.shape.block_size maxlen uuid is_wide is.block_size (small maxlen is.most) long);
    }

-- the opening of an empty log leaves home as it is
pub opened-zero : (m : Measures) (old new : DeviceState) (superblock : List ℕ) (next : ℕ) → IsEmptyLog m old → IsOpening old.shape old.disk new.disk superblock next → new.shape ≡ old.shape
    → IsZeroHome new.shape new.disk
opened-zero m old new superblock next empty is shape =
    let still : new.disk ≡ flushed old.disk Log = is.untouched empty.clean in
    λ b. ap (λ (d : Disk). d Home b) still ∙ empty.home b ∙ ap (λ (s : Shape). durable_cell (replicate s.block_size 0)) (sym shape)

-- the device of a run keeps the home of zeros of its disk
pub run-zero : (disk : MemState) (stop fail : Option ℕ) (device : FailOnce (StopAt MemState)) → device ≡ run_device_over disk stop fail → IsZeroHome (state_of disk).shape (state_of disk).disk
    → IsZeroHome (run_state device).shape (run_state device).disk
run-zero disk stop fail device is zero = subst (λ (d : FailOnce (StopAt MemState)). IsZeroHome (run_state d).shape (run_state d).disk) (sym is) zero

-- a log opened on that disk is opened on the device over it
pub run-anew : (m : Measures) (stop fail : Option ℕ) (formatted disk : MemState) (superblock : List ℕ) (next : ℕ) (opened : OpenedValue (FailOnce (StopAt MemState)))
    → IsEmptyLog m (state_of formatted) → (state_of disk).shape ≡ (state_of formatted).shape
    → IsOpening (state_of formatted).shape (state_of formatted).disk (state_of disk).disk superblock next
    → LeadsToEngine (state_of formatted).shape (state_of formatted).disk (state_of disk).disk superblock next → opened.device ≡ run_device_over disk stop fail
    → opened.superblock ≡ superblock → opened.next ≡ next → IsOpenedAnew m stop fail opened
run-anew m stop fail formatted disk superblock next opened empty shape opening run over block number = record {
  formatted = formatted;
  empty = empty;
  disk = disk;
  shape_is = shape ∙ empty.shape_is;
  opening =
      subst (λ (b : List ℕ). IsOpening (state_of formatted).shape (state_of formatted).disk (state_of disk).disk b opened.next) (sym block)
      (subst (λ (n : ℕ). IsOpening (state_of formatted).shape (state_of formatted).disk (state_of disk).disk superblock n) (sym number) opening);
  run =
      subst (λ (b : List ℕ). LeadsToEngine (state_of formatted).shape (state_of formatted).disk (state_of disk).disk b opened.next) (sym block)
      (subst (λ (n : ℕ). LeadsToEngine (state_of formatted).shape (state_of formatted).disk (state_of disk).disk superblock n) (sym number) run);
  device_is = over;
}
