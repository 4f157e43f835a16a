-- What a refused apply leaves.
use Rattle.std.proofs.Common.{◌∙◌, ap, refl, subst, sym}
use Rattle.std.specs.Prelude.{ℕ, List, ◌++◌}
use Rattle.journal_model.specs.Disk.{Disk, Shape}
use Rattle.block_device.specs.State.{DeviceState, EachMoment, Stays}
use Rattle.block_device.proofs.Moments.{each-joins, each-stays}
use Rattle.journal_world.specs.Opening.{IsOpening}
use Rattle.journal_world.proofs.Elements.{all-weaker}
use Rattle.log_epochs.specs.OpeningRun.{IsMoment}
use Rattle.log_epochs.specs.OpeningRun.IsMoment.{Unread}
use Rattle.recovery.specs.Values.{OpenedValue}
use Rattle.journal_script.specs.declared.script.Operation.{Operation}
use Rattle.script_client.specs.declared.performing.AfterRefusal.{AfterRefusal}
use Rattle.script_client.specs.declared.performing.Ending.{Ending}
use Rattle.jbench_commands.specs.declared.apply.Unapplied.{Unapplied}
use Rattle.jbench_commands.specs.declared.apply.Unapplied.TheVariants.{Unbegun, Undone, Unopened}
use Rattle.jbench_commands.specs.Applying.{AreForDevice}
use Rattle.jbench_commands.specs.Unapplied.{IsUnapplied, IsUnappliedAfter}

-- the device was only read
pub only-read : (old new : DeviceState) → Stays old new → EachMoment (IsMoment old.shape old.disk) old new
only-read old new stays = each-stays (IsMoment old.shape old.disk) old new stays (Unread refl)

-- an opening between reads
pub after-reads : (s t u v : DeviceState) → Stays s t → EachMoment (IsMoment t.shape t.disk) t u → Stays u v → EachMoment (IsMoment s.shape s.disk) s v
after-reads s t u v first each last =
    let P : Disk → Type 0 = IsMoment s.shape s.disk in
    let weaker : (d : Disk) → IsMoment t.shape t.disk d → P d = λ d is.
    subst (λ (sh : Shape). IsMoment sh s.disk d) first.shape (subst (λ (dk : Disk). IsMoment t.shape dk d) first.disk is) in
    let moved : EachMoment P s u = record {
      since = each.since;
      past = each.past ∙ ap (λ (past : List Disk). each.since ++ past) first.past;
      each = all-weaker (IsMoment t.shape t.disk) P weaker each.since each.each;
      now = weaker u.disk each.now;
    } in
    each-joins P s u v moved (each-stays P u v last moved.now)

-- what an opened log leaves is left on the device that it was opened on
pub unapplied-after : {D : Type 0} (state : D → DeviceState) (honest : D → Type 0) (device : D) (text : List ℕ) (opened : OpenedValue D) (operations : List Operation) (after : AfterRefusal) (ending : Ending) (left : Unapplied D)
    → (honest opened.device → IsOpening (state device).shape (state device).disk (state opened.device).disk opened.superblock opened.next)
    → AreForDevice text (state device) (honest opened.device) operations
    → IsUnappliedAfter state honest opened operations after ending left → IsUnapplied state honest device text after ending left
unapplied-after state honest device text opened operations after ending (Unopened d) opens for_device is = absurd is
unapplied-after {D} state honest device text opened operations after ending (Unbegun d) opens for_device is = record {
  superblock = opened.superblock;
  next = opened.next;
  opens = λ trust.
      subst (λ (x : D). IsOpening (state device).shape (state device).disk (state x).disk opened.superblock opened.next) (sym is) (opens (subst honest is trust));
}
unapplied-after state honest device text opened operations after ending (Undone left) opens for_device is = record {
  opened = opened;
  opens = opens;
  operations = operations;
  for_device = for_device;
  undone = is;
}
