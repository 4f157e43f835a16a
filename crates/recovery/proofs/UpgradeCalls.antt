-- Each moment of an upgrade's calls is the machine's, even if one of them fails.
use Rattle.std.proofs.Common.{refl, subst, sym, ap, ◌∙◌}
use Rattle.std.specs.Prelude.{◌≡◌, ℕ, List, [], ◌∷◌, ◌++◌, Option, ⊤}
use Rattle.std.proofs.lemmas.List.{append-nil}
use Rattle.journal_model.specs.declared.number.Area.TheVariants.{Log}
use Rattle.journal_model.specs.Disk.{Disk, Shape, flushed, reading, written}
use Rattle.log_model.specs.Superblock.{widened}
use Rattle.block_device.specs.State.{DeviceState, EachMoment, Stays}
use Rattle.block_device.proofs.Moments.{each-joins, each-moves, each-stays}
use Rattle.journal_world.specs.Call.{Call, after_success}
use Rattle.journal_world.specs.Call.Call.{Flush, Write}
use Rattle.log_epochs.specs.EngineWorld.{World}
use Rattle.log_epochs.specs.EngineWorld.Phase.{Shut, Upgrading}
use Rattle.log_epochs.specs.Epoch.{Epoch, pinning}
use Rattle.log_epochs.specs.UpgradeSteps.{IsUpgradableOn, UpgradeCall, UpgradeStage}
use Rattle.log_epochs.specs.UpgradeSteps.UpgradeCall.{FlushLog, FlushSuperblock, WriteSuperblock}
use Rattle.log_epochs.specs.UpgradeSteps.UpgradeStage.{Done, LogFlush, SuperblockFlush, SuperblockWrite}
use Rattle.log_epochs.specs.UpgradeRun.{IsUpgradeMoment, UpgradeReached}
use Rattle.log_epochs.specs.UpgradeRun.IsUpgradeMoment.{At, Fault}
use Rattle.log_epochs.specs.UpgradeRun.UpgradeReached.{Called, Tested}
use Rattle.recovery.specs.Calls.{HasBegun, HasMade, IsInterrupted, disk_after}
use Rattle.recovery.specs.Calls.IsInterrupted.{Before, Within}
use Rattle.recovery.specs.Upgrade.{LeadsThroughUpgrade, upgrade_calls}
use Rattle.recovery.proofs.MadeCalls.{made-begun, made-none}
use Rattle.recovery.proofs.OpeningMoments.{BeforeEach, past-each}

-- from this stage on each call is due after those before it
abbrev IsUpgradePath : List ℕ → UpgradeStage → List Call → Type 0
IsUpgradePath block stage [] = ⊤
IsUpgradePath block stage (call ∷ calls) = (next : UpgradeStage) × UpgradeCall block stage call next × IsUpgradePath block next calls

-- so are an upgrade's calls
upgrade-path : (block : List ℕ) → IsUpgradePath block LogFlush (upgrade_calls block)
upgrade-path block = (SuperblockWrite, FlushLog, (SuperblockFlush, WriteSuperblock, (Done, FlushSuperblock, tt)))

-- some calls of a path lead to a stage, from which the others are due
path-reached : (block : List ℕ) (old : Disk) (done due : List Call) (disk : Disk) (stage : UpgradeStage) → UpgradeReached block old stage disk →
    IsUpgradePath block stage (done ++ due) →
    (next : UpgradeStage) × UpgradeReached block old next (disk_after done disk) × IsUpgradePath block next due
path-reached block old [] due disk stage reached path = (stage, reached, path)
path-reached block old (call ∷ done) due disk stage reached path =
    path-reached block old done due (after_success call disk) path.0
    (Called stage path.0 call disk (after_success call disk) reached path.1 refl) path.2

-- each disk before a call of a path is a moment of the machine
path-moments : (shape : Shape) (block : List ℕ) (old : Disk) (done due : List Call) (disk : Disk) (stage : UpgradeStage) → IsUpgradableOn shape block old →
    UpgradeReached block old stage disk → IsUpgradePath block stage (done ++ due) → BeforeEach (IsUpgradeMoment shape old) done disk
path-moments shape block old [] due disk stage on reached path = tt
path-moments shape block old (call ∷ done) due disk stage on reached path = (
  At block stage on reached,
  path-moments shape block old done due (after_success call disk) path.0 on
      (Called stage path.0 call disk (after_success call disk) reached path.1 refl) path.2,
)

-- the moments of an upgrade's first calls are the machine's
some-moments : (shape : Shape) (block : List ℕ) (done due : List Call) (old new : DeviceState) → IsUpgradableOn shape block old.disk →
    upgrade_calls block ≡ done ++ due → HasMade done old new → EachMoment (IsUpgradeMoment shape old.disk) old new
some-moments shape block done due old new on split made =
    let path = subst (IsUpgradePath block LogFlush) split (upgrade-path block) in
    let past =
    past-each (IsUpgradeMoment shape old.disk) done old.disk old.past (path-moments shape block old.disk done due old.disk LogFlush on Tested path) in
    let reached = path-reached block old.disk done due old.disk LogFlush Tested path in
    record {
      since = past.since;
      past = made.past ∙ past.past_is;
      each = past.each;
      now = At block reached.0 on (subst (UpgradeReached block old.disk reached.0) (sym made.disk) reached.1);
    }

-- so are those of all its calls
pub made-upgrade-moments : (shape : Shape) (block : List ℕ) (old new : DeviceState) → IsUpgradableOn shape block old.disk →
    HasMade (upgrade_calls block) old new → EachMoment (IsUpgradeMoment shape old.disk) old new
made-upgrade-moments shape block old new on made = some-moments shape block (upgrade_calls block) [] old new on (sym (append-nil (upgrade_calls block))) made

-- so are those of a failure before these calls
interrupted-moments : (shape : Shape) (block : List ℕ) (old : Disk) (stage : UpgradeStage) (due : List Call) (mid new : DeviceState) → IsInterrupted due mid new →
    IsUpgradableOn shape block old → UpgradeReached block old stage mid.disk → IsUpgradePath block stage due → EachMoment (IsUpgradeMoment shape old) mid new
interrupted-moments shape block old stage due mid new (Before calls x y stays) on reached path =
    each-stays (IsUpgradeMoment shape old) mid new stays (At block stage on reached)
interrupted-moments shape block old stage due mid new (Within call calls x y disk fault moves) on reached path =
    each-moves (IsUpgradeMoment shape old) mid new disk moves (At block stage on reached)
    (Fault block on (record { stage = stage; next = path.0; call = call; disk = mid.disk; reached = reached; due = path.1; fault = fault }))

-- so are those of an upgrade that failed
pub begun-upgrade-moments : (shape : Shape) (block : List ℕ) (old new : DeviceState) → IsUpgradableOn shape block old.disk →
    HasBegun (upgrade_calls block) old new → EachMoment (IsUpgradeMoment shape old.disk) old new
begun-upgrade-moments shape block old new on begun =
    let path = subst (IsUpgradePath block LogFlush) begun.split (upgrade-path block) in
    let reached = path-reached block old.disk begun.done begun.due old.disk LogFlush Tested path in
    each-joins (IsUpgradeMoment shape old.disk) old begun.between new (some-moments shape block begun.done begun.due old begun.between on begun.split begun.made)
    (interrupted-moments shape block old.disk reached.0 begun.due begun.between new begun.interrupted on
    (subst (UpgradeReached block old.disk reached.0) (sym begun.made.disk) reached.1) reached.2)

-- calls that were begun after no change
pub begun-after : (calls : List Call) (s t u : DeviceState) → Stays s t → HasBegun calls t u → HasBegun calls s u
begun-after calls s t u stays begun = made-begun [] calls s t u (made-none s t stays) begun

-- all its calls are a run of the machine
pub upgrade-leads : (shape : Shape) (block : List ℕ) (old new : Disk) → IsUpgradableOn shape block old → new ≡ disk_after (upgrade_calls block) old →
    LeadsThroughUpgrade shape block old new
upgrade-leads shape block old new on is w shape_is disk_is shut =
    let pinned : Option Epoch = pinning w.epoch (reading w.disk) in
    let first : Disk = flushed w.disk Log in
    let second : Disk = written first Log 0 (widened block) in
    let third : Disk = flushed second Log in (
      record w { phase = Upgrading block LogFlush },
      record { shut = shut; on = subst (λ (m : Shape). IsUpgradableOn m block w.disk) (sym shape_is) (subst (IsUpgradableOn shape block) (sym disk_is) on); after = refl },
      (
        record w { disk = first; phase = Upgrading block SuperblockWrite; epoch = pinned },
        record { block = block; stage = LogFlush; next = SuperblockWrite; upgrading = refl; call = Flush Log; due = FlushLog; after = refl },
        (
          record w { disk = second; phase = Upgrading block SuperblockFlush; epoch = pinned },
          record { block = block; stage = SuperblockWrite; next = SuperblockFlush; upgrading = refl; call = Write Log 0 (widened block); due = WriteSuperblock; after = refl },
          (
            record w { disk = third; phase = Upgrading block Done; epoch = pinned },
            record { block = block; stage = SuperblockFlush; next = Done; upgrading = refl; call = Flush Log; due = FlushSuperblock; after = refl },
            (
              record w { disk = third; phase = Shut; epoch = pinned },
              record { after = refl },
              ap (λ (d : Disk). let end : World = record w { disk = d; phase = Shut; epoch = pinned } in end)
                  (is ∙ ap (disk_after (upgrade_calls block)) (sym disk_is)),
            ),
          ),
        ),
      ),
    )
