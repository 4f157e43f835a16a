use Rattle.std.proofs.Common.{ℕ, refl, sym, ◌∙◌, ap, subst, arith, inr}
use Rattle.std.specs.Prelude.{List, length, take}
use Rattle.std.proofs.lemmas.List.{length-take-le}
use Rattle.log_model.specs.declared.log.Tag.{Tag}
use Rattle.journal_model.specs.Disk.{reading}
use Rattle.log_model.specs.Superblock.{Super}
use Rattle.block_device.specs.State.{DeviceState}
use Rattle.block_device.proofs.OneCall.{no-read, reads-on}
use Rattle.log_scan.specs.declared.cursor.Cursor.{Cursor}
use Rattle.log_scan.specs.Passing.{LeadsTo}
use Rattle.log_scan.specs.Scanning.{IsChainOf}
use Rattle.recovery.specs.Gather.{count_chosen}
use Rattle.recovery.proofs.CountRuns.{counts-all, counts-copies, counts-none, counts-nowhere, counts-on}
use Rattle.recovery.proofs.GatherRuns.{led-on}
use Rattle.recovery.proofs.ReplayRuns.{on-below, on-farther}
use Rattle.recovery.proofs.planning.count_copies.Goals as goal

pub loop-cursor-init : goal.loop-cursor-init
loop-cursor-init g c = rw c.new-cursor.ensures (record {
  within = omega arith;
  few = omega arith;
  held = omega arith;
  counted = omega arith;
  below = omega arith;
  layout = refl;
  device = no-read;
  faults = refl;
  none = λ all. refl;
  counts = λ h. counts-none c.args.log.now c.blocks-2.result (reading (g.D.Device.state c.args.device.now).disk) c.args.transactions c.args.tables.now;
})

pub loop-cursor-preserved-in-RevokeBlock : goal.loop-cursor-preserved-in-RevokeBlock
loop-cursor-preserved-in-RevokeBlock g c =
    let s : Super = c.args.log.now in
    let old : DeviceState = g.D.Device.state c.args.device.now in
    let before = c.loop-cursor.invariant in
    let farther = on-farther c.loop-cursor.cursor c.advance.new.self c.in_ok-advance.field-0 c.in-RevokeBlock.is c.in_ok-advance.ensures.behind in
    record {
      within = c.advance.ensures.within;
      few = c.advance.ensures.few;
      held = let held = before.held in omega arith;
      counted = before.counted;
      below = on-below c.loop-cursor.cursor c.advance.new.self c.in_ok-advance.field-0 c.args.transactions c.in-RevokeBlock.is c.in_ok-advance.ensures.behind c.loop-cursor-test.true;
      layout = c.advance.ensures.layout ∙ before.layout;
      device = reads-on before.device c.advance.ensures.device;
      faults = c.in_ok-advance.ensures.faults ∙ before.faults;
      none = λ all. let some = c.loop-cursor-test.true in absurd (omega arith);
      counts = λ h.
          let so = before.counts (c.advance.ensures.device.honest h) in
          let leads = led-on s c.blocks-2.result old (g.D.Device.state c.loop-cursor.device) c.advance.new.finder c.loop-cursor.cursor c.advance.new.self c.in_ok-advance.field-0 before.device.stays
          so.texts so.pieces so.passed (c.in_ok-advance.ensures.leads h) in
          counts-on s c.blocks-2.result (reading old.disk) c.loop-cursor.cursor c.advance.new.self c.args.transactions c.loop-cursor.place c.loop-cursor.count c.args.tables.now so
          c.advance.new.finder c.in_ok-advance.field-0 c.in-RevokeBlock.is c.in_ok-advance.ensures.behind c.loop-cursor-test.true leads;
    }

pub loop-cursor-preserved : goal.loop-cursor-preserved
loop-cursor-preserved g c =
    let s : Super = c.args.log.now in
    let old : DeviceState = g.D.Device.state c.args.device.now in
    let before = c.loop-cursor.invariant in
    let moved = rw c.in-Descriptor.is at c.in_ok-advance.ensures.behind in
    let fits = rw c.in-Descriptor.is at c.in_ok-advance.ensures.fits in
    let position = ap (λ (x : Cursor). x.position) moved in
    let same = ap (λ (x : Cursor). x.transactions) moved in
    let size = length-take-le c.in-Descriptor.n c.advance.new.finder.tags fits.0 in
    let tagged = ap length c.tags.ensures in
    record {
      within = c.advance.ensures.within;
      few = c.advance.ensures.few;
      held = let held = before.held in omega arith;
      counted = let counted = before.counted in let few = c.count_tagged-count.ensures.few in omega arith;
      below = let below = c.loop-cursor-test.true in omega arith;
      layout = c.advance.ensures.layout ∙ before.layout;
      device = reads-on before.device c.advance.ensures.device;
      faults = c.in_ok-advance.ensures.faults ∙ before.faults;
      none = λ all. let some = c.loop-cursor-test.true in absurd (omega arith);
      counts = λ h.
          let so = before.counts (c.advance.ensures.device.honest h) in
          let leads = led-on s c.blocks-2.result old (g.D.Device.state c.loop-cursor.device) c.advance.new.finder c.loop-cursor.cursor c.advance.new.self c.in_ok-advance.field-0 before.device.stays
          so.texts so.pieces so.passed (c.in_ok-advance.ensures.leads h) in
          counts-copies s c.blocks-2.result (reading old.disk) c.loop-cursor.cursor c.advance.new.self c.args.transactions c.loop-cursor.place c.loop-cursor.count c.args.tables.now so
          (take c.in-Descriptor.n c.advance.new.finder.tags) c.in-Descriptor.n c.number_of-tid.result c.count_tagged-count.result (sym size) c.number_of-tid.ensures c.loop-cursor-test.true same
          (subst (LeadsTo s c.blocks-2.result (reading old.disk) so.texts so.pieces c.advance.new.finder c.loop-cursor.cursor c.advance.new.self) c.in-Descriptor.is leads)
          (c.count_tagged-count.ensures.count ∙ ap (λ (tags : List Tag). count_chosen c.args.tables.now c.number_of-tid.result c.loop-cursor.place tags) c.tags.ensures);
    }

-- with correct reads this can't happen
pub returns-in-Malformed-clause-refused : goal.returns-in-Malformed-clause-refused
returns-in-Malformed-clause-refused g c =
    let s : Super = c.args.log.now in
    let old : DeviceState = g.D.Device.state c.args.device.now in
    let before = c.loop-cursor.invariant in
    inr (record {
      names = record { place = c.place.result; from = c.place.ensures.ring; below = c.place.ensures.there; refusal = refl };
      no_fault = c.in_ok-advance.ensures.faults ∙ before.faults;
      some = let below = c.loop-cursor-test.true in omega arith;
      never = λ h texts are all.
          let so = before.counts (c.advance.ensures.device.honest h) in
          counts-nowhere s c.blocks-2.result (reading old.disk) c.loop-cursor.cursor c.advance.new.self c.args.transactions c.loop-cursor.place c.loop-cursor.count c.args.tables.now so
          texts (subst (λ (n : ℕ). IsChainOf s n (reading old.disk) texts) (sym c.blocks-2.ensures) are) all c.advance.new.finder c.in_ok-advance.field-0 c.loop-cursor-test.true
          c.in-Malformed.is
          (led-on s c.blocks-2.result old (g.D.Device.state c.loop-cursor.device) c.advance.new.finder c.loop-cursor.cursor c.advance.new.self c.in_ok-advance.field-0 before.device.stays
          so.texts so.pieces so.passed (c.in_ok-advance.ensures.leads h));
    })

pub returns-clause-count : goal.returns-clause-count
returns-clause-count g c = λ h texts are all tables_are.
    let s : Super = c.args.log.now in
    let old : DeviceState = g.D.Device.state c.args.device.now in
    let before = c.loop-cursor.invariant in
    counts-all s c.blocks-2.result (reading old.disk) c.loop-cursor.cursor c.loop-cursor.cursor c.args.transactions c.loop-cursor.place c.loop-cursor.count c.args.tables.now
    (before.counts h) texts (subst (λ (n : ℕ). IsChainOf s n (reading old.disk) texts) (sym c.blocks-2.ensures) are) all tables_are
    (let below = before.below in let end = c.loop-cursor-test.false in omega arith)
