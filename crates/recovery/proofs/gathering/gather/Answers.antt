use Rattle.std.proofs.Common.{ℕ, ◌+◌, List, refl, sym, ◌∙◌, ap, subst, arith, inr}
use Rattle.std.specs.Prelude.{take}
use Rattle.std.proofs.lemmas.List.{length-take-le}
use Rattle.log_model.specs.declared.log.Tag.{Tag}
use Rattle.journal_model.specs.Disk.{reading}
use Rattle.log_model.specs.Superblock.{Super}
use Rattle.block_device.specs.State.{DeviceState}
use Rattle.block_device.proofs.OneCall.{no-read, reads-on}
use Rattle.log_scan.specs.declared.cursor.Cursor.{Cursor}
use Rattle.log_scan.specs.Passing.{LeadsTo}
use Rattle.log_scan.specs.Scanning.{IsChainOf}
use Rattle.recovery.specs.Gather.{TablesValue, with_copies, with_revokes}
use Rattle.recovery.proofs.GatherRuns.{Gathers, gathers-all, gathers-commit, gathers-copies, gathers-none, gathers-revokes, led-nowhere, led-on}
use Rattle.recovery.proofs.gathering.gather.Goals as goal

pub loop-cursor-init : goal.loop-cursor-init
loop-cursor-init g c = rw (c.new-cursor.ensures, c.new-tables.ensures) (record {
  within = omega arith;
  few = omega arith;
  held = omega arith;
  below = omega arith;
  layout = refl;
  device = no-read;
  faults = refl;
  gathers = λ h. gathers-none c.args.log.now c.blocks-2.result (reading (g.D.Device.state c.args.device.now).disk) c.args.transactions;
})

pub loop-cursor-preserved-in-Continue-branch-3 : goal.loop-cursor-preserved-in-Continue-branch-3
loop-cursor-preserved-in-Continue-branch-3 g c =
    let s : Super = c.args.log.now in
    let old : DeviceState = g.D.Device.state c.args.device.now in
    let before = c.loop-cursor.invariant in
    let moved = rw c.in-RevokeBlock.is at c.in_ok-count.ensures.behind in
    let position = ap (λ (x : Cursor). x.position) moved in
    let same = ap (λ (x : Cursor). x.transactions) moved in
    record {
      within = c.advance.ensures.within;
      few = c.advance.ensures.few;
      held = let held = before.held in omega arith;
      below = let below = c.loop-cursor-test.true in omega arith;
      layout = c.advance.ensures.layout ∙ before.layout;
      device = reads-on before.device c.advance.ensures.device;
      faults = c.in_ok-count.ensures.faults ∙ before.faults;
      gathers = λ h.
          let so = before.gathers (c.advance.ensures.device.honest h) in
          let leads = led-on s c.blocks-2.result old (g.D.Device.state c.loop-cursor.device) c.advance.new.finder c.loop-cursor.cursor c.advance.new.self c.in_ok-count.field-0 before.device.stays
          so.texts so.pieces so.passed (c.in_ok-count.ensures.leads h) in
          let noted = c.in_ok-note_revokes-in-RevokeBlock.ensures.ok
          ∙ ap (λ (numbers : List ℕ). with_revokes c.loop-cursor.tables c.number_of-tid.result numbers) c.numbers.ensures in
          subst (λ (tables : TablesValue). Gathers s c.blocks-2.result (reading old.disk) c.advance.new.self c.args.transactions c.loop-cursor.copies tables) (sym noted)
          (gathers-revokes s c.blocks-2.result (reading old.disk) c.loop-cursor.cursor c.advance.new.self c.args.transactions c.loop-cursor.copies c.loop-cursor.tables so
          (take c.in-RevokeBlock.count c.advance.new.finder.numbers) c.number_of-tid.result c.number_of-tid.ensures c.loop-cursor-test.true same
          (subst (LeadsTo s c.blocks-2.result (reading old.disk) so.texts so.pieces c.advance.new.finder c.loop-cursor.cursor c.advance.new.self) c.in-RevokeBlock.is leads));
    }

pub loop-cursor-preserved-in-Descriptor : goal.loop-cursor-preserved-in-Descriptor
loop-cursor-preserved-in-Descriptor g c =
    let s : Super = c.args.log.now in
    let old : DeviceState = g.D.Device.state c.args.device.now in
    let before = c.loop-cursor.invariant in
    let moved = rw c.in-Descriptor.is at c.in_ok-count.ensures.behind in
    let fits = rw c.in-Descriptor.is at c.in_ok-count.ensures.fits in
    let position = ap (λ (x : Cursor). x.position) moved in
    let same = ap (λ (x : Cursor). x.transactions) moved in
    record {
      within = c.advance.ensures.within;
      few = c.advance.ensures.few;
      held = let held = before.held in omega arith;
      below = let below = c.loop-cursor-test.true in omega arith;
      layout = c.advance.ensures.layout ∙ before.layout;
      device = reads-on before.device c.advance.ensures.device;
      faults = c.in_ok-count.ensures.faults ∙ before.faults;
      gathers = λ h.
          let so = before.gathers (c.advance.ensures.device.honest h) in
          let leads = led-on s c.blocks-2.result old (g.D.Device.state c.loop-cursor.device) c.advance.new.finder c.loop-cursor.cursor c.advance.new.self c.in_ok-count.field-0 before.device.stays
          so.texts so.pieces so.passed (c.in_ok-count.ensures.leads h) in
          let noted = c.in_ok-note_copies-in-Descriptor.ensures.ok
          ∙ ap (λ (tags : List Tag). with_copies c.loop-cursor.tables c.loop-cursor.copies tags) c.tags.ensures in
          subst (λ (tables : TablesValue). Gathers s c.blocks-2.result (reading old.disk) c.advance.new.self c.args.transactions (c.loop-cursor.copies + c.in-Descriptor.count) tables) (sym noted)
          (gathers-copies s c.blocks-2.result (reading old.disk) c.loop-cursor.cursor c.advance.new.self c.args.transactions c.loop-cursor.copies c.loop-cursor.tables so
          (take c.in-Descriptor.count c.advance.new.finder.tags) c.in-Descriptor.count (sym (length-take-le c.in-Descriptor.count c.advance.new.finder.tags fits.0)) c.loop-cursor-test.true same
          (subst (LeadsTo s c.blocks-2.result (reading old.disk) so.texts so.pieces c.advance.new.finder c.loop-cursor.cursor c.advance.new.self) c.in-Descriptor.is leads));
    }

pub loop-cursor-preserved : goal.loop-cursor-preserved
loop-cursor-preserved g c =
    let s : Super = c.args.log.now in
    let old : DeviceState = g.D.Device.state c.args.device.now in
    let before = c.loop-cursor.invariant in
    let moved = rw c.in-CommitBlock.is at c.in_ok-count.ensures.behind in
    let position = ap (λ (x : Cursor). x.position) moved in
    let same = ap (λ (x : Cursor). x.transactions) moved in
    record {
      within = c.advance.ensures.within;
      few = c.advance.ensures.few;
      held = let held = before.held in omega arith;
      below = let below = c.loop-cursor-test.true in omega arith;
      layout = c.advance.ensures.layout ∙ before.layout;
      device = reads-on before.device c.advance.ensures.device;
      faults = c.in_ok-count.ensures.faults ∙ before.faults;
      gathers = λ h.
          let so = before.gathers (c.advance.ensures.device.honest h) in
          let leads = led-on s c.blocks-2.result old (g.D.Device.state c.loop-cursor.device) c.advance.new.finder c.loop-cursor.cursor c.advance.new.self c.in_ok-count.field-0 before.device.stays
          so.texts so.pieces so.passed (c.in_ok-count.ensures.leads h) in
          gathers-commit s c.blocks-2.result (reading old.disk) c.loop-cursor.cursor c.advance.new.self c.args.transactions c.loop-cursor.copies c.loop-cursor.tables so
          (subst (LeadsTo s c.blocks-2.result (reading old.disk) so.texts so.pieces c.advance.new.finder c.loop-cursor.cursor c.advance.new.self) c.in-CommitBlock.is leads);
    }

-- with correct reads the chain leads on
pub returns-in-Malformed-clause-refused : goal.returns-in-Malformed-clause-refused
returns-in-Malformed-clause-refused g c =
    let s : Super = c.args.log.now in
    let old : DeviceState = g.D.Device.state c.args.device.now in
    let before = c.loop-cursor.invariant in
    inr (record {
      names = record { place = c.place.result; from = c.place.ensures.ring; below = c.place.ensures.there; refusal = refl };
      no_fault = c.in_ok-count.ensures.faults ∙ before.faults;
      some = let below = c.loop-cursor-test.true in omega arith;
      never = λ h texts are all.
          let so = before.gathers (c.advance.ensures.device.honest h) in
          led-nowhere s c.blocks-2.result (reading old.disk) c.advance.new.finder c.loop-cursor.cursor c.advance.new.self c.in_ok-count.field-0 c.args.transactions c.loop-cursor.copies
          c.loop-cursor.tables so c.in-Malformed.is
          (led-on s c.blocks-2.result old (g.D.Device.state c.loop-cursor.device) c.advance.new.finder c.loop-cursor.cursor c.advance.new.self c.in_ok-count.field-0 before.device.stays
          so.texts so.pieces so.passed (c.in_ok-count.ensures.leads h))
          texts (subst (λ (n : ℕ). IsChainOf s n (reading old.disk) texts) (sym c.blocks-2.ensures) are) all c.loop-cursor-test.true;
    })

pub returns-clause-tables : goal.returns-clause-tables
returns-clause-tables g c = λ h texts are all.
    let s : Super = c.args.log.now in
    let old : DeviceState = g.D.Device.state c.args.device.now in
    let before = c.loop-cursor.invariant in
    gathers-all s c.blocks-2.result (reading old.disk) c.loop-cursor.cursor c.loop-cursor.cursor c.args.transactions c.loop-cursor.copies c.loop-cursor.tables (before.gathers h)
    texts (subst (λ (n : ℕ). IsChainOf s n (reading old.disk) texts) (sym c.blocks-2.ensures) are) all
    (let below = before.below in let end = c.loop-cursor-test.false in omega arith)
