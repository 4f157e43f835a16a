use Rattle.std.proofs.Common.{ℕ, ◌+◌, refl, sym, ◌∙◌, ap, subst, arith, inr}
use Rattle.std.specs.Prelude.{take}
use Rattle.std.proofs.lemmas.List.{length-take-le}
use Rattle.std.proofs.lemmas.Result.{err_from_is_err_and}
use Rattle.journal_model.specs.declared.number.Area.TheVariants.{Log}
use Rattle.journal_model.specs.Disk.{Disk, reading}
use Rattle.log_model.specs.Superblock.{Super}
use Rattle.block_device.specs.State.{DeviceState}
use Rattle.log_scan.specs.declared.cursor.Cursor.{Cursor}
use Rattle.log_scan.specs.Finding.{reads_of}
use Rattle.log_scan.specs.Passing.{LeadsTo}
use Rattle.log_scan.specs.Scanning.{IsChainOf}
use Rattle.recovery.proofs.PassCalls.{calls-fewer, calls-join, calls-none, passed-reads}
use Rattle.recovery.proofs.ReplayRuns.{on-below, on-farther, replay-led, replay-stand, replays-all, replays-begun, replays-copies, replays-none, replays-nowhere, replays-on, replays-unread}
use Rattle.recovery.proofs.replaying.replay.Goals as goal

pub loop-cursor-init : goal.loop-cursor-init
loop-cursor-init g c = rw c.new-cursor.ensures (record {
  within = omega arith;
  few = omega arith;
  held = omega arith;
  below = omega arith;
  layout = refl;
  shape = refl;
  faults = refl;
  log = refl;
  none = λ all. record { shape = refl; disk = refl; past = refl };
  calls = calls-none (g.D.Device.state c.args.device.now);
  honest = λ h. h;
  replays = λ h. replays-none c.args.log.now c.blocks-2.result (reading (g.D.Device.state c.args.device.now).disk) c.args.transactions c.args.tables.now (g.D.Device.state c.args.device.now);
})

pub loop-cursor-preserved-in-RevokeBlock : goal.loop-cursor-preserved-in-RevokeBlock
loop-cursor-preserved-in-RevokeBlock g c =
    let s : Super = c.args.log.now in
    let old : DeviceState = g.D.Device.state c.args.device.now in
    let mid : DeviceState = g.D.Device.state c.loop-cursor.device in
    let before = c.loop-cursor.invariant in
    let farther = on-farther c.loop-cursor.cursor c.advance.new.self c.in_ok-advance.field-0 c.in-RevokeBlock.is c.in_ok-advance.ensures.behind in
    record {
      within = c.advance.ensures.within;
      few = c.advance.ensures.few;
      held = let held = before.held in omega arith;
      below = on-below c.loop-cursor.cursor c.advance.new.self c.in_ok-advance.field-0 c.args.transactions c.in-RevokeBlock.is c.in_ok-advance.ensures.behind c.loop-cursor-test.true;
      layout = c.advance.ensures.layout ∙ before.layout;
      shape = c.advance.ensures.device.stays.shape ∙ before.shape;
      faults = c.in_ok-advance.ensures.faults ∙ before.faults;
      log = ap (λ (d : Disk). d Log) c.advance.ensures.device.stays.disk ∙ before.log;
      none = λ all. let some = c.loop-cursor-test.true in absurd (omega arith);
      calls =
          calls-fewer c.advance.new.self.transactions (c.loop-cursor.cursor.transactions + reads_of c.in_ok-advance.field-0) old (g.D.Device.state c.advance.new.device)
          (passed-reads c.loop-cursor.cursor c.advance.new.self c.in_ok-advance.field-0 c.in-RevokeBlock.is c.in_ok-advance.ensures.behind)
          (calls-join c.loop-cursor.cursor.transactions (reads_of c.in_ok-advance.field-0) old mid (g.D.Device.state c.advance.new.device) before.calls
          c.in_ok-advance.ensures.calls);
      honest = λ h. before.honest (c.advance.ensures.device.honest h);
      replays = λ h.
          let so = before.replays (c.advance.ensures.device.honest h) in
          let leads = replay-led s c.blocks-2.result c.loop-cursor.cursor c.advance.new.self c.advance.new.finder c.in_ok-advance.field-0 c.args.transactions c.loop-cursor.place c.args.tables.now
          old mid so (c.in_ok-advance.ensures.leads h) in
          replays-on s c.blocks-2.result (reading old.disk) c.loop-cursor.cursor c.advance.new.self c.advance.new.finder c.in_ok-advance.field-0 c.args.transactions c.loop-cursor.place c.args.tables.now
          old mid so leads c.in-RevokeBlock.is c.in_ok-advance.ensures.behind c.loop-cursor-test.true (g.D.Device.state c.advance.new.device) c.advance.ensures.device.stays;
    }

pub loop-cursor-preserved : goal.loop-cursor-preserved
loop-cursor-preserved g c =
    let s : Super = c.args.log.now in
    let old : DeviceState = g.D.Device.state c.args.device.now in
    let mid : DeviceState = g.D.Device.state c.loop-cursor.device in
    let next : DeviceState = g.D.Device.state c.advance.new.device in
    let before = c.loop-cursor.invariant in
    let moved = rw c.in-Descriptor.is at c.in_ok-advance.ensures.behind in
    let fits = rw c.in-Descriptor.is at c.in_ok-advance.ensures.fits in
    let position = ap (λ (x : Cursor). x.position) moved in
    let same = ap (λ (x : Cursor). x.transactions) moved in
    record {
      within = c.advance.ensures.within;
      few = c.advance.ensures.few;
      held = let held = before.held in omega arith;
      below = let below = c.loop-cursor-test.true in omega arith;
      layout = c.write_copies.ensures.layout ∙ c.advance.ensures.layout ∙ before.layout;
      shape = c.write_copies.ensures.shape ∙ c.advance.ensures.device.stays.shape ∙ before.shape;
      faults = c.in_ok-write_copies-in-Descriptor.ensures.faults ∙ c.in_ok-advance.ensures.faults ∙ before.faults;
      log = c.write_copies.ensures.log ∙ ap (λ (d : Disk). d Log) c.advance.ensures.device.stays.disk ∙ before.log;
      none = λ all. let some = c.loop-cursor-test.true in absurd (omega arith);
      calls =
          let reads : ℕ = reads_of c.in_ok-advance.field-0 in
          calls-fewer c.advance.new.self.transactions ((c.loop-cursor.cursor.transactions + reads) + 0) old (g.D.Device.state c.write_copies.new.device) (omega arith)
          (calls-join (c.loop-cursor.cursor.transactions + reads) 0 old next (g.D.Device.state c.write_copies.new.device)
          (calls-join c.loop-cursor.cursor.transactions reads old mid next before.calls c.in_ok-advance.ensures.calls) c.in_ok-write_copies-in-Descriptor.ensures.calls);
      honest = λ h. before.honest (c.advance.ensures.device.honest (c.write_copies.ensures.honest h));
      replays = λ h.
          let so = before.replays (c.advance.ensures.device.honest (c.write_copies.ensures.honest h)) in
          let leads = subst (LeadsTo s c.blocks-2.result (reading old.disk) so.texts so.pieces c.advance.new.finder c.loop-cursor.cursor c.advance.new.self) c.in-Descriptor.is
          (replay-led s c.blocks-2.result c.loop-cursor.cursor c.advance.new.self c.advance.new.finder c.in_ok-advance.field-0 c.args.transactions c.loop-cursor.place c.args.tables.now
          old mid so (c.in_ok-advance.ensures.leads (c.write_copies.ensures.honest h))) in
          replays-copies s c.blocks-2.result (reading old.disk) c.loop-cursor.cursor c.advance.new.self c.args.transactions c.loop-cursor.place c.args.tables.now old mid so
          (take c.in-Descriptor.count c.advance.new.finder.tags) c.in-Descriptor.count c.number_of-tid.result
          (sym (length-take-le c.in-Descriptor.count c.advance.new.finder.tags fits.0)) c.number_of-tid.ensures leads c.loop-cursor-test.true same next
          (g.D.Device.state c.write_copies.new.device) c.advance.ensures.device.stays
          (c.in_ok-write_copies-in-Descriptor.ensures.made h leads.copies
          (replay-stand s c.blocks-2.result c.loop-cursor.cursor c.args.transactions c.loop-cursor.place c.args.tables.now old mid next (c.loop-cursor.cursor.position + 1) c.in-Descriptor.count
          leads.copies so c.advance.ensures.device.stays leads.stand));
    }

pub returns-in_err-advance-clause-begun : goal.returns-in_err-advance-clause-begun
returns-in_err-advance-clause-begun g c =
    let s : Super = c.args.log.now in
    let old : DeviceState = g.D.Device.state c.args.device.now in
    let before = c.loop-cursor.invariant in
    let p = err_from_is_err_and c.from_residual.result c.from_residual.ensures.1 in
    rw p.1
    (λ h texts are all tables_are.
    replays-unread s c.blocks-2.result (reading old.disk) c.loop-cursor.cursor c.loop-cursor.cursor c.args.transactions c.loop-cursor.place c.args.tables.now old
    (g.D.Device.state c.loop-cursor.device) (before.replays (c.advance.ensures.device.honest h)) texts
    (subst (λ (n : ℕ). IsChainOf s n (reading old.disk) texts) (sym c.blocks-2.ensures) are) all tables_are c.loop-cursor-test.true (g.D.Device.state c.advance.new.device)
    c.advance.ensures.device.stays)

pub returns-in_err-write_copies-in-Descriptor-clause-begun : goal.returns-in_err-write_copies-in-Descriptor-clause-begun
returns-in_err-write_copies-in-Descriptor-clause-begun g c =
    let s : Super = c.args.log.now in
    let old : DeviceState = g.D.Device.state c.args.device.now in
    let mid : DeviceState = g.D.Device.state c.loop-cursor.device in
    let next : DeviceState = g.D.Device.state c.advance.new.device in
    let before = c.loop-cursor.invariant in
    let moved = rw c.in-Descriptor.is at c.in_ok-advance.ensures.behind in
    let fits = rw c.in-Descriptor.is at c.in_ok-advance.ensures.fits in
    let same = ap (λ (x : Cursor). x.transactions) moved in
    let p = err_from_is_err_and c.from_residual-in_err-write_copies-in-Descriptor.result c.from_residual-in_err-write_copies-in-Descriptor.ensures.1 in
    rw p.1
    (λ h texts are all tables_are.
    let so = before.replays (c.advance.ensures.device.honest (c.write_copies.ensures.honest h)) in
    let leads = subst (LeadsTo s c.blocks-2.result (reading old.disk) so.texts so.pieces c.advance.new.finder c.loop-cursor.cursor c.advance.new.self) c.in-Descriptor.is
    (replay-led s c.blocks-2.result c.loop-cursor.cursor c.advance.new.self c.advance.new.finder c.in_ok-advance.field-0 c.args.transactions c.loop-cursor.place c.args.tables.now
    old mid so (c.in_ok-advance.ensures.leads (c.write_copies.ensures.honest h))) in
    replays-begun s c.blocks-2.result (reading old.disk) c.loop-cursor.cursor c.advance.new.self c.args.transactions c.loop-cursor.place c.args.tables.now old mid so
    (take c.in-Descriptor.count c.advance.new.finder.tags) c.in-Descriptor.count c.number_of-tid.result
    (sym (length-take-le c.in-Descriptor.count c.advance.new.finder.tags fits.0)) c.number_of-tid.ensures leads texts
    (subst (λ (n : ℕ). IsChainOf s n (reading old.disk) texts) (sym c.blocks-2.ensures) are) all tables_are c.loop-cursor-test.true same next
    (g.D.Device.state c.write_copies.new.device) c.advance.ensures.device.stays
    (c.in_err-write_copies-in-Descriptor.ensures.begun h leads.copies
    (replay-stand s c.blocks-2.result c.loop-cursor.cursor c.args.transactions c.loop-cursor.place c.args.tables.now old mid next (c.loop-cursor.cursor.position + 1) c.in-Descriptor.count
    leads.copies so c.advance.ensures.device.stays leads.stand)))

-- with correct reads this can't happen
pub returns-in-Malformed-clause-refused : goal.returns-in-Malformed-clause-refused
returns-in-Malformed-clause-refused g c =
    let s : Super = c.args.log.now in
    let old : DeviceState = g.D.Device.state c.args.device.now in
    let mid : DeviceState = g.D.Device.state c.loop-cursor.device in
    let before = c.loop-cursor.invariant in
    inr (record {
      names = record { place = c.place.result; from = c.place.ensures.ring; below = c.place.ensures.there; refusal = refl };
      no_fault = c.in_ok-advance.ensures.faults ∙ before.faults;
      some = let below = c.loop-cursor-test.true in omega arith;
      never = λ h texts are all.
          let so = before.replays (c.advance.ensures.device.honest h) in
          replays-nowhere s c.blocks-2.result (reading old.disk) c.loop-cursor.cursor c.advance.new.self c.advance.new.finder c.in_ok-advance.field-0 c.args.transactions
          c.loop-cursor.place c.args.tables.now old mid so
          (replay-led s c.blocks-2.result c.loop-cursor.cursor c.advance.new.self c.advance.new.finder c.in_ok-advance.field-0 c.args.transactions c.loop-cursor.place c.args.tables.now
          old mid so (c.in_ok-advance.ensures.leads h))
          texts (subst (λ (n : ℕ). IsChainOf s n (reading old.disk) texts) (sym c.blocks-2.ensures) are) all c.loop-cursor-test.true c.in-Malformed.is;
    })

pub returns-in-Malformed-clause-begun : goal.returns-in-Malformed-clause-begun
returns-in-Malformed-clause-begun g c = λ h texts are all tables_are.
    let s : Super = c.args.log.now in
    let old : DeviceState = g.D.Device.state c.args.device.now in
    let mid : DeviceState = g.D.Device.state c.loop-cursor.device in
    let so = c.loop-cursor.invariant.replays (c.advance.ensures.device.honest h) in
    let none = replays-nowhere s c.blocks-2.result (reading old.disk) c.loop-cursor.cursor c.advance.new.self c.advance.new.finder c.in_ok-advance.field-0 c.args.transactions
    c.loop-cursor.place c.args.tables.now old mid so
    (replay-led s c.blocks-2.result c.loop-cursor.cursor c.advance.new.self c.advance.new.finder c.in_ok-advance.field-0 c.args.transactions c.loop-cursor.place c.args.tables.now
    old mid so (c.in_ok-advance.ensures.leads h))
    texts (subst (λ (n : ℕ). IsChainOf s n (reading old.disk) texts) (sym c.blocks-2.ensures) are) all c.loop-cursor-test.true c.in-Malformed.is in
    absurd none

pub returns-clause-made : goal.returns-clause-made
returns-clause-made g c = λ h texts are all tables_are.
    let s : Super = c.args.log.now in
    let old : DeviceState = g.D.Device.state c.args.device.now in
    let before = c.loop-cursor.invariant in
    replays-all s c.blocks-2.result (reading old.disk) c.loop-cursor.cursor c.loop-cursor.cursor c.args.transactions c.loop-cursor.place c.args.tables.now old
    (g.D.Device.state c.loop-cursor.device) (before.replays h) texts (subst (λ (n : ℕ). IsChainOf s n (reading old.disk) texts) (sym c.blocks-2.ensures) are) all tables_are
    (let below = before.below in let end = c.loop-cursor-test.false in omega arith)

pub returns-in_err-advance-clause-none : goal.returns-in_err-advance-clause-none
returns-in_err-advance-clause-none g c = λ all. let some = c.loop-cursor-test.true in absurd (omega arith)

pub returns-in_err-write_copies-in-Descriptor-clause-none : goal.returns-in_err-write_copies-in-Descriptor-clause-none
returns-in_err-write_copies-in-Descriptor-clause-none g c = λ all. let some = c.loop-cursor-test.true in absurd (omega arith)

pub returns-in-Malformed-clause-none : goal.returns-in-Malformed-clause-none
returns-in-Malformed-clause-none g c = λ all. let some = c.loop-cursor-test.true in absurd (omega arith)
