use Rattle.std.proofs.Common.{[], refl, subst, ◌∙◌, arith}
use Rattle.journal_model.specs.Disk.{reading}
use Rattle.block_device.proofs.OneCall.{no-read, reads-on}
use Rattle.log_scan.specs.Finding.{limit_of}
use Rattle.log_scan.proofs.ScanSteps.{HasLed, farther, goes-on, led-damage, led-end, led-there, passed-none}
use Rattle.log_scan.proofs.scanning.find_end.Goals as goal

-- nothing is read yet
pub loop-init : goal.loop-init
loop-init g c = rw c.new-cursor.ensures (record {
  within = omega arith;
  few = omega arith;
  layout = refl;
  device = no-read;
  faults = refl;
  passed = λ h. record {
    texts = [];
    pieces = [];
    passed = passed-none c.args.log.now (limit_of c.args.log.now c.args.home_blocks) (reading (g.D.Device.state c.args.device.now).disk);
  };
})

-- a piece or a commit block is passed
pub loop-preserved : goal.loop-preserved
loop-preserved g c = let before = c.loop.invariant in record {
  within = c.advance.ensures.within;
  few = c.advance.ensures.few;
  layout = c.advance.ensures.layout ∙ before.layout;
  device = reads-on before.device c.advance.ensures.device;
  faults = c.in_ok-advance.ensures.faults ∙ before.faults;
  passed =
      λ h. goes-on c.args.log.now (limit_of c.args.log.now c.args.home_blocks) (reading (g.D.Device.state c.args.device.now).disk) c.advance.new.finder c.loop.cursor c.advance.new.self
      c.in_ok-advance.field-0 c.in-RevokeBlock.is
      (led-there c.args.log.now (limit_of c.args.log.now c.args.home_blocks) (g.D.Device.state c.args.device.now) (g.D.Device.state c.loop.device) c.advance.new.finder c.loop.cursor
      c.advance.new.self c.in_ok-advance.field-0 before.device.stays (before.passed (c.advance.ensures.device.honest h)) (c.in_ok-advance.ensures.leads h));
}

-- it leads farther on
pub loop-smaller : goal.loop-smaller
loop-smaller g c =
    let on = farther c.loop.cursor c.advance.new.self c.in_ok-advance.field-0 c.in-RevokeBlock.is c.in_ok-advance.ensures.behind in
    let within = c.advance.ensures.within in
    omega arith

-- the cursor stays before a malformed block
pub returns-in-Malformed-clause-ends : goal.returns-in-Malformed-clause-ends
returns-in-Malformed-clause-ends g c = λ h.
    let before = c.loop.invariant in
    let stayed = rw c.in-Malformed.is at c.in_ok-advance.ensures.behind in
    rw stayed
    (led-damage c.args.log.now (limit_of c.args.log.now c.args.home_blocks) (reading (g.D.Device.state c.args.device.now).disk) c.advance.new.finder c.loop.cursor c.advance.new.self
    c.place.result (rw stayed at c.place.ensures.place)
    (subst (HasLed c.args.log.now (limit_of c.args.log.now c.args.home_blocks) (reading (g.D.Device.state c.args.device.now).disk) c.advance.new.finder c.loop.cursor c.advance.new.self) c.in-Malformed.is
    (led-there c.args.log.now (limit_of c.args.log.now c.args.home_blocks) (g.D.Device.state c.args.device.now) (g.D.Device.state c.loop.device) c.advance.new.finder c.loop.cursor
    c.advance.new.self c.in_ok-advance.field-0 before.device.stays (before.passed (c.advance.ensures.device.honest h)) (c.in_ok-advance.ensures.leads h))))

-- nothing more stands there
pub returns-in-Nothing-clause-ends : goal.returns-in-Nothing-clause-ends
returns-in-Nothing-clause-ends g c = λ h.
    let before = c.loop.invariant in
    rw (rw c.in-Nothing.is at c.in_ok-advance.ensures.behind)
    (led-end c.args.log.now (limit_of c.args.log.now c.args.home_blocks) (reading (g.D.Device.state c.args.device.now).disk) c.advance.new.finder c.loop.cursor c.advance.new.self
    (subst (HasLed c.args.log.now (limit_of c.args.log.now c.args.home_blocks) (reading (g.D.Device.state c.args.device.now).disk) c.advance.new.finder c.loop.cursor c.advance.new.self) c.in-Nothing.is
    (led-there c.args.log.now (limit_of c.args.log.now c.args.home_blocks) (g.D.Device.state c.args.device.now) (g.D.Device.state c.loop.device) c.advance.new.finder c.loop.cursor
    c.advance.new.self c.in_ok-advance.field-0 before.device.stays (before.passed (c.advance.ensures.device.honest h)) (c.in_ok-advance.ensures.leads h))))
