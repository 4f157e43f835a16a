use Rattle.std.proofs.Common.{[], refl, subst, sym, ap, ◌∙◌, arith, inl, inr}
use Rattle.std.specs.Prelude.{◌≡◌, ◌⊎◌, ℕ, ◌+◌, ◌-◌, take}
use Rattle.journal_model.specs.Disk.{Disk, reading}
use Rattle.log_model.specs.Chain.{place_from}
use Rattle.log_model.specs.Escape.{unescaped}
use Rattle.log_model.specs.Opening.{ring_of}
use Rattle.block_device.proofs.OneCall.{no-read, reads-on}
use Rattle.log_scan.specs.declared.cursor.Cursor.{Cursor}
use Rattle.log_scan.specs.declared.finding.Found.{Found}
use Rattle.log_scan.specs.declared.finding.Found.TheVariants.{CommitBlock, Descriptor, RevokeBlock}
use Rattle.log_scan.specs.Finding.{every_block, log_block}
use Rattle.log_scan.specs.Passing.{cursor_behind}
use Rattle.log_scan.proofs.ScanSteps.{GoesOn, HasLed, goes-on, led-there, passed-none}
use Rattle.log_views.proofs.copies.find_copy.Goals as goal

pub loop-cursor-init : goal.loop-cursor-init
loop-cursor-init g c = rw c.new-cursor.ensures (record {
  within = omega arith;
  few = omega arith;
  layout = refl;
  device = no-read;
  passed = λ h. record {
    texts = [];
    pieces = [];
    passed = passed-none c.args.log.now (every_block c.args.log.now) (reading (g.D.Device.state c.args.device.now).disk);
  };
})

-- a revoke block or a commit block goes on
either : (found : Found) → ((n : ℕ) × (found ≡ RevokeBlock n)) ⊎ (found ≡ CommitBlock) → GoesOn found
either found (inl is) = inl is
either found (inr is) = inr (inr is)

pub loop-cursor-preserved-in-RevokeBlock : goal.loop-cursor-preserved-in-RevokeBlock
loop-cursor-preserved-in-RevokeBlock g c = let before = c.loop-cursor.invariant in record {
  within = c.advance.ensures.within;
  few = c.advance.ensures.few;
  layout = c.advance.ensures.layout ∙ before.layout;
  device = reads-on before.device c.advance.ensures.device;
  passed =
      λ h. goes-on c.args.log.now (every_block c.args.log.now) (reading (g.D.Device.state c.args.device.now).disk) c.advance.new.finder c.loop-cursor.cursor c.advance.new.self
      c.in_ok-advance.field-0 (either c.in_ok-advance.field-0 c.in-RevokeBlock.is)
      (led-there c.args.log.now (every_block c.args.log.now) (g.D.Device.state c.args.device.now) (g.D.Device.state c.loop-cursor.device) c.advance.new.finder c.loop-cursor.cursor
      c.advance.new.self c.in_ok-advance.field-0 before.device.stays (before.passed (c.advance.ensures.device.honest h)) (c.in_ok-advance.ensures.leads h));
}

pub loop-cursor-preserved : goal.loop-cursor-preserved
loop-cursor-preserved g c = let before = c.loop-cursor.invariant in record {
  within = c.advance.ensures.within;
  few = c.advance.ensures.few;
  layout = c.advance.ensures.layout ∙ before.layout;
  device = reads-on before.device c.advance.ensures.device;
  passed =
      λ h. goes-on c.args.log.now (every_block c.args.log.now) (reading (g.D.Device.state c.args.device.now).disk) c.advance.new.finder c.loop-cursor.cursor c.advance.new.self
      c.in_ok-advance.field-0 (inr (inl (c.in-Descriptor.count, c.in-Descriptor.is)))
      (led-there c.args.log.now (every_block c.args.log.now) (g.D.Device.state c.args.device.now) (g.D.Device.state c.loop-cursor.device) c.advance.new.finder c.loop-cursor.cursor
      c.advance.new.self c.in_ok-advance.field-0 before.device.stays (before.passed (c.advance.ensures.device.honest h)) (c.in_ok-advance.ensures.leads h));
}

pub returns-in-Some-clause-found : goal.returns-in-Some-clause-found
returns-in-Some-clause-found g c = λ it h ends.
    let before = c.loop-cursor.invariant in
    let log = c.args.log.now in
    let old = g.D.Device.state c.args.device.now in
    let count = c.in-Descriptor.count in
    let trust = c.read_copy.ensures.device.honest h in
    let led = subst (HasLed log (every_block log) (reading old.disk) c.advance.new.finder c.loop-cursor.cursor c.advance.new.self) c.in-Descriptor.is
    (led-there log (every_block log) old (g.D.Device.state c.loop-cursor.device) c.advance.new.finder c.loop-cursor.cursor
    c.advance.new.self c.in_ok-advance.field-0 before.device.stays (before.passed (c.advance.ensures.device.honest trust)) (c.in_ok-advance.ensures.leads trust)) in
    let stays = (reads-on before.device c.advance.ensures.device).stays in
    let behind : c.advance.new.self.position ≡ c.loop-cursor.cursor.position + (1 + count) =
    ap (λ (x : Cursor). x.position) (subst (λ (found : Found). c.advance.new.self ≡ cursor_behind c.loop-cursor.cursor found) c.in-Descriptor.is c.in_ok-advance.ensures.behind) in
    let from = c.in-Some.ensures.0 in
    let first : ℕ = c.advance.new.self.position - count in
    let k : ℕ = c.in-Some.position - first in
    let place : c.in-Some.position ≡ c.loop-cursor.cursor.position + 1 + k = omega arith in
    let due = led.count in
    let more = c.loop-cursor-test.true in
    record {
      end = c.args.end;
      ends = ends;
      texts = led.texts;
      complete = omega arith;
      pieces = led.pieces;
      tags = take count c.advance.new.finder.tags;
      position = c.loop-cursor.cursor.position;
      count = count;
      cursor = c.advance.new.self;
      passed = led.leads;
      k = k;
      tag = c.tag_of-escaped.result;
      tag_is = c.tag_of-escaped.ensures;
      place_is = subst (λ (p : ℕ). c.args.place ≡ place_from (ring_of log) log.s_start p) place c.in-Some.ensures.2;
      bytes_are =
          subst (λ (p : ℕ). c.read_copy.new.self.block ≡ unescaped c.tag_of-escaped.result.escaped (log_block (reading old.disk) p)) (sym c.in-Some.ensures.2)
          (subst (λ (d : Disk). c.read_copy.new.self.block ≡ unescaped c.tag_of-escaped.result.escaped (log_block (reading d) (place_from (ring_of log) log.s_start c.in-Some.position))) stays.disk
          (c.in_ok-read_copy-in-Descriptor.ensures.copy h));
    }
