use Rattle.std.proofs.Common.{ap, sym, ◌∙◌}
use Rattle.journal_model.specs.Disk.{Shape}
use Rattle.journal_world.specs.Journal.{Journal}
use Rattle.journal_steps.specs.Values.{together}
use Rattle.journal_steps.proofs.Newest.{hands-copy, reads-newest, refused-newest}
use Rattle.journal_steps.proofs.Reading.{kept-whole}
use Rattle.journal_steps.proofs.Rounding.{agrees-read_refused}
use Rattle.journal_steps.proofs.Sealing.{allowed-here}
use Rattle.journal_steps.proofs.Turning.{opens-now}
use Rattle.journal_steps.proofs.Verbs.{left-newest}
use Rattle.journal_steps.proofs.steps.read_newest.Goals as goal

-- a copy that the front keeps fills the buffer
pub hand_out-requires : goal.hand_out-requires
hand_out-requires g c v last =
    let j : Journal = record { front = c.args.front.now; engine = c.args.engine.now.engine } in
    c.requires.length ∙ ap (λ (s : Shape). s.block_size) (sym c.recall_invariant.ensures.shape)
    ∙ sym (kept-whole j c.args.block v c.requires.agrees c.recall_invariant.ensures.plain last)

pub returns-then-branch-clause-reads : goal.returns-then-branch-clause-reads
returns-then-branch-clause-reads g c =
    let last = rw c.if-branch.true at c.in_ok-hand_out.ensures.ok in
    let running = sym c.is_aborted.ensures ∙ c.if-is_aborted.false in
    let may = c.may_touch.ensures.0 c.if-not-may_touch.false in
    record {
      ok =
          hands-copy g.D.Device.state g.D.Device.honest c.args.front.now c.args.engine.now c.args.block c.requires.agrees c.recall_invariant.ensures.plain running may
          c.hand_out.new.into last;
      err = tt;
      untouched = tt;
      same_length = c.hand_out.ensures.length;
    }

-- once the front is notified of the failed read, they agree
pub returns-in-Err-clause-agrees : goal.returns-in-Err-clause-agrees
returns-in-Err-clause-agrees g c =
    let running = sym c.requires.agrees.aborted ∙ sym c.is_aborted.ensures ∙ c.if-is_aborted.false in
    let may = c.may_touch.ensures.0 c.if-not-may_touch.false in
    let allowed = allowed-here c.requires.agrees.layout c.requires.agrees.home_blocks may in
    agrees-read_refused g.D.Device.state c.args.front.now c.abort.new.self c.args.engine.now c.read.new.self c.args.block c.in-Err.e c.requires.agrees running allowed
    c.abort.ensures c.in-Err.ensures.err

pub returns-in-Err-clause-reads : goal.returns-in-Err-clause-reads
returns-in-Err-clause-reads g c =
    let held = rw c.if-branch.false at c.in_ok-hand_out.ensures.ok in
    let running = sym c.is_aborted.ensures ∙ c.if-is_aborted.false in
    let may = c.may_touch.ensures.0 c.if-not-may_touch.false in
    record {
      ok = tt;
      err =
          refused-newest g.D.Device.state g.D.Device.honest c.args.front.now c.args.engine.now c.args.block c.requires.agrees c.recall_invariant.ensures.plain running may
          c.abort.new.self c.read.new.self c.in-Err.e held.0 c.read.ensures.device.stays c.abort.ensures c.in-Err.ensures.err;
      untouched = λ other. c.in-Err.ensures.untouched other ∙ held.1;
      same_length = c.read.ensures.length ∙ c.hand_out.ensures.length;
    }

pub returns-in-Err-clause-left : goal.returns-in-Err-clause-left
returns-in-Err-clause-left g c =
    left-newest g.D.Device.state g.D.Device.honest (together c.args.front.now c.args.engine.now) (together c.abort.new.self c.read.new.self) _
    (λ honest. opens-now _ _ c.requires.agrees (c.recall_invariant.ensures.opens honest)) c.read.ensures.device c.read.ensures.calls tt c.args.block
    c.args.into.now c.read.new.into (returns-in-Err-clause-reads g c)

pub returns-clause-reads : goal.returns-clause-reads
returns-clause-reads g c =
    let held = rw c.if-branch.false at c.in_ok-hand_out.ensures.ok in
    let running = sym c.is_aborted.ensures ∙ c.if-is_aborted.false in
    let may = c.may_touch.ensures.0 c.if-not-may_touch.false in
    record {
      ok =
          reads-newest g.D.Device.state g.D.Device.honest c.args.front.now c.args.engine.now c.args.block c.requires.agrees c.recall_invariant.ensures.plain running may
          c.read.new.self c.read.new.into held.0 c.in_default.ensures.ok.0 c.in_default.ensures.ok.1 c.in_default.ensures.pending;
      err = tt;
      untouched = tt;
      same_length = c.read.ensures.length ∙ c.hand_out.ensures.length;
    }

pub returns-clause-left : goal.returns-clause-left
returns-clause-left g c =
    left-newest g.D.Device.state g.D.Device.honest (together c.args.front.now c.args.engine.now) (together c.args.front.now c.read.new.self) _
    (λ honest. opens-now _ _ c.requires.agrees (c.recall_invariant.ensures.opens honest)) c.read.ensures.device c.read.ensures.calls c.in_default.ensures.no_fault
    c.args.block c.args.into.now c.read.new.into (returns-clause-reads g c)
