use Rattle.std.proofs.Common.{Bool, refl, rules, sym, ap, ◌∙◌}
use Rattle.std.proofs.lemmas.Bool.{true≢false}
use Rattle.journal_world.specs.Journal.{Journal}
use Rattle.block_device.proofs.OneCall.{call-as, no-call}
use Rattle.journal_steps.specs.Direct.{DirectWriteRefused, MayWriteDirectly}
use Rattle.journal_front.specs.Front.{MayTouch}
use Rattle.journal_steps.proofs.Directs.{agrees-direct, agrees-unwritten, during-unwritten, each-direct, refused-direct, right-from, right-gives}
use Rattle.journal_steps.proofs.Turning.{opens-now}
use Rattle.journal_steps.proofs.steps.write_direct.Goals as goal

-- if no call is made, what holds now holds at the one moment
pub returns-then-is_aborted-clause-writes : goal.returns-then-is_aborted-clause-writes
returns-then-is_aborted-clause-writes g c = record {
  right = tt;
  ok = tt;
  err = DirectWriteRefused.WriteAborted (sym c.is_aborted.ensures ∙ c.if-is_aborted.true) refl;
  no_fault = tt;
  device = no-call (λ honest. during-unwritten _ _ _ _ (opens-now _ _ c.requires.agrees (c.recall_invariant.ensures.opens honest)));
}

pub returns-then-not-may_touch-clause-writes : goal.returns-then-not-may_touch-clause-writes
returns-then-not-may_touch-clause-writes g c =
    let running = sym c.is_aborted.ensures ∙ c.if-is_aborted.false in
    let no = λ (may : MayTouch c.args.front.now c.args.block). true≢false (sym (c.may_touch.ensures.1 may) ∙ c.if-not-may_touch.true) in
    record {
      right = tt;
      ok = tt;
      err = DirectWriteRefused.WriteOutside running no refl;
      no_fault = tt;
      device = no-call (λ honest. during-unwritten _ _ _ _ (opens-now _ _ c.requires.agrees (c.recall_invariant.ensures.opens honest)));
    }

pub returns-then-not-is_untouched-clause-writes : goal.returns-then-not-is_untouched-clause-writes
returns-then-not-is_untouched-clause-writes g c =
    let j : Journal = record { front = c.args.front.now; engine = c.args.engine.now.engine } in
    let running = sym c.is_aborted.ensures ∙ c.if-is_aborted.false in
    let may = c.may_touch.ensures.0 c.if-not-may_touch.false in
    let no = λ (right : MayWriteDirectly j c.args.block).
    true≢false (sym (c.is_untouched.ensures.1 (right-gives j c.requires.agrees c.recall_invariant.ensures.plain c.args.block right).0) ∙ c.if-not-is_untouched.true) in
    record {
      right = tt;
      ok = tt;
      err = DirectWriteRefused.WriteNotDirect running may no refl;
      no_fault = tt;
      device = no-call (λ honest. during-unwritten _ _ _ _ (opens-now _ _ c.requires.agrees (c.recall_invariant.ensures.opens honest)));
    }

pub returns-in-Ok-clause-agrees : goal.returns-in-Ok-clause-agrees
returns-in-Ok-clause-agrees g c = agrees-direct _ _ _ _ _ _ c.requires.agrees c.in-Ok.ensures.ok

-- once the engine notifies the front, they agree
pub returns-in-Err-clause-agrees : goal.returns-in-Err-clause-agrees
returns-in-Err-clause-agrees g c =
    let f = c.args.front.now in
    let told = c.learn.ensures ∙ ap (λ (aborted : Bool). record f { aborted = aborted }) c.is_aborted-in-Err.ensures in
    agrees-unwritten g.D.Device.state f _ _ _ _ _ _ c.requires.agrees told c.in-Err.ensures.err

pub returns-in-Ok-clause-writes : goal.returns-in-Ok-clause-writes
returns-in-Ok-clause-writes g c =
    let j : Journal = record { front = c.args.front.now; engine = c.args.engine.now.engine } in
    record {
      right = right-from j c.requires.agrees c.recall_invariant.ensures.plain c.args.block (c.is_untouched.ensures.0 c.if-not-is_untouched.false) c.in-Ok.ensures.may.2;
      ok = search rules;
      err = tt;
      no_fault = c.in-Ok.ensures.no_fault;
      device = call-as (each-direct _ _ _ _ _ c.requires.agrees) c.write_direct.ensures.device;
    }

pub returns-in-Err-clause-writes : goal.returns-in-Err-clause-writes
returns-in-Err-clause-writes g c =
    let f = c.args.front.now in
    let running = sym c.is_aborted.ensures ∙ c.if-is_aborted.false in
    let told = c.learn.ensures ∙ ap (λ (aborted : Bool). record f { aborted = aborted }) c.is_aborted-in-Err.ensures in
    record {
      right = tt;
      ok = tt;
      err =
          refused-direct g.D.Device.state f _ _ _ _ _ _ c.requires.agrees c.recall_invariant.ensures.plain running (c.may_touch.ensures.0 c.if-not-may_touch.false)
          (c.is_untouched.ensures.0 c.if-not-is_untouched.false) told c.in-Err.ensures.err;
      no_fault = tt;
      device = call-as (each-direct _ _ _ _ _ c.requires.agrees) c.write_direct.ensures.device;
    }
