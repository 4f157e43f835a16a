use Rattle.std.proofs.Common.{arith, rules, subst, ℕ}
use Rattle.std.proofs.lemmas.Result.{err_from_is_err_and}
use Rattle.byte_volume.specs.Refusals.BlocksRefused.{OfAsk, OfHandle}
use Rattle.byte_volume.specs.Writing.{TrimsBlocks}
use Rattle.byte_volume.proofs.Refusals.{some_asked, some_blocks}
use Rattle.byte_volume.proofs.Revokes.{more_blocks, no_block, one_left_out, some_blocks_of}
use Rattle.byte_volume.proofs.TicketLists.{any_err, none_noted, noted_added, noted_maybe}
use Rattle.byte_volume.proofs.trimming.trim_blocks.Goals as goal

-- nothing is trimmed
pub loop-done-init : goal.loop-done-init
loop-done-init g c = record {
  within = omega arith;
  kept = omega arith;
  taken = λ first. first;
  trimmed = no_block g.D.Device.state g.D.Device.honest g.J.JournalName.name c.args.first c.args.tickets.now.items c.requires.empty;
  noted = none_noted c.args.stopped.now c.args.tickets.now.items c.requires.empty;
}

-- one more handle
pub loop-done-preserved : goal.loop-done-preserved
loop-done-preserved g c = record {
  within = search rules;
  kept = search rules;
  taken = λ first. c.revoke_once.ensures.taken (c.loop-done.invariant.taken first);
  trimmed = more_blocks g.D.Device.state g.D.Device.honest g.J.JournalName.name c.args.first c.loop-done.done _ c.revoke_once.new.stopped c.loop-done.tickets.items
      c.revoke_once.new.tickets.items c.loop-done.invariant.trimmed c.in_ok-revoke_once.ensures.steps;
  noted = noted_added _ c.loop-done.stopped c.revoke_once.new.stopped c.loop-done.tickets.items c.revoke_once.new.tickets.items c.revoke_once.ensures.kept
      c.loop-done.invariant.noted c.in_ok-revoke_once.ensures.steps;
}

-- one block more is left out
pub loop-done-preserved-then-kept-eq0 : goal.loop-done-preserved-then-kept-eq0
loop-done-preserved-then-kept-eq0 g c = record {
  within = omega (arith, c.loop-done-test.true);
  kept = c.loop-done.invariant.kept;
  taken = c.loop-done.invariant.taken;
  trimmed = one_left_out g.D.Device.state g.D.Device.honest g.J.JournalName.name c.args.first c.loop-done.done c.loop-done.tickets.items c.loop-done.invariant.trimmed
      (c.in_ok-kept.ensures.none c.if-kept-eq0.true);
  noted = c.loop-done.invariant.noted;
}

-- it was not told of a block
pub returns-in_err-kept-clause-err : goal.returns-in_err-kept-clause-err
returns-in_err-kept-clause-err g c =
    let p = err_from_is_err_and c.from_residual.result c.from_residual.ensures.1 in
    rw (p.1, p.2) (OfAsk (some_asked c.args.first c.args.blocks c.loop-done.done _ _ (search rules) c.in_err-kept.ensures.err))

pub returns-in_err-kept-clause-left : goal.returns-in_err-kept-clause-left
returns-in_err-kept-clause-left g c =
    any_err c.from_residual.result (record { count = c.loop-done.done; few = c.loop-done.invariant.within; trimmed = c.loop-done.invariant.trimmed })

pub returns-in_err-kept-clause-taken : goal.returns-in_err-kept-clause-taken
returns-in_err-kept-clause-taken g c = c.loop-done.invariant.taken

-- one handle was refused
pub returns-in_err-revoke_once-clause-err : goal.returns-in_err-revoke_once-clause-err
returns-in_err-revoke_once-clause-err g c =
    let p = err_from_is_err_and c.from_residual-in_err-revoke_once.result c.from_residual-in_err-revoke_once.ensures.1 in
    rw (p.1, p.2) (OfHandle (some_blocks _ c.args.first c.args.blocks c.loop-done.done _ _ c.requires.fits (search rules) (search rules) c.in_err-revoke_once.ensures.err))

pub returns-in_err-revoke_once-clause-left : goal.returns-in_err-revoke_once-clause-left
returns-in_err-revoke_once-clause-left g c =
    any_err c.from_residual-in_err-revoke_once.result
    (some_blocks_of g.D.Device.state g.D.Device.honest g.J.JournalName.name c.args.first c.args.blocks c.loop-done.done c.in_ok-kept.kept c.revoke_once.new.stopped
    c.loop-done.tickets.items c.revoke_once.new.tickets.items (search rules) c.loop-done.invariant.trimmed c.in_err-revoke_once.ensures.left)

pub returns-in_err-revoke_once-clause-noted : goal.returns-in_err-revoke_once-clause-noted
returns-in_err-revoke_once-clause-noted g c =
    noted_maybe _ c.loop-done.stopped c.revoke_once.new.stopped c.loop-done.tickets.items c.revoke_once.new.tickets.items c.revoke_once.ensures.kept
    c.loop-done.invariant.noted c.in_err-revoke_once.ensures.left

-- the handles so far are of such transactions
pub returns-in_err-revoke_once-clause-taken : goal.returns-in_err-revoke_once-clause-taken
returns-in_err-revoke_once-clause-taken g c = λ first. c.revoke_once.ensures.taken (c.loop-done.invariant.taken first)

pub returns-clause-taken : goal.returns-clause-taken
returns-clause-taken g c = c.loop-done.invariant.taken

-- all is trimmed
pub returns-clause-blocks : goal.returns-clause-blocks
returns-clause-blocks g c = λ _.
    subst (λ (n : ℕ). TrimsBlocks g.D.Device.state g.D.Device.honest g.J.JournalName.name c.args.first c.loop-done.tickets.items n)
    (omega (arith, c.loop-done.invariant.within, c.loop-done-test.false)) c.loop-done.invariant.trimmed
