use Rattle.std.proofs.Common.{◌∙◌, ◌+◌, ap, arith}
use Rattle.std.proofs.lemmas.Result.{err_from_is_err_and}
use Rattle.locked_journal.specs.Known.{HandleKnown}
use Rattle.byte_volume.proofs.Refusals.{credits_left}
use Rattle.byte_volume.proofs.Revokes.{one_more, same_number, same_tid}
use Rattle.byte_volume.proofs.TicketLists.{any_err}
use Rattle.byte_volume.proofs.trimming.revoke_all.Goals as goal

-- one more block is revoked
pub loop-k-preserved : goal.loop-k-preserved
loop-k-preserved g c = record {
  number = same_number _ _ c.in_ok-revoke.ensures.ok ∙ c.loop-k.invariant.number;
  tid = same_tid _ _ c.in_ok-revoke.ensures.ok ∙ c.loop-k.invariant.tid;
  steps = one_more c.args.first c.args.handle.now.handle.number c.loop-k.handle.handle.number c.loop-k.k c.args.handle.now.steps c.loop-k.handle.steps
      c.revoke.new.handle.steps c.loop-k.invariant.number c.loop-k.invariant.steps c.in_ok-revoke.ensures.steps;
  left = omega (arith, c.loop-k.invariant.left, credits_left _ _ c.in_ok-revoke.ensures.ok);
}

-- a revoke was refused
pub returns-in_err-revoke-clause-err : goal.returns-in_err-revoke-clause-err
returns-in_err-revoke-clause-err g c =
    let p = err_from_is_err_and c.from_residual.result c.from_residual.ensures.1 in
    rw (p.1, p.2) (record {
      handle = c.loop-k.handle.handle;
      b = c.args.first + c.loop-k.k;
      its = (omega arith, omega (arith, c.loop-k-test.true));
      credit = omega (arith, c.loop-k-test.true, c.loop-k.invariant.left);
      refused = c.in_err-revoke.ensures.why;
    })

pub returns-in_err-revoke-clause-left : goal.returns-in_err-revoke-clause-left
returns-in_err-revoke-clause-left g c =
    any_err c.from_residual.result (record {
      count = c.loop-k.k;
      few = omega (arith, c.loop-k-test.true);
      added = ap (λ (h : HandleKnown). h.steps) c.in_err-revoke.ensures.err.1 ∙ c.loop-k.invariant.steps;
    })
