use Rattle.std.proofs.Common.{◌+◌, ◌∙◌, ap, arith}
use Rattle.std.proofs.lemmas.Grind.{common_steps}
use Rattle.std.proofs.lemmas.Result.{err_from_is_err_and}
use Rattle.locked_journal.specs.Known.{HandleKnown}
use Rattle.byte_volume.proofs.Blocks.{refused_by_journal}
use Rattle.byte_volume.proofs.Refusals.{credits_left}
use Rattle.byte_volume.proofs.TicketLists.{any_err}
use Rattle.byte_volume.proofs.WholeBlocks.{length-block}
use Rattle.byte_volume.proofs.writing.fill.Goals as goal

-- one more block is written
pub loop-k-preserved : goal.loop-k-preserved
loop-k-preserved g c = record {
  number = grind (arith, common_steps);
  tid = grind (arith, common_steps);
  steps = grind (arith, common_steps);
  left = omega (arith, c.loop-k.invariant.left, credits_left _ _ c.in_ok-write.ensures.ok);
}

-- a write was refused
pub returns-in_err-write-clause-err : goal.returns-in_err-write-clause-err
returns-in_err-write-clause-err g c =
    let p = err_from_is_err_and c.from_residual.result c.from_residual.ensures.1 in
    rw (p.1, p.2) (record {
      handle = c.loop-k.handle.handle;
      b = c.args.first + c.loop-k.k;
      its = (omega arith, omega (arith, c.loop-k-test.true));
      credit = omega (arith, c.loop-k-test.true, c.loop-k.invariant.left);
      refused = refused_by_journal _ _ _ (length-block c.args.size c.loop-k.k c.args.bytes.now c.loop-k-test.true ∙ c.requires.block) c.in_err-write.ensures.why;
    })

pub returns-in_err-write-clause-left : goal.returns-in_err-write-clause-left
returns-in_err-write-clause-left g c =
    any_err c.from_residual.result (record {
      count = c.loop-k.k;
      few = omega (arith, c.loop-k-test.true);
      added = ap (λ (h : HandleKnown). h.steps) c.in_err-write.ensures.err.1 ∙ c.loop-k.invariant.steps;
    })
