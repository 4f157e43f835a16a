use Rattle.std.proofs.Common.{arith, ◌+◌}
use Rattle.std.proofs.lemmas.Result.{err_from_is_err_and}
use Rattle.shared_journal.proofs.Moments.{any-moment}
use Rattle.byte_volume.proofs.Revokes.{kept_none}
use Rattle.byte_volume.proofs.trimming.count_kept.Goals as goal

-- a block keeps no copy
pub returns-then-not-branch-clause-none : goal.returns-then-not-branch-clause-none
returns-then-not-branch-clause-none g c = λ zero.
    kept_none g.D.Device.state g.D.Device.honest g.J.JournalName.name c.args.first c.loop-k.k _ c.in_ok-keeps_copy.ensures.ok c.if-not-branch.true zero

-- it was not told of a block
pub returns-in_err-keeps_copy-clause-err : goal.returns-in_err-keeps_copy-clause-err
returns-in_err-keeps_copy-clause-err g c =
    let p = err_from_is_err_and c.from_residual.result c.from_residual.ensures.1 in
    rw (p.1, p.2) (record {
      b = c.args.first + c.loop-k.k;
      its = (omega arith, omega (arith, c.loop-k-test.true));
      refused = any-moment g.D.Device.state g.D.Device.honest g.J.JournalName.name _ c.in_err-keeps_copy.ensures.why;
    })
