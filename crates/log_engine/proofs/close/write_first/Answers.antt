use Rattle.journal_model.specs.declared.number.Area.TheVariants.{Log}
use Rattle.log_engine.proofs.Calls.{fault-write, on-err}
use Rattle.log_engine.proofs.Closing.{flush-lost, flush-moments, write-moments}
use Rattle.log_engine.proofs.close.write_first.Goals as goal

pub returns-in_err-write-clause-err : goal.returns-in_err-write-clause-err
returns-in_err-write-clause-err g c = on-err c.from_residual.result (fault-write Log 0 c.args.block.now _ _ c.write.ensures.writes)

pub returns-in_err-write-clause-moments : goal.returns-in_err-write-clause-moments
returns-in_err-write-clause-moments g c = write-moments c.args.block.now _ _ c.write.ensures.writes

pub returns-clause-err : goal.returns-clause-err
returns-clause-err g c = flush-lost c.flush.result c.args.block.now _ _ _ c.in_ok-write.ensures.ok c.flush.ensures.err

pub returns-clause-moments : goal.returns-clause-moments
returns-clause-moments g c =
    flush-moments c.flush.result c.args.block.now _ _ _ c.in_ok-write.ensures.ok (write-moments c.args.block.now _ _ c.write.ensures.writes)
    c.flush.ensures.ok c.flush.ensures.err
