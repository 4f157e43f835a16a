use Rattle.std.proofs.Common.{arith}
use Rattle.log_ledger.proofs.Ledgers.{on-next}
use Rattle.log_ledger.proofs.ledger.Ledger.commit_flush.Goals as goal

-- the blocks that are due are not many
pub overflow_add-k : goal.overflow_add-k
overflow_add-k c =
    let next = on-next c.args.self.now _ c.requires.can_run c.in-Blocks.k c.in-Blocks.is in
    omega arith
