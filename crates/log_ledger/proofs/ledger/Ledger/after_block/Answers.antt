use Rattle.std.proofs.Common.{arith}
use Rattle.log_ledger.proofs.Ledgers.{last-block, on-next}
use Rattle.log_ledger.proofs.ledger.Ledger.after_block.Goals as goal

-- the blocks that are due are not many
pub overflow_add-k : goal.overflow_add-k
overflow_add-k c =
    let next = on-next c.args.self.now _ c.requires.can_run c.args.k c.requires.stage in
    omega arith

-- after the last but one all are flushed, and then the commit block is written
pub returns-else-k-blocks_due : goal.returns-else-k-blocks_due
returns-else-k-blocks_due c = λ shape same.
    let blocks = c.blocks_due.ensures shape same in
    last-block c.args.k _ (omega arith)
