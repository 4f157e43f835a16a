use Rattle.std.proofs.Common.{arith, sym, ◌∙◌}
use Rattle.log_ledger.proofs.Ledgers.{on-few, on-layout, on-small, on-spelled, on-taken, on-unreleased, on-whole}
use Rattle.log_ledger.proofs.Running.{runs-ring}
use Rattle.log_ledger.proofs.ledger.Ledger.due_block.Goals as goal

-- the batch is not released
pub batch_due-requires-clause-unreleased : goal.batch_due-requires-clause-unreleased
batch_due-requires-clause-unreleased c = on-unreleased c.args.self.now _ c.requires.can_run

-- the layout is an allowed one
pub write_block-requires-clause-taken : goal.write_block-requires-clause-taken
write_block-requires-clause-taken c = on-taken c.args.self.now _ c.requires.can_run

-- its blocks have the writer's size
pub write_block-requires-clause-size : goal.write_block-requires-clause-size
write_block-requires-clause-size c = on-layout c.args.self.now _ c.requires.can_run

-- the plan is that of the batch
pub write_block-requires-clause-plan : goal.write_block-requires-clause-plan
write_block-requires-clause-plan c = c.requires.plan c.requires.can_run.shape _ c.batch_due.ensures

-- its copies are blocks
pub write_block-requires-clause-whole : goal.write_block-requires-clause-whole
write_block-requires-clause-whole c = on-whole c.args.self.now _ c.requires.can_run _ c.batch_due.ensures

-- a tag can spell its blocks
pub write_block-requires-clause-spelled : goal.write_block-requires-clause-spelled
write_block-requires-clause-spelled c = on-spelled c.args.self.now _ c.requires.can_run _ c.batch_due.ensures

-- a batch that fits the ring has few entries
pub write_block-requires-clause-few : goal.write_block-requires-clause-few
write_block-requires-clause-few c = on-few c.args.self.now _ c.requires.can_run _ c.batch_due.ensures

-- its positions are far below 2 ^ 64
pub overflow_add-self : goal.overflow_add-self
overflow_add-self c =
    let on = c.requires.can_run in
    let there = c.requires.there on.shape (sym on.size_is) in
    let small = on-small c.args.self.now _ on on.shape (sym on.size_is) in
    omega arith

-- the block goes to a place of the ring
pub returns-clause-fits : goal.returns-clause-fits
returns-clause-fits c = λ shape can same.
    let within = (runs-ring _ can).within in
    let high = c.place.ensures.high in
    (omega arith, c.write_block.ensures.size ∙ sym same)
