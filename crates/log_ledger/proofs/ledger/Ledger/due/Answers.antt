use Rattle.std.proofs.Common.{arith, sym, ap, ◌∙◌, ℕ, List}
use Rattle.log_model.specs.Superblock.{with_tail}
use Rattle.log_ledger.specs.Ledger.{engine_of}
use Rattle.log_ledger.proofs.Ledgers.{call-block, call-commit, call-superblock, on-next, on-some, on-superblock}
use Rattle.log_ledger.proofs.ledger.Ledger.due.Goals as goal

-- the blocks that are due are not many
pub overflow_add-k : goal.overflow_add-k
overflow_add-k c =
    let next = on-next c.args.self.now _ c.requires.can_run c.in-Blocks.k c.in-Blocks.is in
    omega arith

-- some block is due
pub overflow_sub-blocks_due : goal.overflow_sub-blocks_due
overflow_sub-blocks_due c =
    let on = c.requires.can_run in
    let some = on-some c.args.self.now _ on on.shape (λ idle. cc) in
    let blocks = c.blocks_due-in-CommitWrite.ensures on.shape (sym on.size_is ∙ sym (on-superblock c.args.self.now _ on)) in
    omega arith

-- the commit block is the last of them
pub due_block-requires-in-CommitWrite-clause-there :
    goal.due_block-requires-in-CommitWrite-clause-there
due_block-requires-in-CommitWrite-clause-there c = λ shape same.
    let on = c.requires.can_run in
    let some = on-some c.args.self.now _ on shape (λ idle. cc) in
    let blocks = c.blocks_due-in-CommitWrite.ensures shape (same ∙ sym (on-superblock c.args.self.now _ on)) in
    omega arith

-- the superblock is written to block 0
pub returns-in-SuperblockWrite-clause-due : goal.returns-in-SuperblockWrite-clause-due
returns-in-SuperblockWrite-clause-due c = λ shape same.
    call-superblock (engine_of shape c.args.self.now) _ _ _ c.in-SuperblockWrite.is
    (c.write_superblock.ensures.block ∙ ap (λ (sb : List ℕ). with_tail sb c.number_due-number.result c.place-start.result) c.deref.ensures.value)
    c.number_due-number.ensures c.place-start.ensures.place

-- another block of the transaction is due
pub returns-in-Blocks-clause-due : goal.returns-in-Blocks-clause-due
returns-in-Blocks-clause-due c = λ shape same.
    let on = c.requires.can_run in
    let blocks = c.blocks_due.ensures shape (same ∙ sym (on-superblock c.args.self.now _ on)) in
    c.due_block.ensures.due shape same ∙ call-block (engine_of shape c.args.self.now) _ c.in-Blocks.is (omega arith)

-- the commit block is due
pub returns-in-CommitWrite-clause-due : goal.returns-in-CommitWrite-clause-due
returns-in-CommitWrite-clause-due c = λ shape same.
    let on = c.requires.can_run in
    let blocks = c.blocks_due-in-CommitWrite.ensures shape (same ∙ sym (on-superblock c.args.self.now _ on)) in
    c.due_block-in-CommitWrite.ensures.due shape same ∙ call-commit (engine_of shape c.args.self.now) _ c.in-CommitWrite.is blocks
