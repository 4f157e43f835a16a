use Rattle.log_ledger.proofs.text.TextWriter.put.Goals as goal

-- the block is what was put there
pub returns-clause-block : goal.returns-clause-block
returns-clause-block c = c.copy_from_slice.ensures.items
