use Rattle.log_ledger.proofs.ledger.Ledger.new_tail.Goals as goal

-- it is the place of the position after them
pub returns : goal.returns
returns c = c.place.ensures.place
