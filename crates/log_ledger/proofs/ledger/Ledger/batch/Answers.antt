use Rattle.log_ledger.proofs.Ledgers.{kept-stands, kept-within}
use Rattle.log_ledger.proofs.ledger.Ledger.batch.Goals as goal

-- it is one of those kept
pub index-requires : goal.index-requires
index-requires c = kept-within c.args.self.now c.args.place c.requires.kept c.requires.unreleased c.requires.there

-- it is as it was handed over
pub returns : goal.returns
returns c = kept-stands c.args.self.now c.args.place c.index.result.now c.requires.kept c.requires.unreleased c.index.ensures
