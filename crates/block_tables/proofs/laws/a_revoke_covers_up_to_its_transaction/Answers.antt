use Rattle.block_tables.proofs.Noting.{note-covers}
use Rattle.block_tables.proofs.laws.a_revoke_covers_up_to_its_transaction.Goals as goal

pub returns : goal.returns
returns c = note-covers
