use Rattle.std.proofs.Common.{sym, ◌∙◌}
use Rattle.block_tables.proofs.Maps.{get-seen}
use Rattle.block_tables.proofs.copies.CopyTable.newest.Goals as goal

-- what the table has at the block
pub returns : goal.returns
returns c = rw (← c.self.view_is) (c.copied.ensures ∙ c.get.ensures.value ∙ sym (get-seen c.self.inside.newest c.args.block))
