use Rattle.std.specs.BTreeSet.{keys}
use Rattle.journal_script.proofs.Keys.{finds-key}
use Rattle.journal_script.proofs.script.NamedBlocks.is_direct.Goals as goal

pub returns : goal.returns
returns c =
    let found = finds-key (keys c.args.self.now.directs) c.args.block in
    rw (← c.contains.ensures) at found
