use Rattle.std.proofs.Common.{arith, sym, subst}
use Rattle.log_ledger.specs.Text.{copies_at}
use Rattle.log_format.specs.Size.{FitDescriptor}
use Rattle.log_format.proofs.Written.{tags_from-fit}
use Rattle.log_ledger.proofs.Copies.{length-at}
use Rattle.log_ledger.proofs.text.write_descriptor.Goals as goal

-- the tags of copies of blocks that a tag can name fit
pub write-requires-clause-fit : goal.write-requires-clause-fit
write-requires-clause-fit c =
    let l = c.args.layout in
    let entries = c.args.entries.now in
    let places = c.args.places.now in
    let same = length-at entries places in
    let fit = tags_from-fit l (copies_at entries places) (omega arith) c.requires.spelled in
    subst (FitDescriptor l) (sym c.make_tags.ensures) fit
