use Rattle.std.proofs.Common.{subst}
use Rattle.std.specs.Io.KnownBytes.{Appends}
use Rattle.log_model.specs.Dump.{super_line}
use Rattle.log_model.specs.Superblock.{Super}
use Rattle.log_dump.specs.Lines.{ended}
use Rattle.log_dump.proofs.Dumps.{written-chain}
use Rattle.log_dump.proofs.dumping.write_log.Goals as goal

pub returns-clause-printed : goal.returns-clause-printed
returns-clause-printed g c = λ h texts started are all.
    written-chain c.args.log.now texts c.first_number.result c.args.transactions
    (g.W.Write.contents c.args.out.now) (g.W.Write.contents c.write_super.new.out) (g.W.Write.contents c.write_transactions.new.out) (g.W.Write.contents c.write_end.new.out)
    started c.first_number.ensures.value all
    (subst (λ (s : Super). Appends (g.W.Write.contents c.args.out.now) (g.W.Write.contents c.write_super.new.out) (ended (super_line s))) c.fields.ensures c.in_ok-write_super.ensures)
    (c.in_ok-write_transactions.ensures.printed h texts are all) c.in_ok-write_end.ensures
