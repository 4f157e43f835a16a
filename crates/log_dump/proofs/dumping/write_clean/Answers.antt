use Rattle.std.proofs.Common.{◌++◌, subst}
use Rattle.std.specs.Prelude.{codes}
use Rattle.std.specs.Fmt.{decimal}
use Rattle.std.specs.Io.KnownBytes.{Appends}
use Rattle.log_model.specs.Superblock.{Super}
use Rattle.log_dump.specs.Lines.{ended}
use Rattle.std.proofs.lemmas.Result.{on_ok_weaker}
use Rattle.log_dump.proofs.Dumps.{written-clean}
use Rattle.log_dump.proofs.dumping.write_clean.Goals as goal

pub returns : goal.returns
returns g c =
    on_ok_weaker c.write_empty.result
    (λ second clean.
    written-clean c.args.fields.now (g.W.Write.contents c.args.out.now) (g.W.Write.contents c.write_super.new.out) (g.W.Write.contents c.write_empty.new.out) clean
    c.in_ok-write_super.ensures
    (subst (λ (s : Super). Appends (g.W.Write.contents c.write_super.new.out) (g.W.Write.contents c.write_empty.new.out) (ended (codes "empty sequence=" ++ decimal s.s_sequence))) c.fields.view_is second))
    c.write_empty.ensures
