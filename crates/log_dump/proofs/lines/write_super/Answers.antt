use Rattle.std.proofs.Common.{◌∙◌, ap, append_assoc, subst, sym}
use Rattle.std.specs.Prelude.{OnOk}
use Rattle.std.specs.Io.KnownBytes.{Appends}
use Rattle.log_model.specs.Dump.{super_line, width_word}
use Rattle.log_model.specs.Superblock.{Super}
use Rattle.log_dump.specs.Lines.{ended}
use Rattle.log_dump.proofs.lines.write_super.Goals as goal

pub returns : goal.returns
returns g c =
    subst (λ (s : Super). OnOk c.writeln.result (Appends (g.W.Write.contents c.args.out.now) (g.W.Write.contents c.writeln.new.self) (ended (super_line s))))
    c.fields.view_is (simp append_assoc (rw (ap width_word c.fields.view_is ∙ sym c.width_word-width.ensures) c.writeln.ensures.bytes))
