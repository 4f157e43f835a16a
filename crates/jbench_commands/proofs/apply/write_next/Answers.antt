use Rattle.std.proofs.Common.{◌+◌, Bool, [], ◌∷◌, ◌++◌, append_assoc, subst, sym}
use Rattle.std.specs.Prelude.{OnOk, codes, if◌then◌else◌}
use Rattle.std.specs.Fmt.{decimal}
use Rattle.std.specs.Io.KnownBytes.{Appends}
use Rattle.std.proofs.lemmas.Bool.{le-ltb, lt-ltb}
use Rattle.log_model.specs.Dump.{newline}
use Rattle.log_model.specs.Opening.{greatest_number}
use Rattle.jbench_commands.proofs.apply.write_next.Goals as goal

-- a number is left
pub returns-then-limit-lt-GREATEST_NUMBER : goal.returns-then-limit-lt-GREATEST_NUMBER
returns-then-limit-lt-GREATEST_NUMBER g c =
    subst (λ (b : Bool). OnOk c.writeln.result (Appends (g.W.Write.contents c.args.out.now) (g.W.Write.contents c.writeln.new.self) (codes "closed next=" ++ (if b then decimal (c.args.limit + 1) else codes "none") ++ newline ∷ [])))
    (sym (lt-ltb c.args.limit greatest_number c.if-limit-lt-GREATEST_NUMBER.true)) (simp append_assoc c.writeln.ensures.bytes)

-- none is left
pub returns-else-limit-lt-GREATEST_NUMBER : goal.returns-else-limit-lt-GREATEST_NUMBER
returns-else-limit-lt-GREATEST_NUMBER g c =
    subst (λ (b : Bool). OnOk c.writeln-else-limit-lt-GREATEST_NUMBER.result (Appends (g.W.Write.contents c.args.out.now) (g.W.Write.contents c.writeln-else-limit-lt-GREATEST_NUMBER.new.self) (codes "closed next=" ++ (if b then decimal (c.args.limit + 1) else codes "none") ++ newline ∷ [])))
    (sym (le-ltb c.args.limit greatest_number c.if-limit-lt-GREATEST_NUMBER.false)) c.writeln-else-limit-lt-GREATEST_NUMBER.ensures.bytes
