use Rattle.std.proofs.Common.{Bool, subst, sym}
use Rattle.std.specs.Prelude.{OnOk}
use Rattle.std.specs.Io.KnownBytes.{Appends}
use Rattle.jbench_logs.specs.Said.{recovered_text}
use Rattle.jbench_logs.proofs.logs.say_recovered.Goals as goal

-- an object
pub returns-then-json : goal.returns-then-json
returns-then-json g c =
    subst (λ (json : Bool). OnOk c.write_object.result (Appends (g.W.Write.contents c.args.out.now) (g.W.Write.contents c.write_object.new.out) (recovered_text json c.args.report.clean c.args.report.ends_at c.args.report.transactions c.args.next)))
    (sym c.if-json.true) c.write_object.ensures

-- a line
pub returns-else-json : goal.returns-else-json
returns-else-json g c =
    subst (λ (json : Bool). OnOk c.write_recovered.result (Appends (g.W.Write.contents c.args.out.now) (g.W.Write.contents c.write_recovered.new.out) (recovered_text json c.args.report.clean c.args.report.ends_at c.args.report.transactions c.args.next)))
    (sym c.if-json.false) c.write_recovered.ensures
