use Rattle.std.proofs.lemmas.Result.{IfOk-weaker}
use Rattle.script_sweep.specs.Swept.{MakesCalls}
use Rattle.script_sweep.proofs.swept.ThisJournalSwept.calls.Goals as goal

pub returns : goal.returns
returns c =
    IfOk-weaker c.calls_of_run.result (MakesCalls c.args.script.now) (λ calls. Unit {0} → MakesCalls c.args.script.now calls)
    (λ calls is keeps. is) c.calls_of_run.ensures
