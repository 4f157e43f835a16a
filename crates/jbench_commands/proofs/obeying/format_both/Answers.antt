use Rattle.std.specs.Prelude.{false}
use Rattle.std.proofs.lemmas.Result.{IfOk-weaker}
use Rattle.jbench_commands.proofs.Obeyed.{over-told}
use Rattle.jbench_commands.proofs.obeying.format_both.Goals as goal

-- over two files, which are new if they had to be
pub returns-in-Ok-make_both-clause-done : goal.returns-in-Ok-make_both-clause-done
returns-in-Ok-make_both-clause-done g c =
    let over = over-told c.args.words.now.has_to_be_new false c.in-Ok.files c.in-Ok-make_both.device c.in-Ok-make_both.ensures
    (λ new. (c.in-Ok.ensures new).0) (λ new keep. (c.in-Ok.ensures new).1) in
    IfOk-weaker c.format_device.result _ _ (λ status made fine.
    record { old = c.in-Ok-make_both.device; over = over; new = (made fine).new; did = (made fine).did }) c.format_device.ensures.made
