use Rattle.std.specs.Prelude.{true}
use Rattle.std.proofs.lemmas.Result.{IfOk-weaker}
use Rattle.jbench_commands.proofs.Obeyed.{over-told, not-both}
use Rattle.jbench_commands.proofs.obeying.format_log.Goals as goal

-- over two files, of which the log's is new if it had to be
pub returns-in-Ok-make_beside_home-clause-done : goal.returns-in-Ok-make_beside_home-clause-done
returns-in-Ok-make_beside_home-clause-done g c =
    let over = over-told c.args.words.now.has_to_be_new true c.in-Ok.files.pair c.in-Ok-make_beside_home.device c.in-Ok-make_beside_home.ensures
    c.in-Ok.ensures.new (λ new keep. not-both keep) in
    IfOk-weaker c.format_device.result _ _ (λ status made fine.
    record { old = c.in-Ok-make_beside_home.device; over = over; new = (made fine).new; did = (made fine).did }) c.format_device.ensures.made
