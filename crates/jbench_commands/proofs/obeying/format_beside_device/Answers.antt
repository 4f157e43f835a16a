use Rattle.std.proofs.lemmas.Result.{IfOk-weaker}
use Rattle.jbench_commands.specs.Obeying.{IsOverHomeDevice}
use Rattle.jbench_commands.proofs.obeying.format_beside_device.Goals as goal

-- over two files, of which home is a block device
pub returns-in-Ok-make_beside_home-clause-done : goal.returns-in-Ok-make_beside_home-clause-done
returns-in-Ok-make_beside_home-clause-done g c =
    let files = c.in-Ok.files.pair in
    let over : IsOverHomeDevice c.in-Ok-make_beside_home.device = record {
      log = files.log.file;
      home = files.home.file;
      apart = files.are_two;
      over = c.in-Ok-make_beside_home.ensures;
      home_is_device = c.in-Ok.ensures.device c.home_kept.ensures;
    } in
    IfOk-weaker c.format_device.result _ _ (λ status made fine.
    record { old = c.in-Ok-make_beside_home.device; over = over; new = (made fine).new; did = (made fine).did }) c.format_device.ensures.made
