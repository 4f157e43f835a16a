use Rattle.jbench_commands.proofs.Obeyed.{over-two}
use Rattle.jbench_commands.proofs.obeying.cat_files.Goals as goal

-- over two files
pub returns-in-Ok-device_to_read-clause-done : goal.returns-in-Ok-device_to_read-clause-done
returns-in-Ok-device_to_read-clause-done g c = λ fine.
    let printed = c.in_ok-status-in-Ok-device_to_read.ensures.printed fine in
    record {
      old = c.in-Ok-device_to_read.device;
      over = over-two c.in-Ok.files c.in-Ok-device_to_read.device c.in-Ok-device_to_read.ensures;
      new = c.cat.new.device;
      did = λ honest. (printed.bytes, printed.left honest);
    }
