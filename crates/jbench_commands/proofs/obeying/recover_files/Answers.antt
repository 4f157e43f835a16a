use Rattle.std.proofs.lemmas.Result.{IfOk-weaker}
use Rattle.jbench_commands.proofs.Obeyed.{over-two}
use Rattle.jbench_commands.proofs.obeying.recover_files.Goals as goal

-- over two files
pub returns-in-Ok-device_of-clause-done : goal.returns-in-Ok-device_of-clause-done
returns-in-Ok-device_of-clause-done g c =
    IfOk-weaker c.recover_device.result _ _ (λ status done fine. done fine (over-two c.in-Ok.files c.in-Ok-device_of.device c.in-Ok-device_of.ensures)) c.recover_device.ensures.done
