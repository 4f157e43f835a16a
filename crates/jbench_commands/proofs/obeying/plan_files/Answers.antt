use Rattle.std.proofs.lemmas.Result.{IfOk-weaker}
use Rattle.jbench_commands.proofs.Obeyed.{over-two}
use Rattle.jbench_commands.proofs.obeying.plan_files.Goals as goal

-- over two files
pub returns-in-Ok-device_to_read-clause-done : goal.returns-in-Ok-device_to_read-clause-done
returns-in-Ok-device_to_read-clause-done g c =
    IfOk-weaker c.recover_device.result _ _ (λ status done fine. done fine (over-two c.in-Ok.files c.in-Ok-device_to_read.device c.in-Ok-device_to_read.ensures)) c.recover_device.ensures.done
