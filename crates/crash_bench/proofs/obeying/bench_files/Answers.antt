use Rattle.jbench_commands.proofs.Ending.{some-left}
use Rattle.crash_bench.proofs.obeying.bench_files.Goals as goal

-- the device after success
pub returns-in_ok-done-in-Ok-device_of-clause-done : goal.returns-in_ok-done-in-Ok-device_of-clause-done
returns-in_ok-done-in-Ok-device_of-clause-done g c = λ fine.
    let found = some-left _ c.in_ok-done-in-Ok-device_of.done (c.status_of.ensures.fine.0 fine) c.in_ok-done-in-Ok-device_of.ensures in
    record { left = found.0; closed = found.1 }
