use Rattle.jbench_commands.proofs.obeying.dump_file.Goals as goal

-- on the device over this file
pub returns-in_ok-say_failure-in-Ok-clause-done : goal.returns-in_ok-say_failure-in-Ok-clause-done
returns-in_ok-say_failure-in-Ok-clause-done g c = λ fine. record { old = c.in-Ok.device; over = tt; new = c.dump.new.device; did = c.in_ok-status-in-Ok.ensures.dumped fine }
