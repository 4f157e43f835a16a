use Rattle.jbench_commands.proofs.obeying.upgrade_file.Goals as goal

-- on the device over this file
pub returns-in_ok-say_failure-in-Ok-clause-done : goal.returns-in_ok-say_failure-in-Ok-clause-done
returns-in_ok-say_failure-in-Ok-clause-done g c = λ fine. record { old = c.in-Ok.device; over = tt; new = c.upgrade.new.device; did = c.in_ok-status-in-Ok.ensures.upgraded fine }
