use Rattle.jbench_commands.proofs.obeying.recover_device.Goals as goal

-- as the words ask
pub returns-clause-done : goal.returns-clause-done
returns-clause-done g c = λ fine over. record { old = c.args.device; over = over; new = c.in_ok-status.left; did = c.in_ok-status.ensures.done fine }
