use Rattle.jbench_commands.proofs.obeying.format_device.Goals as goal

-- the log was made on this device
pub returns-clause-made : goal.returns-clause-made
returns-clause-made g c = λ fine. record { new = c.format.new.device; did = λ honest. c.in_ok-status.ensures.made fine }
