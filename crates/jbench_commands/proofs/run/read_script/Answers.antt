use Rattle.jbench_commands.proofs.run.read_script.Goals as goal

-- it is within its limits
pub returns : goal.returns
returns c = record { is = c.in_ok-script.ensures.script; limited = c.in_ok-script.ensures.measures }
