use Rattle.jbench_commands.proofs.obeying.obey.Goals as goal

-- the command that the words name was done
pub returns-in-Run-clause-done : goal.returns-in-Run-clause-done
returns-in-Run-clause-done g c = rw c.in-Run.is c.run_file.ensures.done

pub returns-in-Sweep-clause-done : goal.returns-in-Sweep-clause-done
returns-in-Sweep-clause-done g c = rw c.in-Sweep.is c.sweep_file.ensures.done

pub returns-in-Check-clause-done : goal.returns-in-Check-clause-done
returns-in-Check-clause-done g c = rw c.in-Check.is c.check_file.ensures.done

pub returns-in-Format-clause-done : goal.returns-in-Format-clause-done
returns-in-Format-clause-done g c = rw c.in-Format.is c.format_files.ensures.done

pub returns-in-Dump-clause-done : goal.returns-in-Dump-clause-done
returns-in-Dump-clause-done g c = rw c.in-Dump.is c.dump_file.ensures.done

pub returns-in-Cat-clause-done : goal.returns-in-Cat-clause-done
returns-in-Cat-clause-done g c = rw c.in-Cat.is c.cat_files.ensures.done

pub returns-in-Recover-clause-done : goal.returns-in-Recover-clause-done
returns-in-Recover-clause-done g c = rw c.in-Recover.is c.recover_files.ensures.done

pub returns-in-Upgrade-clause-done : goal.returns-in-Upgrade-clause-done
returns-in-Upgrade-clause-done g c = rw c.in-Upgrade.is c.upgrade_file.ensures.done

pub returns-in-Apply-clause-done : goal.returns-in-Apply-clause-done
returns-in-Apply-clause-done g c = rw c.in-Apply.is c.apply_files.ensures.done
