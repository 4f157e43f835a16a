use Rattle.commit_times.proofs.threads.do_and_say.Goals as goal

-- what the device counted is closed, so it is without the counts
pub returns : goal.returns
returns g c = rw c.into_device.ensures c.in_ok-done.ensures
