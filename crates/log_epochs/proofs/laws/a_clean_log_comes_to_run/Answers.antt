use Rattle.log_epochs.proofs.CleanRuns.{clean-runs}
use Rattle.log_epochs.proofs.laws.a_clean_log_comes_to_run.Goals as goal

pub returns : goal.returns
returns c = clean-runs
