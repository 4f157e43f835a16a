use Rattle.volume_prefix.proofs.Rows.{run-in-a-row}
use Rattle.volume_prefix.proofs.laws.the_record_goes_from_handle_to_handle.Goals as goal

pub returns : goal.returns
returns c = λ start end moves epoch tickets run now work.
    run-in-a-row start end moves run.leads epoch tickets run.begins run.single now work
