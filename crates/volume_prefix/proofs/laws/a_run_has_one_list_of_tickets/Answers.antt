use Rattle.volume_prefix.proofs.Works.{only-work, some-work}
use Rattle.volume_prefix.proofs.laws.a_run_has_one_list_of_tickets.Goals as goal

pub returns-clause-some : goal.returns-clause-some
returns-clause-some c = λ start end moves epoch run now. some-work start end moves run.leads epoch run.begins run.single now

pub returns-clause-one : goal.returns-clause-one
returns-clause-one c = only-work
