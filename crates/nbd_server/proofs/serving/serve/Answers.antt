use Rattle.volume_service.specs.Plan.ServeRefused.{NoMemory}
use Rattle.nbd_server.proofs.serving.serve.Goals as goal

-- memory ran out for the tasks
pub returns-then-is_empty-clause-err : goal.returns-then-is_empty-clause-err
returns-then-is_empty-clause-err g c = NoMemory
