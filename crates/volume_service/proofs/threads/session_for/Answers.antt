use Rattle.std.proofs.lemmas.Result.{err_from_is_err_and}
use Rattle.volume_service.specs.Plan.ServeRefused.{NoMemory}
use Rattle.volume_service.proofs.threads.session_for.Goals as goal

pub returns-in_err-another : goal.returns-in_err-another
returns-in_err-another g c =
    let p = err_from_is_err_and c.from_residual.result c.from_residual.ensures.1 in
    rw (p.1, p.2) (record { err = NoMemory })
