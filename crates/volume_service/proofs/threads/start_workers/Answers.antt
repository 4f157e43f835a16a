use Rattle.std.proofs.lemmas.Result.{err_from_is_err_and}
use Rattle.volume_service.specs.Plan.ServeRefused.{NoMemory}
use Rattle.volume_service.proofs.threads.start_workers.Goals as goal

pub returns-in_err-kicks : goal.returns-in_err-kicks
returns-in_err-kicks g c =
    let p = err_from_is_err_and c.from_residual.result c.from_residual.ensures.1 in
    rw (p.1, p.2) NoMemory

pub returns-in_err-rounds : goal.returns-in_err-rounds
returns-in_err-rounds g c =
    let p = err_from_is_err_and c.from_residual-in_err-rounds.result c.from_residual-in_err-rounds.ensures.1 in
    rw (p.1, p.2) NoMemory

pub returns-in_err-stops : goal.returns-in_err-stops
returns-in_err-stops g c =
    let p = err_from_is_err_and c.from_residual-in_err-stops.result c.from_residual-in_err-stops.ensures.1 in
    rw (p.1, p.2) NoMemory

pub returns-in_err-lasts : goal.returns-in_err-lasts
returns-in_err-lasts g c =
    let p = err_from_is_err_and c.from_residual-in_err-lasts.result c.from_residual-in_err-lasts.ensures.1 in
    rw (p.1, p.2) NoMemory

pub returns-in_err-due_too : goal.returns-in_err-due_too
returns-in_err-due_too g c =
    let p = err_from_is_err_and c.from_residual-in_err-due_too.result c.from_residual-in_err-due_too.ensures.1 in
    rw (p.1, p.2) NoMemory
