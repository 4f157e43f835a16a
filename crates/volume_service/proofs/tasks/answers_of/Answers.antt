use Rattle.std.proofs.Common.{slice_index_or, subst, arith}
use Rattle.volume_service.specs.Plan.ServeRefused.{NoMemory}
use Rattle.volume_service.proofs.tasks.answers_of.Goals as goal

pub returns-in-Err-clause-err : goal.returns-in-Err-clause-err
returns-in-Err-clause-err g c = NoMemory

-- A client's promise is its task's.
pub returns-in-Ok-serve_clients-clause-kept : goal.returns-in-Ok-serve_clients-clause-kept
returns-in-Ok-serve_clients-clause-kept g c = λ k a t less.
    let all = c.in-Ok.ensures.all in
    subst (λ (task : g.row.T.Denot). g.T.Task.keeps task (slice_index_or c.in-Ok-serve_clients.served.answers.items k a)) (c.in-Ok.ensures.each k (record { task = t }) t less)
    (c.in-Ok-serve_clients.ensures.kept k a (record { task = t }) (omega (arith, less, all)))
