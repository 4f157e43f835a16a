use Rattle.std.proofs.Common.{◌≡◌, ◌++◌, ℕ, ◌<◌, get_or, length, vec_items, vec_len}
use Rattle.std.specs.Vec.Iter.{into_iter_items}
use Rattle.volume_service.proofs.tasks.as_clients.Given as goal

-- Each task so far is a client.
abbrev pub invariant-loop-task : goal.invariant-loop-task
invariant-loop-task g l =
    (vec_len l.clients ≡ length l.yielded)
    × (l.yielded ++ into_iter_items l.task-iterator ≡ vec_items l.fn.tasks)
    × ((k : ℕ) (c : _) (t : _) → k < vec_len l.clients → (get_or (vec_items l.clients) k c).task ≡ get_or (vec_items l.fn.tasks) k t)
