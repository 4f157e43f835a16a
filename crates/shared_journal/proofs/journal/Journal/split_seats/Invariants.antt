use Rattle.std.proofs.Common.{◌≡◌, ◌≤◌, sum_by}
use Rattle.std.specs.VecDeque.{deque_len}
use Rattle.shared_journal.proofs.journal.Journal.split_seats.Given as goal

-- Each turn has split off one seat at most, and the seats have the whole allotment.
abbrev pub invariant-loop-count : goal.invariant-loop-count
invariant-loop-count g l =
    record {
      most : deque_len l.seats ≤ l.count;
      whole : sum_by (λ s. s.allotment) l.seats.items ≡ l.fn.seat.allotment;
    }
