use Rattle.std.proofs.Common.{◌≡◌, ◌+◌, ap, ◌∙◌, arith, sum_by}
use Rattle.std.proofs.lemmas.List.Sums.{sum_by-cons}
use Rattle.handle.specs.Values.{SeatValue}
use Rattle.shared_journal.proofs.Allotments.{sum-push}
use Rattle.shared_journal.proofs.journal.Journal.split_seats.Goals.{in-Some-other+in_ok-push_back-3, in_default-other}
use Rattle.shared_journal.proofs.journal.Journal.split_seats.Goals as goal

-- The seat moves behind the others, with the one that was split off.
pub loop-count-preserved : goal.loop-count-preserved
loop-count-preserved g c =
    let of = λ (s : SeatValue). s.allotment in
    let at = c.loop-count in
    let rest = c.pop_front.new.self.items in
    let first : sum_by of at.seats.items ≡ of c.in-Some.seat + sum_by of rest = ap (sum_by of) c.in-Some.ensures.items ∙ sum_by-cons of c.in-Some.seat rest in
    let moved = c.push_back-in-loop-count.new.self.items in
    let again : sum_by of moved ≡ sum_by of rest + of c.split_seat-other.new.seat = ap (sum_by of) c.in_ok-push_back-2.ensures.items ∙ sum-push of rest c.split_seat-other.new.seat in
    elim c.match-other-2.branch [
      | in-Some-other+in_ok-push_back-3 w ↦
          let other = w.in-Some-other.other in
          let halves = w.in-Some-other.ensures.1 in
          let more : sum_by of c.match-other-2.seats.items ≡ sum_by of moved + of other =
          ap (λ q. sum_by of q.items) w.seats-is ∙ (ap (sum_by of) w.in_ok-push_back-3.ensures.items ∙ sum-push of moved other) in
          record {
            most = omega (arith, at.invariant.most, c.in-Some.ensures.len, c.in_ok-push_back-2.ensures.len, w.in_ok-push_back-3.ensures.len, ap (λ q. q.len) w.seats-is);
            whole = omega (arith, at.invariant.whole, first, again, more, ap of halves.keeps, ap of halves.gets);
          }
      | in_default-other w ↦
          record {
            most = omega (arith, at.invariant.most, c.in-Some.ensures.len, c.in_ok-push_back-2.ensures.len, ap (λ q. q.len) w.seats-is);
            whole = omega (arith, at.invariant.whole, first, again, ap (λ q. sum_by of q.items) w.seats-is, ap of w.in_default-other.ensures.1);
          }
    ]
