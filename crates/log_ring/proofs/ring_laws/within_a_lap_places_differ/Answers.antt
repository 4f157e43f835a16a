use Rattle.std.proofs.Common.{arith, ◌≡◌, ◌+◌, ◌*◌, ◌/◌, ◌%◌, ◌<◌}
use Rattle.std.proofs.Math.Nat.{div-add-mod, lt_of_mul-lt-mul_left}
use Rattle.log_ring.proofs.ring_laws.within_a_lap_places_differ.Goals as goal

-- the same remainder less than a lap apart is the same lap
pub returns : goal.returns
returns c = λ r position later above below same.
    let one : r.blocks * (position / r.blocks) + position % r.blocks ≡ position = div-add-mod position r.blocks in
    let other : r.blocks * (later / r.blocks) + later % r.blocks ≡ later = div-add-mod later r.blocks in
    let rest : position % r.blocks ≡ later % r.blocks = omega arith in
    let low : position / r.blocks < later / r.blocks = lt_of_mul-lt-mul_left r.blocks (omega arith) in
    let high : later / r.blocks < position / r.blocks + 1 = lt_of_mul-lt-mul_left r.blocks (omega arith) in
    absurd (omega arith)
