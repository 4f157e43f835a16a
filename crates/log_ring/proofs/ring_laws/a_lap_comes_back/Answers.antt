use Rattle.std.proofs.Common.{ap, ◌+◌, ℕ}
use Rattle.std.proofs.Math.Nat.{add-mod_right}
use Rattle.log_ring.proofs.ring_laws.a_lap_comes_back.Goals as goal

pub returns : goal.returns
returns c = λ r position. ap (λ (k : ℕ). r.first + k) (add-mod_right position r.blocks)
