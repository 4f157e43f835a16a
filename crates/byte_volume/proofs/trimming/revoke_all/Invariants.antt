use Rattle.std.proofs.Common.{◌≡◌, ◌≤◌, ◌+◌, ◌++◌}
use Rattle.byte_volume.specs.Writing.{revoke_steps}
use Rattle.byte_volume.proofs.trimming.revoke_all.Given as goal

-- the steps so far revoke the blocks so far; the handle has credits for the others
abbrev pub invariant-loop-k : goal.invariant-loop-k
invariant-loop-k g l = record {
  number : l.handle.handle.number ≡ l.initial.handle.handle.number;
  tid : l.handle.handle.tid ≡ l.initial.handle.handle.tid;
  steps : l.handle.steps ≡ l.initial.handle.steps ++ revoke_steps l.initial.handle.handle.number l.first l.k;
  left : l.count ≤ l.handle.handle.left + l.k;
}
