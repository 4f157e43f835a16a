use Rattle.std.proofs.Common.{◌≡◌, ◌≤◌, ◌+◌, ◌/◌, ◌++◌, length}
use Rattle.byte_volume.specs.Writing.{write_steps}
use Rattle.byte_volume.proofs.writing.fill.Given as goal

-- the steps so far write the blocks so far; the handle has credits for the others
abbrev pub invariant-loop-k : goal.invariant-loop-k
invariant-loop-k g l = record {
  number : l.handle.handle.number ≡ l.initial.handle.handle.number;
  tid : l.handle.handle.tid ≡ l.initial.handle.handle.tid;
  steps : l.handle.steps ≡ l.initial.handle.steps ++ write_steps l.initial.handle.handle.number l.first l.size l.bytes l.k;
  left : length l.bytes / l.size ≤ l.handle.handle.left + l.k;
}
