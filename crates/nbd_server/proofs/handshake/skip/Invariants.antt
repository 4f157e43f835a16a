use Rattle.std.proofs.Common.{◌≤◌, ◌-◌}
use Rattle.std.specs.Io.KnownBytes.{Consumes}
use Rattle.nbd_server.specs.Input.{TakesSome}
use Rattle.nbd_server.proofs.handshake.skip.Given as goal

-- so many bytes are skipped
abbrev pub invariant-loop-left : goal.invariant-loop-left
invariant-loop-left g l = record {
  within : l.left ≤ l.bytes;
  taken : TakesSome (l.bytes - l.left) (Consumes (g.I.Read.remaining l.fn.input) (g.I.Read.remaining l.input));
}

-- fewer bytes are left
abbrev pub decreases-loop-left : goal.decreases-loop-left
decreases-loop-left g l = l.left
