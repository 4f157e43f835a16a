use Rattle.std.proofs.Common.{length, take}
use Rattle.std.specs.Io.KnownBytes.{Appends}
use Rattle.log_dump.specs.Lines.{copies_captions, placed_lines}
use Rattle.log_dump.proofs.printing.write_copies.Given as goal

abbrev pub invariant-loop-i : goal.invariant-loop-i
invariant-loop-i g l =
    Appends (g.W.Write.contents l.fn.out) (g.W.Write.contents l.out)
    (placed_lines l.log l.position (copies_captions l.sequence (length l.tags) (take l.i l.tags)))
