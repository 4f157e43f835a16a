use Rattle.std.proofs.Common.{map, take}
use Rattle.std.specs.Fmt.{decimal}
use Rattle.std.specs.List.{join_with_byte}
use Rattle.std.specs.Io.KnownBytes.{Appends}
use Rattle.log_model.specs.Dump.{comma}
use Rattle.log_dump.proofs.lines.write_numbers.Given as goal

abbrev pub invariant-loop-i : goal.invariant-loop-i
invariant-loop-i g l =
    Appends (g.W.Write.contents l.fn.out) (g.W.Write.contents l.out) (join_with_byte comma (map decimal (take l.i l.numbers)))
