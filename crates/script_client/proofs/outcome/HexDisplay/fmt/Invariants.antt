use Rattle.std.proofs.Common.{take}
use Rattle.std.specs.Fmt.{HasWritten, IsPlainFormatter}
use Rattle.script_client.specs.Lines.{hex_text}
use Rattle.script_client.proofs.outcome.HexDisplay.fmt.Given as goal

-- the digits of the bytes up to here were written
abbrev pub invariant-loop-byte : goal.invariant-loop-byte
invariant-loop-byte g l =
    IsPlainFormatter l.fn.f → HasWritten g.W.Write.write_str_gives l.fn.f (hex_text (take l.byte-index l.self.0.now)) l.f
