use Rattle.std.proofs.Common.{◌≡◌, ◌*◌, length, arith}
use Rattle.hex.proofs.HexLemmas.{decode_of-ok}
use Rattle.journal_script.proofs.reading.bytes_of.Goals as goal

-- two digits a byte
pub returns-in-Ok-clause-most : goal.returns-in-Ok-clause-most
returns-in-Ok-clause-most c =
    let twice : length c.in_ok-digits.digits.now ≡ 2 * length c.in-Ok.bytes.items =
    (decode_of-ok c.in_ok-digits.digits.now c.in-Ok.bytes.items c.in-Ok.ensures.ok).2 in
    omega (arith, twice)

-- the digits are those that were decoded
pub returns-in-Ok-clause-hex : goal.returns-in-Ok-clause-hex
returns-in-Ok-clause-hex c = record { digits = c.in_ok-digits.digits.now; is = c.in_ok-digits.ensures; decoded = c.in-Ok.ensures.ok }
