use Rattle.std.proofs.Common.{ℕ, ◌≡◌, ◌+◌, ◌<◌, ◌++◌, ◌∙◌, List, [], ap, sym, rules, get_or, length, take}
use Rattle.std.proofs.Output.{has_written_append, has_written_of_eq}
use Rattle.std.proofs.lemmas.List.{flat_map_more, take_more}
use Rattle.script_client.specs.Lines.{hex_digits, hex_text}
use Rattle.script_client.proofs.outcome.HexDisplay.fmt.Goals as goal

-- the digits of one more byte
hex-more : (bytes : List ℕ) (i : ℕ) → i < length bytes → hex_text (take i bytes) ++ hex_digits (get_or bytes i 0) ≡ hex_text (take (i + 1) bytes)
hex-more bytes i within = flat_map_more hex_digits [] (take i bytes) (get_or bytes i 0) ∙ ap hex_text (sym (take_more bytes i 0 within))

pub loop-byte-preserved : goal.loop-byte-preserved
loop-byte-preserved g c = λ plain.
    has_written_of_eq _ _ _ _ _ (hex-more c.args.self.now.0.now c.loop-byte.byte-index c.loop-byte-test.true)
    (has_written_append _ _ _ _ _ _ (c.loop-byte.invariant plain) (search rules))
