-- Which place a link's number, modulo 2^64, leads to.
use Rattle.std.specs.Prelude.{ℕ, ◌+◌, ◌-◌, ◌%◌, ◌^◌}

abbrev pub place_of : ℕ → ℕ → ℕ
place_of first number = (number + (2 ^ 64 - first)) % 2 ^ 64
