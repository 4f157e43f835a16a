-- Whole blocks among a file's bytes, and calls that read or write several. This project's own.
use Rattle.std.specs.Prelude.{ℕ, zero, suc, ◌+◌, ◌*◌, List, [], ◌∷◌, take, drop}
use Rattle.journal_model.specs.declared.number.Area.{Area}
use Rattle.file_device.specs.Calls.{FileCall, Read, Wrote}

-- block `k` of some bytes
abbrev pub block_of : ℕ → List ℕ → ℕ → List ℕ
block_of size bytes k = take size (drop (k * size) bytes)

-- one read call for each of the first `k` blocks of these bytes, which came from `at` on
abbrev pub reads_of : Area → ℕ → ℕ → List ℕ → ℕ → List FileCall
reads_of area at size bytes zero = []
reads_of area at size bytes (suc k) = Read area (at + k * size) (block_of size bytes k) ∷ reads_of area at size bytes k

-- one write call for each of the first `k` blocks of these bytes, which were taken from `at` on
abbrev pub writes_of : Area → ℕ → ℕ → List ℕ → ℕ → List FileCall
writes_of area at size bytes zero = []
writes_of area at size bytes (suc k) = Wrote area (at + k * size) (block_of size bytes k) ∷ writes_of area at size bytes k
