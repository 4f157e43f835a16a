-- The bytes of a written block, by how they are kept.
use Rattle.std.specs.Prelude.{ℕ, List, replicate}
use Rattle.block_device.specs.declared.stored.Form.{Form}
use Rattle.block_device.specs.declared.stored.Form.TheVariants.{Zeros, Bytes}

abbrev pub bytes_of : Form → List ℕ
bytes_of (Zeros size) = replicate size 0
bytes_of (Bytes block) = block
