-- The layout of an accepted log.
use Rattle.std.proofs.Common.{ℕ, refl, subst, sym, inl, inr}
use Rattle.std.specs.Prelude.{◌≡◌, ◌⊎◌, ◌+◌, Bool, true, false, if◌then◌else◌}
use Rattle.journal_model.specs.Layout.{IsLayout}
use Rattle.log_model.specs.Opening.{layout_of}
use Rattle.log_model.specs.Superblock.{Super}
use Rattle.log_format.specs.Accepted.{IsAccepted}
use Rattle.log_format.specs.Size.{IsBlockSize}

-- a block number has 4 or 8 bytes
pub number-taken : (b : Bool) → (4 + (if b then 4 else 0) ≡ 4) ⊎ (4 + (if b then 4 else 0) ≡ 8)
number-taken true = inr refl
number-taken false = inl refl

-- the layout of an accepted log is allowed
pub accepted-taken : {block_size log_blocks : ℕ} {s : Super} → IsAccepted block_size log_blocks s → IsLayout (layout_of s)
accepted-taken accepted = (subst IsBlockSize (sym accepted.size) accepted.allowed, number-taken _)
