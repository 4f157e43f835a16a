-- Which committed copies contracts see, and which one is the newest of a block.
use Rattle.std.specs.Prelude.{◌≡◌, ⊤, ℕ, ◌*◌, ◌/◌, ◌%◌, ◌^◌, ◌≤◌, ◌==◌, ◌&&◌, Bool, true, not, if◌then◌else◌, List, [], ◌∷◌, length, Option, Some, None}
use Rattle.checkpoint.specs.declared.copies.QueuedCopy.{QueuedCopy}
use Rattle.checkpoint.specs.declared.version.Version.{Version}

pub record CopiesValue : Type 0 where
  pub room : ℕ
  pub copies : List QueuedCopy

abbrev pub version_of : QueuedCopy → Version
version_of c = record { tid = c.tid; place = c.place }

abbrev pub is_live_of : ℕ → QueuedCopy → Bool
is_live_of b c = c.live && (c.block == b)

abbrev pub newest_in : List QueuedCopy → ℕ → Option Version
newest_in [] b = None
newest_in (c ∷ cs) b = if is_live_of b c then Some (version_of c) else newest_in cs b

abbrev pub IsSingle : List QueuedCopy → Type 0
IsSingle [] = ⊤
IsSingle (c ∷ cs) = (c.live ≡ true → newest_in cs c.block ≡ None) × IsSingle cs

pub record AreCopies (v : CopiesValue) : Type 0 where
  pub room : length v.copies ≤ v.room
  pub single : IsSingle v.copies

-- the copy, once a later entry of block b comes
abbrev pub withdrawn : ℕ → QueuedCopy → QueuedCopy
withdrawn b c = record { tid = c.tid; block = c.block; place = c.place; live = c.live && not (c.block == b) }

unfoldable pub bucket_of : ℕ → ℕ → ℕ
bucket_of n b = ((b * 11400714819323198485) % 2 ^ 64 / 2 ^ 32) % n
