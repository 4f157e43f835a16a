-- What an opening owes after a run, and whether it gave that back.
use Rattle.std.specs.Prelude.{◌≡◌, ◌↔◌, ◌⊎◌, ℕ, ◌<◌, ◌≤◌, Bool, IsTrue, List, [], ◌∷◌, length, replicate, take, Option, Some, None, All, Contains, ⊤}
use Rattle.std.specs.BTreeSet.{keys}
use Rattle.journal_model.specs.declared.entry.Entry.{Entry}
use Rattle.journal_model.specs.declared.entry.Entry.TheVariants.{Copy, Revoke}
use Rattle.journal_model.specs.Disk.{Image, Shape}
use Rattle.log_model.specs.Opening.{HasLimit, OpensAs, numbered_below}
use Rattle.journal_model.specs.Record.{acknowledged}
use Rattle.journal_model.specs.Transaction.{History, Volume, last_effect}
use Rattle.block_device.specs.Memory.{MemState, crashed}
use Rattle.journal_script.specs.declared.script.NamedBlocks.{NamedBlocks}

-- how many transactions are owed: those up to the greatest acknowledged one, if any
abbrev pub owed : Option ℕ → History → ℕ
owed None ts = 0
owed (Some tid) ts = acknowledged (tid ∷ []) ts

-- the bytes that a block may have, by its last entry: a copy's; without an entry zeros, unless a direct write names the block; after a
-- revoke any, since home may hold an older copy or a direct write
abbrev pub IsLeftBy : Option Entry → (direct : Type 0) → ℕ → List ℕ → Type 0
IsLeftBy None direct size bytes = direct ⊎ (bytes ≡ replicate size 0)
IsLeftBy (Some (Copy v)) direct size bytes = bytes ≡ v
IsLeftBy (Some Revoke) direct size bytes = ⊤

-- the block is as its last entry left it, if direct writes name `directs`
abbrev pub IsLeft : (ℕ → Option Entry) → (directs : List ℕ) → ℕ → Volume → ℕ → Type 0
IsLeft last directs size home block = IsLeftBy (last block) (Contains directs block) size (home block)

-- the block is as the first `n` transactions left it
abbrev pub IsAsLeft : History → (directs : List ℕ) → ℕ → ℕ → Volume → ℕ → Type 0
IsAsLeft sealed directs n size home block = IsLeft (λ b. last_effect b (take n sealed)) directs size home block

-- an opening that found the first `n` transactions is right: nothing acknowledged is lost, nothing unsealed is there, and each named block
-- is as they left it
pub record IsRight (sealed : History) (shown : Option ℕ) (named : NamedBlocks) (n size : ℕ) (home : Volume) : Type 0 where
  pub kept : owed shown sealed ≤ n
  pub known : n ≤ length sealed
  pub home_is : All (IsAsLeft sealed (keys named.directs) n size home) (keys named.blocks)

-- the verdict on an image: it was opened, and `right` says whether the result is right
pub record IsImageVerdict (shape : Shape) (image : Image) (sealed : History) (shown : Option ℕ) (named : NamedBlocks) (right : Bool) : Type 0 where
  pub limit : ℕ
  pub has_limit : HasLimit shape image limit
  pub got : Volume
  pub opens : OpensAs shape image got
  pub there : All (λ b. b < shape.home_blocks) (keys named.blocks)
  pub right_is : IsTrue right ↔ IsRight sealed shown named (numbered_below limit sealed) shape.block_size got

-- the verdict on a stopped device: its crash image was opened, and `right` says whether the result is right
pub record IsVerdict (device : MemState) (keep : List ℕ) (sealed : History) (shown : Option ℕ) (named : NamedBlocks) (right : Bool) : Type 0 where
  pub limit : ℕ
  pub has_limit : HasLimit device.shape (crashed keep device) limit
  pub got : Volume
  pub opens : OpensAs device.shape (crashed keep device) got
  pub right_is : IsTrue right ↔ IsRight sealed shown named (numbered_below limit sealed) device.shape.block_size got
