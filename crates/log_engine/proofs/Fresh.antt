-- What the superblock of an opened log says, and that its engine can run.
use Rattle.std.proofs.Common.{arith}
use Rattle.std.specs.Prelude.{◌≡◌, ℕ, ◌+◌, ◌-◌, ◌<◌, ◌≤◌, List, length}
use Rattle.journal_model.specs.Disk.{Shape}
use Rattle.log_model.specs.Superblock.{least_ring, super_in}
use Rattle.journal_world.specs.Journal.{fresh_engine}
use Rattle.journal_world.specs.Sound.{IsPlain}
use Rattle.journal_world.proofs.Fresh.{fresh-plain}
use Rattle.journal_world.proofs.Superblocks.{accepted-first, accepted-ring, accepted-size}
use Rattle.recovery.specs.Values.{IsNextNamed}

-- the fields of an accepted superblock that describe a ring
pub record HasFields (superblock : List ℕ) : Type 0 where
  pub long : 1024 ≤ length superblock
  pub some : 0 < (super_in superblock).s_first
  pub ring : (super_in superblock).s_first + least_ring ≤ (super_in superblock).s_maxlen
  pub order : (super_in superblock).s_first ≤ (super_in superblock).s_maxlen

ring-behind : (first maxlen : ℕ) → 16 ≤ maxlen - first → first + least_ring ≤ maxlen
ring-behind first maxlen some = omega arith

ring-order : (first maxlen : ℕ) → first + least_ring ≤ maxlen → first ≤ maxlen
ring-order first maxlen some = omega arith

long-enough : (size count : ℕ) → count ≡ size → 1024 ≤ size → 1024 ≤ count
long-enough size count same long = omega arith

pub named-fields : (shape : Shape) (superblock : List ℕ) (next : ℕ) → IsNextNamed shape superblock next → HasFields superblock
named-fields shape superblock next named =
    let is = named.named.is_superblock in
    let ring = ring-behind (super_in superblock).s_first (super_in superblock).s_maxlen (accepted-ring shape superblock is.accepted) in
    record {
      long = long-enough shape.block_size (length superblock) is.size (accepted-size shape superblock is.accepted);
      some = accepted-first shape superblock is.accepted;
      ring = ring;
      order = ring-order (super_in superblock).s_first (super_in superblock).s_maxlen ring;
    }

-- the engine of an opened log can run
pub fresh-runs : (shape : Shape) (superblock : List ℕ) (next : ℕ) → IsNextNamed shape superblock next → IsPlain (fresh_engine shape superblock next)
fresh-runs shape superblock next named = fresh-plain shape superblock next named.named named.number
