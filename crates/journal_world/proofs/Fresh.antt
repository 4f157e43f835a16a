-- The engine of an opened log is sound.
use Rattle.std.proofs.Common.{refl, sym, subst, arith, inl, length-take, length-drop}
use Rattle.std.specs.Prelude.{◌≡◌, ℕ, ◌+◌, ◌-◌, ◌%◌, ◌<◌, ◌≤◌, List, length, None}
use Rattle.std.proofs.Math.Nat.{mod-lt}
use Rattle.journal_model.specs.declared.number.Area.TheVariants.{Log}
use Rattle.log_model.specs.Chain.{ring_place}
use Rattle.journal_model.specs.Disk.{Disk, IsOneOf, Shape, held}
use Rattle.journal_model.specs.Layout.{uuid_bytes}
use Rattle.log_model.specs.Opening.{greatest_number, layout_of, ring_of}
use Rattle.log_model.specs.Superblock.{Super, super_in, super_refusal}
use Rattle.journal_world.specs.Journal.{fresh_engine}
use Rattle.journal_world.specs.Opening.{IsBehind, IsOpenedLog, NamesNothing}
use Rattle.journal_world.specs.Sound.{IsPlain, Sound}
use Rattle.journal_world.specs.Sound.MayBeSuperblock.{Clean}
use Rattle.journal_world.proofs.Places.{held-durable}
use Rattle.journal_world.proofs.Superblocks.{accepted-layout, accepted-ring, accepted-size}

-- an accepted superblock has a whole UUID
uuid-whole : (shape : Shape) (block : List ℕ) → super_refusal shape block ≡ None → length block ≡ shape.block_size →
    length ((super_in block).s_uuid) ≡ uuid_bytes
uuid-whole shape block accepted size =
    let large : 1024 ≤ shape.block_size = accepted-size shape block accepted in
    simp (length-take, length-drop) (omega arith)

-- each ring block is below the first number
fresh-behind : (shape : Shape) (disk : Disk) (superblock : List ℕ) (next : ℕ) (k : ℕ) (v : List ℕ) → IsOpenedLog shape disk superblock next →
    IsOneOf (held (disk Log (ring_place (ring_of (super_in superblock)) k))) v → IsBehind (next + 0) v
fresh-behind shape disk superblock next k v log one =
    let s : Super = super_in superblock in
    let blocks : 16 ≤ s.s_maxlen - s.s_first = accepted-ring shape superblock log.named.is_superblock.accepted in
    let below : k % (s.s_maxlen - s.s_first) < s.s_maxlen - s.s_first = mod-lt k (omega arith) in
    let behind : IsBehind next v = log.behind (ring_place (ring_of (super_in superblock)) k) v (omega arith) (omega arith) one in
    record { below = λ magic. let low = behind.below magic in omega arith }

-- the engine of an opened log is plain
pub fresh-plain : (shape : Shape) (superblock : List ℕ) (next : ℕ) → NamesNothing shape (layout_of (super_in superblock)) (ring_of (super_in superblock)) next superblock →
    next ≤ greatest_number → IsPlain (fresh_engine shape superblock next)
fresh-plain shape superblock next named number = record {
  layout = accepted-layout shape superblock named.is_superblock.accepted;
  names = named;
  uuid = uuid-whole shape superblock named.is_superblock.accepted named.is_superblock.size;
  batches = tt;
  numbered = tt;
  numbers = omega arith;
  start = refl;
  tail = refl;
  bound_position = refl;
  order = (omega arith, omega arith);
  room = omega arith;
  laps = omega arith;
  stage = (refl, λ clean. refl);
  round = refl;
}

-- the engine of an opened log is sound
pub fresh-sound : (shape : Shape) (disk : Disk) (superblock : List ℕ) (next : ℕ) → IsOpenedLog shape disk superblock next →
    Sound (fresh_engine shape superblock next) disk
fresh-sound shape disk superblock next log = record {
  plain = fresh-plain shape superblock next log.named log.number;
  superblock =
      λ v one.
      Clean (inl refl)
      (subst (NamesNothing shape (layout_of (super_in superblock)) (ring_of (super_in superblock)) next) (sym (held-durable disk 0 superblock v log.durable one)) log.named);
  durable = λ k low below. absurd (omega arith);
  behind = λ k v low high one. inl (fresh-behind shape disk superblock next k v log one);
  stage = tt;
  home = λ i b v newest below. absurd (omega arith);
  round = tt;
}
