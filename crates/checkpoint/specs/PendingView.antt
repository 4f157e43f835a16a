-- How contracts see the fields of pending copies, and what these keep true.
use Rattle.std.specs.Prelude.{ℕ, ◌≤◌, if◌then◌else◌, List, [], ◌∷◌, map, filter, drop, vec_capacity}
use Rattle.std.specs.FinMap.{FinMap, empty, insert}
use Rattle.std.specs.Ordering.{nat_cmp}
use Rattle.checkpoint.specs.declared.copies.QueuedCopy.{QueuedCopy}
use Rattle.checkpoint.specs.declared.pending.Pending.TheInside.{Inside}
use Rattle.checkpoint.specs.declared.version.Version.{Version}
use Rattle.checkpoint.specs.Copies.{AreCopies, version_of}
use Rattle.checkpoint.specs.Pending.{IsOrdered, PendingValue}
use Rattle.checkpoint.specs.Steps.{AreDead, IsAtLive}

abbrev pub newest_map : List QueuedCopy → FinMap nat_cmp Version
newest_map [] = empty
newest_map (c ∷ cs) = if c.live then insert (newest_map cs) c.block (version_of c) else newest_map cs

abbrev pub key_of : QueuedCopy → ℕ × ℕ
key_of c = (c.tid, c.block)

abbrev pub live_from : ℕ → List QueuedCopy → List QueuedCopy
live_from k cs = filter (λ c. c.live) (drop k cs)

abbrev pub pending_of : Inside → PendingValue
pending_of p = record {
  room = p.copies.room;
  newest = newest_map p.copies.copies;
  queue = map key_of p.copies.copies;
  unwritten = map key_of (live_from p.unwritten p.copies.copies);
}

-- copies in order, room for a commit's list, both places at live copies or the end, and none live before the front
pub record KeepsPending (p : Inside) : Type 0 where
  pub copies : AreCopies p.copies
  pub ordered : IsOrdered (map key_of p.copies.copies)
  pub reserved : p.copies.room ≤ vec_capacity p.added
  pub before_front : AreDead p.copies.copies 0 p.front
  pub front : IsAtLive p.copies.copies p.front
  pub unwritten : IsAtLive p.copies.copies p.unwritten
