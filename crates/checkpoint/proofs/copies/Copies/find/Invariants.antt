use Rattle.std.proofs.Common.{◌≡◌, ◌≤◌, ℕ, Some, false, length, map, slice_get}
use Rattle.checkpoint.specs.declared.copies.QueuedCopy.{QueuedCopy}
use Rattle.checkpoint.specs.Chains.{Shows, buckets_of}
use Rattle.checkpoint.specs.Copies.{is_live_of}
use Rattle.checkpoint.proofs.copies.Copies.find.Given as goal

-- below the limit the place is shown, and after it no copy of the block is live
abbrev pub invariant-loop-place : goal.invariant-loop-place
invariant-loop-place l =
    record {
      shown : Shows (buckets_of l.buckets (map (λ k. k.copy) l.self-inside.links.items)) l.bucket l.place l.limit;
      within : l.limit ≤ length l.self-inside.links.items;
      behind : (j : ℕ) (c : QueuedCopy) → l.limit ≤ j → slice_get (map (λ k. k.copy) l.self-inside.links.items) j ≡ Some c → is_live_of l.block c ≡ false;
    }

-- the limit falls
abbrev pub decreases-loop-place : goal.decreases-loop-place
decreases-loop-place l = l.limit
