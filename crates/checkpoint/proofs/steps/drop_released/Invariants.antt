use Rattle.std.proofs.Common.{◌≡◌, ◌-◌, ◌≤◌, ◌<◌, ℕ, Some, drop, length, slice_get}
use Rattle.checkpoint.specs.declared.copies.QueuedCopy.{QueuedCopy}
use Rattle.checkpoint.specs.Copies.{AreCopies}
use Rattle.checkpoint.proofs.steps.drop_released.Given as goal

-- the dropped copies were of transactions up to the bound
abbrev pub invariant-loop-copies : goal.invariant-loop-copies
invariant-loop-copies l =
    record {
      rest : l.copies.copies ≡ drop (l.all - length l.copies.copies) l.fn.copies.copies;
      all : l.all ≡ length l.fn.copies.copies;
      room : l.copies.room ≡ l.fn.copies.room;
      within : length l.copies.copies ≤ l.all;
      below : (k : ℕ) (c : QueuedCopy) → k < l.all - length l.copies.copies → slice_get l.fn.copies.copies k ≡ Some c → c.tid ≤ l.bound;
      kept : AreCopies l.copies;
    }

-- fewer copies are left
abbrev pub decreases-loop-copies : goal.decreases-loop-copies
decreases-loop-copies l = length l.copies.copies
