-- How the steps of a commit and of a release change copies in order.
use Rattle.std.specs.Prelude.{◌≡◌, ℕ, ◌+◌, ◌<◌, ◌≤◌, true, false, List, [], ◌∷◌, length, map, Some, slice_get}
use Rattle.journal_model.specs.declared.entry.Entry.{Entry}
use Rattle.journal_model.specs.declared.entry.Entry.TheVariants.{Copy, Revoke}
use Rattle.checkpoint.specs.declared.copies.QueuedCopy.{QueuedCopy}
use Rattle.checkpoint.specs.Copies.{withdrawn}

abbrev pub withdrawn_all : List ℕ → List QueuedCopy → List QueuedCopy
withdrawn_all [] cs = cs
withdrawn_all (b ∷ bs) cs = withdrawn_all bs (map (withdrawn b) cs)

-- the blocks of copies with their places; the first entry has place k
abbrev pub places_of : ℕ → List (ℕ × Entry) → List (ℕ × ℕ)
places_of k [] = []
places_of k ((b, Copy v) ∷ es) = (b, k) ∷ places_of (k + 1) es
places_of k ((b, Revoke) ∷ es) = places_of (k + 1) es

abbrev pub fresh : ℕ → ℕ × ℕ → QueuedCopy
fresh tid p = record { tid = tid; block = p.0; place = p.1; live = true }

-- live at place k, or k is the end
pub record IsAtLive (cs : List QueuedCopy) (k : ℕ) : Type 0 where
  pub within : k ≤ length cs
  pub live : (c : QueuedCopy) → slice_get cs k ≡ Some c → c.live ≡ true

-- none is live from i to before j
pub record AreDead (cs : List QueuedCopy) (i j : ℕ) : Type 0 where
  pub dead : (k : ℕ) (c : QueuedCopy) → i ≤ k → k < j → slice_get cs k ≡ Some c → c.live ≡ false

-- the first n copies are of transactions up to the bound, the next is not
pub record Releases (bound : ℕ) (cs : List QueuedCopy) (n : ℕ) : Type 0 where
  pub within : n ≤ length cs
  pub below : (k : ℕ) (c : QueuedCopy) → k < n → slice_get cs k ≡ Some c → c.tid ≤ bound
  pub above : (c : QueuedCopy) → slice_get cs n ≡ Some c → bound < c.tid
