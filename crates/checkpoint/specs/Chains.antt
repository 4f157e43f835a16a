-- How the chains of links lead to each block's copies.
use Rattle.std.specs.Prelude.{◌≡◌, ℕ, ◌^◌, ◌<◌, ◌≤◌, List, length, map, Some, slice_get}
use Rattle.std.specs.VecDeque.{deque_capacity}
use Rattle.checkpoint.specs.declared.copies.Copies.TheInside.{Inside}
use Rattle.checkpoint.specs.declared.copies.Link.{Link}
use Rattle.checkpoint.specs.declared.copies.QueuedCopy.{QueuedCopy}
use Rattle.checkpoint.specs.Places.{place_of}
use Rattle.checkpoint.specs.Copies.{AreCopies, CopiesValue, bucket_of}

abbrev pub copies_of : Inside → CopiesValue
copies_of c = record { room = c.room; copies = map (λ l. l.copy) c.links.items }

-- if bucket h has links below the limit, the last of them is at `place`
pub record Shows (buckets : List ℕ) (h place limit : ℕ) : Type 0 where
  pub shows : (j : ℕ) → j < limit → slice_get buckets j ≡ Some h → (j ≤ place) × (place < limit) × (slice_get buckets place ≡ Some h)

-- each bucket's number leads to its last link, and each link's to the one before in its bucket
pub record IsChained (buckets befores lasts : List ℕ) (first : ℕ) : Type 0 where
  pub lasts_show : (h number : ℕ) → slice_get lasts h ≡ Some number → Shows buckets h (place_of first number) (length buckets)
  pub befores_show : (k h number : ℕ) → slice_get buckets k ≡ Some h → slice_get befores k ≡ Some number → Shows buckets h (place_of first number) k

abbrev pub buckets_of : ℕ → List QueuedCopy → List ℕ
buckets_of n copies = map (λ c. bucket_of n c.block) copies

abbrev pub befores_of : List Link → List ℕ
befores_of links = map (λ l. l.before) links

-- room is reserved, there are buckets, and the chains lead to every link
pub record KeepsCopies (c : Inside) : Type 0 where
  pub copies : AreCopies (copies_of c)
  pub reserved : c.room ≤ deque_capacity c.links
  pub fits : c.first < 2 ^ 64
  pub some : 0 < length c.lasts.items
  pub chained : IsChained (buckets_of (length c.lasts.items) (map (λ l. l.copy) c.links.items)) (befores_of c.links.items) c.lasts.items c.first
