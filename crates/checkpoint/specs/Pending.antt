-- What contracts see of pending copies, and how a commit and a release change them.
use Rattle.std.specs.Prelude.{◌≡◌, ◌⊎◌, ⊤, ℕ, ◌<◌, ◌≤◌, ◌==◌, Bool, false, not, if◌then◌else◌, nat_lt, List, [], ◌∷◌, ◌++◌, length, map, filter, Option, Some, None, refl, slice_get}
use Rattle.std.specs.Coded.{Coded, code_by, coded×, coded_ℕ, coded_list}
use Rattle.std.specs.FinMap as fin_map
use Rattle.std.specs.FinMap.{FinMap}
use Rattle.std.specs.List.{AllByRecursion, Contains, list_any}
use Rattle.std.specs.List.Sorted.{IsPermutation}
use Rattle.std.specs.Ordering.{nat_cmp}
use Rattle.journal_model.specs.declared.entry.Entry.{Entry}
use Rattle.journal_model.specs.declared.entry.Entry.TheVariants.{Copy, Revoke}
use Rattle.journal_model.specs.Transaction.{copied}
use Rattle.checkpoint.specs.declared.version.Version.{Version}

pub record PendingValue : Type 0 where
  pub room : ℕ  -- the most copies
  pub newest : FinMap nat_cmp Version  -- where each block's newest committed, unreleased copy stands
  pub queue : List (ℕ × ℕ)  -- transaction and block of each committed, unreleased copy
  pub unwritten : List (ℕ × ℕ)  -- transaction and block of each pending copy not yet written home

abbrev pub newest_of : PendingValue → ℕ → Option Version
newest_of p b = fin_map.get p.newest b

-- keys are ordered by transaction, then block
abbrev pub Before : ℕ × ℕ → ℕ × ℕ → Type 0
Before k l = (k.0 < l.0) ⊎ ((k.0 ≡ l.0) × (k.1 < l.1))

abbrev pub IsOrdered : List (ℕ × ℕ) → Type 0
IsOrdered [] = ⊤
IsOrdered (k ∷ ks) = AllByRecursion (Before k) ks × IsOrdered ks

-- keys in order and within the room, a key for each pending copy, and each copy to write home the newest of its block,
-- in order too
pub record ArePending (p : PendingValue) : Type 0 where
  pub ordered : IsOrdered p.queue
  pub few : length p.queue ≤ p.room
  pub queued : (b : ℕ) (v : Version) → newest_of p b ≡ Some v → Contains p.queue (v.tid, b)
  pub pending : (t b : ℕ) → Contains p.unwritten (t, b) → (v : Version) × (newest_of p b ≡ Some v) × (v.tid ≡ t)
  pub ordered_unwritten : IsOrdered p.unwritten

abbrev pub is_touched : List (ℕ × Entry) → ℕ → Bool
is_touched entries b = list_any (λ e. e.0 == b) entries

pub record IsCommitted (old : PendingValue) (entries : List (ℕ × Entry)) (tid : ℕ) (new : PendingValue) : Type 0 where
  pub room : new.room ≡ old.room
  -- a copied block has that copy, a revoked block none, and other blocks keep theirs
  pub copies : (k b : ℕ) (v : List ℕ) → slice_get entries k ≡ Some (b, Copy v) → newest_of new b ≡ Some (record { tid = tid; place = k })
  pub revokes : (k b : ℕ) → slice_get entries k ≡ Some (b, Revoke) → newest_of new b ≡ None
  pub others : (b : ℕ) → is_touched entries b ≡ false → newest_of new b ≡ newest_of old b
  -- the copies' keys, by block, go to the ends of both lists; unwritten copies of touched blocks leave
  pub added : List (ℕ × ℕ)
  pub keys : IsPermutation (map (λ c. (tid, c.0)) (copied entries)) added
  pub ordered : IsOrdered added
  pub queue : new.queue ≡ old.queue ++ added
  pub unwritten : new.unwritten ≡ filter (λ k. not (is_touched entries k.1)) old.unwritten ++ added

-- no copy, if its transaction is at most the bound
abbrev pub unreleased : ℕ → Option Version → Option Version
unreleased bound None = None
unreleased bound (Some v) = if nat_lt bound v.tid then Some v else None

pub record IsReleased (old : PendingValue) (bound : ℕ) (new : PendingValue) : Type 0 where
  pub room : new.room ≡ old.room
  pub newest : (b : ℕ) → newest_of new b ≡ unreleased bound (newest_of old b)
  pub queue : new.queue ≡ filter (λ k. nat_lt bound k.0) old.queue
  pub unwritten : new.unwritten ≡ filter (λ k. nat_lt bound k.0) old.unwritten

-- the lowest transaction with a pending copy
pub record IsOldest (p : PendingValue) (t : ℕ) : Type 0 where
  pub pending : (b : ℕ) × ((v : Version) × (newest_of p b ≡ Some v) × (v.tid ≡ t))
  pub least : (b : ℕ) (v : Version) → newest_of p b ≡ Some v → t ≤ v.tid

abbrev pub version_code : Coded Version
version_code = code_by (ℕ × ℕ) (coded× coded_ℕ coded_ℕ) (λ v. (v.tid, v.place)) (λ p. record { tid = p.0; place = p.1 }) (λ _. refl)

abbrev pub pending_code : Coded PendingValue
pending_code =
    code_by (ℕ × (FinMap nat_cmp Version × (List (ℕ × ℕ) × List (ℕ × ℕ))))
    (coded× coded_ℕ (coded× (fin_map.code coded_ℕ version_code) (coded× (coded_list (coded× coded_ℕ coded_ℕ)) (coded_list (coded× coded_ℕ coded_ℕ)))))
    (λ p. (p.room, (p.newest, (p.queue, p.unwritten))))
    (λ t. record { room = t.0; newest = t.1.0; queue = t.1.1.0; unwritten = t.1.1.1 })
    (λ _. refl)
