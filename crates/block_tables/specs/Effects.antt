-- Which effect on each block is the last, over accepted transactions, and when it leaves the block to home.
-- Source: this project's own rule for direct writes, by what journal.rst says of revokes.
use Rattle.std.specs.Prelude.{◌≡◌, ⊤, ℕ, ◌<◌, ◌==◌, if◌then◌else◌, nat_eq, List, [], ◌∷◌, map, Option, Some, None, slice_get, Contains}
use Rattle.std.specs.List.{list_any}
use Rattle.journal_model.specs.declared.entry.Batch.{Batch}
use Rattle.journal_model.specs.declared.entry.Entry.{Entry}
use Rattle.journal_model.specs.declared.entry.Entry.TheVariants.{Copy, Revoke}
use Rattle.block_tables.specs.BlockSet.{has_block}

-- what the last entry of a block does: it copies the block, or revokes it in this transaction
pub data LastEffect : Type 0 where
  Copied : LastEffect
  Revoked : ℕ → LastEffect

pub record EffectsValue : Type 0 where
  pub room : ℕ  -- further entries that can be noted without memory
  pub last : ℕ  -- the number of the last transaction
  pub copied : List (ℕ × List ℕ)  -- the pages of the blocks whose last entry is a copy
  pub revoked : List ℕ  -- the blocks that the last transaction revokes

abbrev pub effect_on : EffectsValue → ℕ → Option LastEffect
effect_on table b =
    if list_any (nat_eq b) table.revoked then Some (Revoked table.last) else if has_block table.copied b then Some Copied else None

-- once its transaction is committed, a revoke leaves its block as if there were no entry
abbrev pub once_committed : Option LastEffect → Option LastEffect
once_committed None = None
once_committed (Some Copied) = Some Copied
once_committed (Some (Revoked tid)) = None

abbrev pub effect_of : ℕ → Entry → LastEffect
effect_of tid (Copy v) = Copied
effect_of tid Revoke = Revoked tid

-- the last effect after a transaction with these entries, by the effect before
abbrev pub last_among : ℕ → List (ℕ × Entry) → ℕ → Option LastEffect → Option LastEffect
last_among tid [] b before = before
last_among tid (e ∷ es) b before = last_among tid es b (if e.0 == b then Some (effect_of tid e.1) else before)

-- the last effect after all of these transactions
abbrev pub last_effect : List Batch → ℕ → Option LastEffect → Option LastEffect
last_effect [] b before = before
last_effect (t ∷ ts) b before = last_effect ts b (last_among t.tid t.entries b before)

-- the effect after all of these transactions, if each was committed before the next one was noted
abbrev pub noted_effect : List Batch → ℕ → Option LastEffect → Option LastEffect
noted_effect [] b before = before
noted_effect (t ∷ ts) b before = noted_effect ts b (last_among t.tid t.entries b (once_committed before))

-- left to home, if exactly the transactions below `next` are committed
abbrev pub IsLeft : Option LastEffect → ℕ → Type 0
IsLeft None next = ⊤
IsLeft (Some Copied) next = ⊥
IsLeft (Some (Revoked tid)) next = tid < next

abbrev pub HasNoEntry : List Batch → ℕ → Type 0
HasNoEntry ts b = (i : ℕ) (t : Batch) → slice_get ts i ≡ Some t → Contains (map (λ e. e.0) t.entries) b → ⊥

pub record HasLast (ts : List Batch) (b : ℕ) (effect : LastEffect) : Type 0 where
  pub index : ℕ
  pub transaction : Batch
  pub stands : slice_get ts index ≡ Some transaction
  pub entry : Entry
  pub has : Contains transaction.entries (b, entry)
  pub is : effect ≡ effect_of transaction.tid entry
  pub last : (j : ℕ) (later : Batch) → index < j → slice_get ts j ≡ Some later → Contains (map (λ e. e.0) later.entries) b → ⊥
