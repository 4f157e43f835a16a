-- Which copy of a chain a replay gives a block.
-- Source: fs/jbd2/recovery.c and revoke.c by behaviour, stated as a choice among all copies of the chain.
use Rattle.std.specs.Prelude.{◌≡◌, ◌⊎◌, ℕ, ◌<◌, ◌≤◌, List, Some, slice_get, Contains}
use Rattle.log_model.specs.declared.log.Text.{Text}
use Rattle.log_model.specs.Text.{text_copies, text_revokes}
use Rattle.journal_model.specs.Transaction.{Volume}

-- text i or a later one revokes block b
pub record IsCovered (texts : List Text) (i b : ℕ) : Type 0 where
  pub revoker : ℕ
  pub text : Text
  pub not_before : i ≤ revoker
  pub stands : slice_get texts revoker ≡ Some text
  pub revokes : Contains (text_revokes text) b

-- copy k of text i is of block b with these bytes, and is not covered
pub record IsLive (texts : List Text) (b i k : ℕ) (bytes : List ℕ) : Type 0 where
  pub text : Text
  pub stands : slice_get texts i ≡ Some text
  pub copy : slice_get (text_copies text) k ≡ Some (b, bytes)
  pub uncovered : IsCovered texts i b → ⊥

-- the last live copy of block b, in the last transaction that has one
pub record IsNewest (texts : List Text) (b : ℕ) (bytes : List ℕ) : Type 0 where
  pub i : ℕ
  pub k : ℕ
  pub live : IsLive texts b i k bytes
  pub newest : (j m : ℕ) (other : List ℕ) → IsLive texts b j m other → (j < i) ⊎ ((j ≡ i) × (m ≤ k))

abbrev pub HasNoLive : List Text → ℕ → Type 0
HasNoLive texts b = (i k : ℕ) (bytes : List ℕ) → IsLive texts b i k bytes → ⊥

-- each block has its newest live copy, or stays as it was
abbrev pub IsReplayed : ℕ → List Text → Volume → Volume → Type 0
IsReplayed count texts left got =
    (b : ℕ) → b < count → IsNewest texts b (got b) ⊎ (HasNoLive texts b × (got b ≡ left b))
