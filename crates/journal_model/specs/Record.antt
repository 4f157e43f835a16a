-- What a history keeps of its handles: each lies in one transaction, and each read answers the last write.
-- Source: journalling.rst (a handle belongs to one transaction), the GoJournal paper (atomic operations).
use Rattle.std.specs.Prelude.{◌≡◌, ℕ, nat_eq, nat_le, List, ◌∷◌, ◌++◌, count_by, Some, Contains, All}
use Rattle.std.specs.List.{flat_map, list_any, IsDistinct}
use Rattle.journal_model.specs.declared.entry.Entry.TheVariants.{Copy}
use Rattle.journal_model.specs.declared.transaction.Op.TheVariants.{Read}
use Rattle.journal_model.specs.declared.transaction.Step.{Step}
use Rattle.journal_model.specs.Transaction.{History, effect}

abbrev pub steps_of : History → List Step
steps_of ts = flat_map (λ t. t.steps) ts

-- no handle number stands twice, and each step is by a handle of its transaction: so all of a handle's steps
-- lie in one transaction
pub record EachHandleOnce (ts : History) : Type 0 where
  pub once : IsDistinct nat_eq (flat_map (λ t. t.handles) ts)
  pub own : All (λ t. All (λ s. Contains t.handles s.handle) t.steps) ts

-- a read of a block written earlier gave the last write's bytes
abbrev pub IsLegal : History → Type 0
IsLegal ts =
    (before rest : List Step) (h b : ℕ) (v w : List ℕ) →
    steps_of ts ≡ before ++ record { handle = h; block = b; op = Read v } ∷ rest →
    effect b before ≡ Some (Copy w) → v ≡ w

-- the transactions up to the greatest number that a wait or a status acknowledged
abbrev pub acknowledged : List ℕ → History → ℕ
acknowledged answered ts = count_by (λ t. list_any (λ n. nat_le t.tid n) answered) ts
