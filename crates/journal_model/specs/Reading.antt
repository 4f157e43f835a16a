-- What a read must answer, and when a block may be written directly.
-- Source: journalling.rst (handles see the running transaction), this project's own rule for direct writes.
use Rattle.std.specs.Prelude.{◌≡◌, ℕ, List, drop, Option, Some, None, Result, Ok, Err}
use Rattle.journal_model.specs.declared.entry.Content.TheVariants.{Direct}
use Rattle.journal_model.specs.declared.entry.Entry.{Entry}
use Rattle.journal_model.specs.declared.entry.Entry.TheVariants.{Copy, Revoke}
use Rattle.journal_model.specs.declared.refusal.JournalError.{JournalError}
use Rattle.journal_model.specs.declared.refusal.JournalError.TheVariants.{Revoked}
use Rattle.journal_model.specs.Transaction.{History, last_effect, after}

-- by the block's last effect in all transactions, its last effect in the unfinished ones, and what home
-- reads
abbrev pub answer_of : Option Entry → Option Entry → List ℕ → Result (List ℕ) JournalError
answer_of (Some (Copy v)) unfinished home = Ok v
answer_of (Some Revoke) (Some e) home = Err Revoked
answer_of (Some Revoke) None home = Ok home
answer_of None unfinished home = Ok home

-- what a read of block b must answer: the last copy; a refusal, if the last effect is a revoke in an
-- unfinished transaction; else home
abbrev pub seen : History → ℕ → ℕ → List ℕ → Result (List ℕ) JournalError
seen ts finished b home = answer_of (last_effect b ts) (last_effect b (drop finished ts)) home

-- the committed transactions together leave no copy of block b, and no unfinished one has an entry of it
pub record HasDirectRight (ts : History) (committed finished b : ℕ) : Type 0 where
  pub home : after ts committed b ≡ Direct
  pub untouched : last_effect b (drop finished ts) ≡ None
