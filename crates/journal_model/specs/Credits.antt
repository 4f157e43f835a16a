-- How many further blocks handles may touch.
-- Source: journalling.rst (journal_start and its credits).
use Rattle.std.specs.Prelude.{ℕ, ◌+◌, List, sum}

-- where credits lie, each for the first touch of a home block
pub record Accounts : Type 0 where
  pub values : List ℕ  -- the count of each `Credits` value
  pub handles : List ℕ  -- the credits left to each open handle
  pub entries : ℕ  -- one for each entry of the running transaction
  pub refused : List ℕ  -- what each refused reserve added and has not taken back

abbrev pub credits_held : Accounts → ℕ
credits_held a = sum a.values + sum a.handles + a.entries

abbrev pub credit_word : Accounts → ℕ
credit_word a = credits_held a + sum a.refused
