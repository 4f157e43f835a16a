-- What a device may keep of its last writes.
use Rattle.std.specs.Prelude.{ℕ, zero, suc, ◌+◌, ◌-◌, ◌/◌, ◌%◌, ◌^◌, ◌==◌, List, [], ◌∷◌, ◌++◌, if◌then◌else◌, max, min}

-- how many choices there are among the last four writes up to write `k`, or among all
abbrev pub choices_of : ℕ → ℕ
choices_of k = 2 ^ min k 4

-- the first of these writes
abbrev pub first_of : ℕ → ℕ
first_of k = max (k - 3) 1

-- of `n` writes from `first` on, those whose bit in `choice` is 1; the first write has the lowest bit
abbrev pub kept_from : (first choice : ℕ) → ℕ → List ℕ
kept_from first choice zero = []
kept_from first choice (suc n) = kept_from first choice n ++ (if choice / 2 ^ n % 2 == 1 then (first + n) ∷ [] else [])

-- what this choice keeps of the last four writes up to write `k`
abbrev pub kept_of : (k choice : ℕ) → List ℕ
kept_of k choice = kept_from (first_of k) choice 4
