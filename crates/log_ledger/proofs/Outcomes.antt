-- What follows from an answer that is a failure, or a success.
use Rattle.std.specs.Prelude.{◌≡◌, true, false, Result, Ok, Err, MatchResult, OnErr, OnOk, is_err}

-- a fact of failures holds, if the answer is one
pub at-err : {T E P : Type 0} (r : Result T E) → is_err r ≡ true → OnErr r P → P
at-err (Ok x) is p = cc
at-err (Err e) is p = p

-- a fact of successes holds, if the answer is one
pub at-ok : {T E P : Type 0} (r : Result T E) → is_err r ≡ false → OnOk r P → P
at-ok (Ok x) is p = p
at-ok (Err e) is p = cc

-- the count of failures after a failure
pub count-err : {T E : Type 0} (A B : Type 0) (r : Result T E) → is_err r ≡ true → MatchResult r (λ _. A) (λ _. B) → B
count-err A B (Ok x) is p = cc
count-err A B (Err e) is p = p

-- the count of failures after a success
pub count-ok : {T E : Type 0} (A B : Type 0) (r : Result T E) → is_err r ≡ false → MatchResult r (λ _. A) (λ _. B) → A
count-ok A B (Ok x) is p = p
count-ok A B (Err e) is p = cc
