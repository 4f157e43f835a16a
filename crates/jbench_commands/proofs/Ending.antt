-- How commands end.
use Rattle.std.proofs.Common.{◌∙◌, ◌≡◌, List, Option, inl, inr, subst, sym, ℕ}
use Rattle.std.proofs.lemmas.Bool.{false≢true}
use Rattle.std.specs.Prelude.{◌≢◌, ⊤, IfOk, IfSome, IsOk, IsSome, None, Some, Result, Err, Ok}
use Rattle.jbench_words.specs.declared.fault.CommandStatus.{CommandStatus}
use Rattle.jbench_words.specs.declared.fault.CommandStatus.TheVariants.{Fine, Refused, VerdictFalse}
use Rattle.jbench_commands.specs.Runs.{HasTakenEither, IsGoodOf}
use Rattle.jbench_commands.specs.declared.check.Good.{Good}
use Rattle.jbench_commands.specs.declared.check.Good.TheVariants.{Operations, Clients}

-- only a sweep and clients in threads may end with 2
abbrev IsWrong : CommandStatus → Type 0
IsWrong Fine = ⊥
IsWrong Refused = ⊥
IsWrong VerdictFalse = ⊤

pub never-wrong : {E : Type 0} (end : Result CommandStatus E) → IfOk end (λ status. status ≢ Fine → status ≡ Refused) → IfOk end (λ status. status ≡ VerdictFalse → ⊥)
never-wrong (Err e) other = tt
never-wrong (Ok status) other = λ wrong.
    let refused : status ≡ Refused = other (λ (fine : status ≡ Fine). subst IsWrong (sym wrong ∙ fine) tt) in
    subst IsWrong (sym wrong ∙ refused) tt

-- a script that was read is one of its text
pub is-taken : {E : Type 0} (text : List ℕ) (read : Result Good E) → IfOk read (IsGoodOf text) → IsOk read → HasTakenEither text
is-taken text (Ok (Operations script)) is ok = inl (record { script = script; taken = record { is = is.0; limited = is.1 } })
is-taken text (Ok (Clients script)) is ok = inr (record { script = script; is = is.0; servable = is.1 })
is-taken text (Err e) is ok = absurd (false≢true ok)

-- what a successful command leaves
pub some-left : {A : Type 0} (P : A → Type 0) (done : Option A) → IsSome done → IfSome done P → (left : A) × P left
some-left P (Some left) is p = (left, p)
some-left P None is p = absurd (false≢true is)

pub ok-both : {A E C : Type 0} (P Q : A → Type 0) (done : Result A E) → IsOk done → IfOk done P → (C → IfOk done Q) → (left : A) × P left × (C → Q left)
ok-both P Q (Ok left) is p q = (left, p, q)
ok-both P Q (Err e) is p q = absurd (false≢true is)
