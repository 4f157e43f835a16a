-- Lemmas: the direct writes of operations.
use Rattle.std.proofs.Common.{◌∙◌, ap, inl, inr, ⊎_elim}
use Rattle.std.specs.Prelude.{◌≡◌, ◌⊎◌, ℕ, List, [], ◌∷◌, ◌++◌, Some, Contains}
use Rattle.std.proofs.lemmas.List.Elements.{Contains-append_left, Contains-push, Contains-push_cases}
use Rattle.journal_script.specs.declared.script.Operation.{Operation}
use Rattle.journal_script.specs.Named.{HasDirects, IsDirectOf, direct_in}

module _ (operations : List Operation) (one : Operation) where
  direct-before : (b : ℕ) → IsDirectOf operations b → IsDirectOf (operations ++ one ∷ []) b
  direct-before b is = record { operation = is.operation; one = Contains-append_left operations (one ∷ []) is.operation is.one; writes = is.writes }

  direct-last : (b : ℕ) → direct_in one ≡ Some b → IsDirectOf (operations ++ one ∷ []) b
  direct-last b writes = record { operation = one; one = Contains-push operations one; writes = writes }

  direct-cases : (b : ℕ) → IsDirectOf (operations ++ one ∷ []) b → IsDirectOf operations b ⊎ (direct_in one ≡ Some b)
  direct-cases b is =
      ⊎_elim
      (λ (old : Contains operations is.operation). inl (record { operation = is.operation; one = old; writes = is.writes }))
      (λ (last : one ≡ is.operation). inr (ap direct_in last ∙ is.writes))
      (Contains-push_cases operations one is.operation is.one)

  -- with one more operation, the list grows by its direct write, if any
  pub directs-more : (old new : List ℕ) → HasDirects operations old → ((b : ℕ) → Contains old b → Contains new b) → ((b : ℕ) → direct_in one ≡ Some b → Contains new b)
      → ((b : ℕ) → Contains new b → Contains old b ⊎ (direct_in one ≡ Some b)) → HasDirects (operations ++ one ∷ []) new
  directs-more old new has keeps notes no_others = record {
    all = λ b is.
        ⊎_elim (λ (before : IsDirectOf operations b). keeps b (has.all b before)) (λ (last : direct_in one ≡ Some b). notes b last) (direct-cases b is);
    only = λ b there.
        ⊎_elim
        (λ (before : Contains old b). direct-before b (has.only b before))
        (λ (last : direct_in one ≡ Some b). direct-last b last)
        (no_others b there);
  }
