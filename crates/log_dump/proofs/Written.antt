-- A writer's contents after one part of a text and another.
use Rattle.std.proofs.Common.{◌≡◌, ℕ, List, [], ◌++◌, Option, Some, None, sym, ◌∙◌, ap, append_assoc, append-nil, subst}
use Rattle.std.specs.Io.KnownBytes.{Appends}

-- two texts in order are the joined text
pub appends-joins : (old middle new : Option (List ℕ)) (first second : List ℕ) → Appends old middle first →
    Appends middle new second → Appends old new (first ++ second)
appends-joins None middle new first second one two = tt
appends-joins (Some a) None new first second one two = absurd one
appends-joins (Some a) (Some b) None first second one two = absurd two
appends-joins (Some a) (Some b) (Some c) first second one two =
    two ∙ ap (λ (xs : List ℕ). xs ++ second) one ∙ append_assoc a first second

-- a text may be replaced by an equal one
pub appends-same : (old new : Option (List ℕ)) (text other : List ℕ) → text ≡ other → Appends old new text → Appends old new other
appends-same old new text other same is = subst (Appends old new) same is

-- an unchanged writer appends no text
pub appends-nothing : (old : Option (List ℕ)) → Appends old old []
appends-nothing None = tt
appends-nothing (Some a) = sym (append-nil a)
