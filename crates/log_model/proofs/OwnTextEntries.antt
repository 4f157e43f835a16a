-- Copies and revoked blocks have the numbers of their entries.
use Rattle.std.specs.Prelude.{ℕ, ◌<◌, List, [], ◌∷◌, All}
use Rattle.std.proofs.lemmas.List.Elements.{All-cons, All-head, All-nil, All-tail}
use Rattle.journal_model.specs.declared.entry.Entry.{Entry}
use Rattle.journal_model.specs.declared.entry.Entry.TheVariants.{Copy, Revoke}
use Rattle.journal_model.specs.Transaction.{copied, revoked}

-- copies are below a count, if the entries are
pub copied_below : (count : ℕ) (entries : List (ℕ × Entry)) →
    All (λ p. p.0 < count) entries →
    All (λ c. c.0 < count) (copied entries)
copied_below count [] below = All-nil (λ c. c.0 < count)
copied_below count ((b, Copy v) ∷ es) below =
    let others = copied_below count es (All-tail (λ p. p.0 < count) (b, Copy v) es below) in
    All-cons (λ c. c.0 < count) (b, v) (copied es) (All-head (λ p. p.0 < count) (b, Copy v) es below) others
copied_below count ((b, Revoke) ∷ es) below = copied_below count es (All-tail (λ p. p.0 < count) (b, Revoke) es below)

-- revoked blocks are below a count, if the entries are
pub revoked_below : (count : ℕ) (entries : List (ℕ × Entry)) →
    All (λ p. p.0 < count) entries →
    All (λ b. b < count) (revoked entries)
revoked_below count [] below = All-nil (λ b. b < count)
revoked_below count ((b, Copy v) ∷ es) below = revoked_below count es (All-tail (λ p. p.0 < count) (b, Copy v) es below)
revoked_below count ((b, Revoke) ∷ es) below =
    let others = revoked_below count es (All-tail (λ p. p.0 < count) (b, Revoke) es below) in
    All-cons (λ n. n < count) b (revoked es) (All-head (λ p. p.0 < count) (b, Revoke) es below) others
