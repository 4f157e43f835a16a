-- Lemmas: turns in a row.
use Rattle.std.proofs.Common.{◌∙◌, ap}
use Rattle.script_client.specs.Shown.{IsSameButJournal}
use Rattle.script_client.specs.Told.{ClientValue}

-- two calls that change only the journal change only the journal
pub still-same : {D : Type 0} (a b c : ClientValue D) → IsSameButJournal a b → IsSameButJournal b c → IsSameButJournal a c
still-same a b c first second = second ∙ ap (λ (v : ClientValue _). record v { journal = c.journal }) first
