use Rattle.std.proofs.Common.{◌≡◌, ℕ, List, take, ◌∙◌, ap, subst}
use Rattle.std.specs.Prelude.{IfOk}
use Rattle.std.proofs.lemmas.List.{take_min}
use Rattle.journal_model.specs.declared.transaction.Sealed.{Sealed}
use Rattle.journal_model.specs.Transaction.{last_effect}
use Rattle.script_run.specs.LastEntries.{entry_in}
use Rattle.script_run.proofs.last_entries.last_entries.Goals as goal

pub returns : goal.returns
returns c =
    let Noted : List Sealed → Type 0 = λ ts. IfOk c.entries_of.result (λ last. (b : ℕ) → entry_in last b ≡ last_effect b ts) in
    subst Noted (ap (λ n. take n c.args.history.now) c.min.ensures ∙ take_min c.args.n c.args.history.now) c.entries_of.ensures
