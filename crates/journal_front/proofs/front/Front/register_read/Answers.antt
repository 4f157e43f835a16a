use Rattle.std.proofs.Common.{ap, subst, sym, ◌∙◌}
use Rattle.journal_model.specs.declared.transaction.Op.TheVariants.{Read}
use Rattle.journal_model.specs.declared.transaction.Step.{Step}
use Rattle.journal_front.specs.FrontView.{KeepsFront}
use Rattle.journal_front.specs.Transaction.{OpenTransaction, noting}
use Rattle.journal_front.proofs.Holding.{open-at}
use Rattle.journal_front.proofs.Noting.{keeps-read}
use Rattle.journal_front.proofs.front.Front.register_read.Goals as goal

pub returns-in_err-reserve-clause-open : goal.returns-in_err-reserve-clause-open
returns-in_err-reserve-clause-open g c = open-at c.args.self.now _ _ c.requires.open_handle.left

pub returns-clause-open : goal.returns-clause-open
returns-clause-open g c = open-at c.args.self.now _ _ c.requires.open_handle.left

-- nothing that is counted changes
pub invariant_of-self-2 : goal.invariant_of-self-2
invariant_of-self-2 g c =
    let f = c.self.inside in
    let step : Step = record { handle = c.number-handle.result; block = c.args.block; op = Read c.args.bytes } in
    let same = c.register.ensures ∙ ap (λ (t : OpenTransaction). noting t step) c.in_ok-reserve.ensures.ok in
    subst (λ (t : OpenTransaction). KeepsFront g.R.Record.transactions g.R.Record.has_room (record f { running = t })) (sym same)
    (keeps-read g.R.Record.transactions g.R.Record.has_room f c.number-handle.result c.args.block c.args.bytes c.self.invariant)
