use Rattle.std.proofs.Common.{ap, ◌∙◌, ◌-◌, ℕ}
use Rattle.log_ledger.proofs.Ledgers.{on-blocks}
use Rattle.log_ledger.proofs.ledger.Ledger.blocks_due.Goals as goal

-- its blocks are those that are taken for it
pub returns : goal.returns
returns c = λ shape same.
    ap (λ (n : ℕ). n - c.args.self.now.start) c.head.ensures.head
    ∙ on-blocks c.args.self.now _ c.requires.can_run shape same
