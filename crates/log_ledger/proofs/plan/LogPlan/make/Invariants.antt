use Rattle.std.proofs.Common.{◌≡◌, ◌++◌, drop}
use Rattle.journal_model.specs.Transaction.{copied, revoked}
use Rattle.log_ledger.specs.Text.{copies_at}
use Rattle.log_ledger.proofs.plan.LogPlan.make.Given as goal

-- what is noted, and then what is left, are all
abbrev pub invariant-loop-place : goal.invariant-loop-place
invariant-loop-place l =
    record {
      copies : copies_at l.fn.entries l.self.copies.items ++ copied (drop l.place l.entries) ≡ copied l.fn.entries;
      revokes : l.self.revokes.items ++ revoked (drop l.place l.entries) ≡ revoked l.fn.entries;
    }
