use Rattle.std.proofs.Common.{arith, ap, ◌≡◌, ◌+◌, ◌≤◌}
use Rattle.checkpoint.specs.declared.version.Version.{Version}
use Rattle.log_ledger.proofs.ledger.Ledger.copy.Goals as goal

-- its transaction is not released
pub batch-batch-requires-clause-unreleased : goal.batch-batch-requires-clause-unreleased
batch-batch-requires-clause-unreleased c =
    let l = c.args.self.now in
    let placed = c.requires.placed.4 in
    let tid = ap (λ (v : Version). v.tid) c.version.view_is in
    let number : c.args.version.tid ≡ l.first + c.requires.placed.1 = c.requires.placed.3 in
    let low : l.released ≤ c.requires.placed.1 = placed.pending.unreleased in
    omega arith
