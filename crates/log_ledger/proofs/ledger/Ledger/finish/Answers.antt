use Rattle.std.proofs.Common.{ap, refl, sym, subst, ◌∙◌, ◌+◌, ◌<◌, ◌≤◌, ℕ, List, length, map, nat_eq}
use Rattle.std.specs.List.{AllByRecursion, IsDistinct}
use Rattle.checkpoint.specs.Pending.{IsCommitted}
use Rattle.journal_model.specs.declared.entry.Entry.{Entry}
use Rattle.journal_model.specs.Transaction.{copied}
use Rattle.journal_world.specs.declared.stage.Stage.TheVariants.{CommitFlush}
use Rattle.journal_world.specs.Engine.{due_blocks, stepped_from}
use Rattle.log_ledger.specs.Ledger.{engine_of}
use Rattle.log_ledger.proofs.Advancing.{finishes}
use Rattle.log_ledger.proofs.Ledgers.{on-commit, on-distinct, on-kept, on-unreleased, on-within}
use Rattle.log_ledger.proofs.ledger.Ledger.finish.Goals as goal

-- it is not released
pub overflow_sub-self : goal.overflow_sub-self
overflow_sub-self c = on-unreleased c.args.self.now _ c.requires.can_run

-- so it is kept
pub index-batch-requires : goal.index-batch-requires
index-batch-requires c = on-within c.args.self.now _ c.requires.can_run (λ idle. cc)

-- its entries are of different blocks
pub commit-requires-clause-distinct : goal.commit-requires-clause-distinct
commit-requires-clause-distinct c =
    let l = c.args.self.now in
    let on = c.requires.can_run in
    let there = on-kept l _ on c.index-batch.result.now (λ idle. cc) c.index-batch.ensures in
    subst (λ (es : List (ℕ × Entry)). IsDistinct nat_eq (map (λ e. e.0) es)) (sym c.as_slice.ensures)
    (on-distinct l _ on c.index-batch.result.now there)

-- their transaction is later than each before
pub commit-requires-clause-later : goal.commit-requires-clause-later
commit-requires-clause-later c =
    let l = c.args.self.now in
    let on = c.requires.can_run in
    let there = on-kept l _ on c.index-batch.result.now (λ idle. cc) c.index-batch.ensures in
    subst (λ (n : ℕ). AllByRecursion (λ k. k.0 < n) l.pending.queue) (sym c.number_due-number.ensures)
    (on-commit l _ on c.index-batch.result.now c.requires.stage there).0

-- there is room for their copies
pub commit-requires-clause-room : goal.commit-requires-clause-room
commit-requires-clause-room c =
    let l = c.args.self.now in
    let on = c.requires.can_run in
    let there = on-kept l _ on c.index-batch.result.now (λ idle. cc) c.index-batch.ensures in
    subst (λ (es : List (ℕ × Entry)). length l.pending.queue + length (copied es) ≤ l.pending.room) (sym c.as_slice.ensures)
    (on-commit l _ on c.index-batch.result.now c.requires.stage there).1

-- it is one step further
pub returns-clause-stepped : goal.returns-clause-stepped
returns-clause-stepped c = λ shape same.
    let l = c.args.self.now in
    let on = c.requires.can_run in
    let size = sym on.size_is ∙ sym same in
    let start = c.head-self.ensures.head ∙ on.runs.taken.head
    ∙ ap (λ (n : ℕ). l.start + length (due_blocks (engine_of (record shape { block_size = n }) l))) size in
    ap (λ (n : ℕ). record (stepped_from (engine_of shape l) CommitFlush) { start = n }) start

-- the ledger can run then
pub returns-clause-runs : goal.returns-clause-runs
returns-clause-runs c = λ shape runs.
    let l = c.args.self.now in
    let on = c.requires.can_run in
    let there = on-kept l _ on c.index-batch.result.now (λ idle. cc) c.index-batch.ensures in
    let start = c.head-self.ensures.head ∙ runs.taken.head in
    finishes shape l _ c.index-batch.result.now c.requires.stage there
    (ap (λ (n : ℕ). record (stepped_from (engine_of shape l) CommitFlush) { start = n }) start)
    refl c.head-self.ensures.head
    (subst (λ (n : ℕ). IsCommitted l.pending c.index-batch.result.now.entries n c.commit.new.self) c.number_due-number.ensures
    (subst (λ (es : List (ℕ × Entry)). IsCommitted l.pending es c.number_due-number.result c.commit.new.self) c.as_slice.ensures c.commit.ensures.committed))
    c.commit.ensures.kept refl runs
