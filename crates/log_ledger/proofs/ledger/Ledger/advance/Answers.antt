use Rattle.std.proofs.Common.{sym, ap, subst, ◌∙◌, ◌≡◌}
use Rattle.journal_world.specs.declared.stage.Stage.{Stage}
use Rattle.journal_world.specs.declared.stage.Stage.TheVariants.{SuperblockFlush}
use Rattle.journal_world.specs.Engine.{Engine, stepped_from}
use Rattle.log_ledger.specs.declared.progress.Progress.{Progress}
use Rattle.log_ledger.specs.declared.ledger.Ledger.{Ledger}
use Rattle.log_ledger.specs.Steps.{IsProgress}
use Rattle.log_ledger.specs.Ledger.{engine_of}
use Rattle.log_ledger.proofs.Advancing.{steps-on}
use Rattle.log_ledger.proofs.Running.{superblock-of}
use Rattle.log_ledger.proofs.ledger.Ledger.advance.Goals as goal

-- the superblock names the log's first transaction
pub returns-in-SuperblockWrite-clause-stepped : goal.returns-in-SuperblockWrite-clause-stepped
returns-in-SuperblockWrite-clause-stepped c = λ shape same.
    c.start_log.ensures.stepped shape same ∙ ap (stepped_from (engine_of shape c.args.self.now)) (sym c.in-SuperblockWrite.is)

-- another step is due
pub returns-in-SuperblockWrite-clause-progress : goal.returns-in-SuperblockWrite-clause-progress
returns-in-SuperblockWrite-clause-progress c = λ busy shape.
    let on = c.requires.can_run in
    let now : c.start_log.new.self.stage ≡ SuperblockFlush = ap (λ (e : Engine). e.stage) (c.start_log.ensures.stepped on.shape (sym on.size_is)) in
    subst (λ (p : Progress). IsProgress p (engine_of shape c.args.self.now) (engine_of shape c.start_log.new.self)) (sym c.start_log.ensures.step) (λ idle. cc)

-- the ledger can run
pub returns-in-SuperblockWrite-clause-runs : goal.returns-in-SuperblockWrite-clause-runs
returns-in-SuperblockWrite-clause-runs c = λ shape runs.
    let size = (superblock-of (engine_of shape c.args.self.now) runs.plain).size in
    steps-on shape c.args.self.now c.start_log.new.self (λ idle. cc) (λ last. cc)
    (c.start_log.ensures.stepped shape (sym size) ∙ ap (stepped_from (engine_of shape c.args.self.now)) (sym c.in-SuperblockWrite.is))
    c.start_log.ensures.ring c.start_log.ensures.pending c.start_log.ensures.kept runs

-- it can run after the flush of the superblock
pub returns-in-SuperblockFlush-clause-runs : goal.returns-in-SuperblockFlush-clause-runs
returns-in-SuperblockFlush-clause-runs c = λ shape runs.
    steps-on shape c.args.self.now c.go_to.new.self (λ idle. cc) (λ last. cc)
    (ap (engine_of shape) c.go_to.ensures.stage ∙ ap (stepped_from (engine_of shape c.args.self.now)) (sym c.in-SuperblockFlush.is))
    (ap (λ (l : Ledger). l.ring) c.go_to.ensures.stage) (ap (λ (l : Ledger). l.pending) c.go_to.ensures.stage) (ap (λ (l : Ledger). l.kept.items) c.go_to.ensures.stage) runs

-- it can run after a block
pub returns-in-Blocks-clause-runs : goal.returns-in-Blocks-clause-runs
returns-in-Blocks-clause-runs c = λ shape runs.
    let e = engine_of shape c.args.self.now in
    let size = (superblock-of e runs.plain).size in
    let stage = c.after_block-next.ensures shape (sym size) in
    steps-on shape c.args.self.now c.go_to-in-Blocks.new.self (λ idle. cc) (λ last. cc)
    (ap (engine_of shape) c.go_to-in-Blocks.ensures.stage ∙ ap (λ (s : Stage). record e { stage = s }) stage ∙ ap (stepped_from e) (sym c.in-Blocks.is))
    (ap (λ (l : Ledger). l.ring) c.go_to-in-Blocks.ensures.stage) (ap (λ (l : Ledger). l.pending) c.go_to-in-Blocks.ensures.stage) (ap (λ (l : Ledger). l.kept.items) c.go_to-in-Blocks.ensures.stage) runs

-- it can run after the commit block
pub returns-in-CommitWrite-clause-runs : goal.returns-in-CommitWrite-clause-runs
returns-in-CommitWrite-clause-runs c = λ shape runs.
    steps-on shape c.args.self.now c.go_to-in-CommitWrite.new.self (λ idle. cc) (λ last. cc)
    (ap (engine_of shape) c.go_to-in-CommitWrite.ensures.stage ∙ ap (stepped_from (engine_of shape c.args.self.now)) (sym c.in-CommitWrite.is))
    (ap (λ (l : Ledger). l.ring) c.go_to-in-CommitWrite.ensures.stage) (ap (λ (l : Ledger). l.pending) c.go_to-in-CommitWrite.ensures.stage) (ap (λ (l : Ledger). l.kept.items) c.go_to-in-CommitWrite.ensures.stage) runs
