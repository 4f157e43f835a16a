use Rattle.std.proofs.Common.{ap₂, ap, sym, ◌∙◌, ◌≡◌, ℕ, List, true, length}
use Rattle.std.proofs.lemmas.List.{with_items_is}
use Rattle.log_model.specs.Superblock.{with_tail}
use Rattle.journal_world.specs.declared.stage.Stage.TheVariants.{SuperblockFlush}
use Rattle.journal_world.proofs.Tails.{length-tail}
use Rattle.log_ledger.specs.Ledger.{engine_of}
use Rattle.log_ledger.proofs.Ledgers.{on-long}
use Rattle.log_ledger.proofs.ledger.Ledger.start_log.Goals as goal

-- the superblock names the place and the number of the transaction
pub returns-clause-stepped : goal.returns-clause-stepped
returns-clause-stepped c = λ shape same.
    let old = c.args.self.now.superblock in
    let before = ap (λ (sb : List ℕ). with_tail sb c.number_due-number.result c.place-start.result) c.deref_mut.ensures.value in
    let size : length c.write.new.block ≡ old.len =
    ap length (c.write.ensures ∙ before) ∙ length-tail old.items c.number_due-number.result c.place-start.result (on-long c.args.self.now _ c.requires.can_run) ∙ sym old.ok.0 in
    let tail = ap₂ (with_tail old.items) c.number_due-number.ensures c.place-start.ensures.place in
    let block = with_items_is old c.write.new.block size ∙ c.write.ensures ∙ before ∙ tail in
    ap (engine_of shape) c.go_to.ensures.stage
    ∙ ap (λ (sb : List ℕ). record (engine_of shape c.args.self.now) { superblock = sb; started = true; stage = SuperblockFlush }) block
