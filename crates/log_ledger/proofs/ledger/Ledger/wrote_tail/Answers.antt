use Rattle.std.proofs.Common.{sym, ap, ap₂, subst, ◌∙◌, ◌≡◌, ℕ, List, length}
use Rattle.std.proofs.lemmas.List.{with_items_is}
use Rattle.log_model.specs.Superblock.{with_tail}
use Rattle.log_format.specs.Size.{IsBlockSize}
use Rattle.journal_world.specs.declared.round.Round.TheVariants.{TailFlush, TailWrite}
use Rattle.journal_world.specs.Checkpoint.{tail_superblock}
use Rattle.journal_world.specs.Checkpoint.RoundCall.{WriteTail}
use Rattle.journal_world.proofs.Tails.{length-tail}
use Rattle.log_ledger.specs.declared.ledger.Ledger.{Ledger}
use Rattle.log_ledger.specs.Ledger.{HasKept, KeepsPending, engine_of}
use Rattle.log_ledger.proofs.Pendings.{tail-keeps}
use Rattle.log_ledger.proofs.Rounds.{gone, round-long, round-size}
use Rattle.log_ledger.proofs.ledger.Ledger.wrote_tail.Goals as goal

-- the superblock is one block
pub write-requires : goal.write-requires
write-requires c =
    let size = round-size c.args.self.now _ c.requires.can_run in
    subst (λ (sb : List ℕ). IsBlockSize (length sb)) (sym c.deref_mut.ensures.value) size

-- the superblock names the place after the round's transactions
pub returns-clause-gone : goal.returns-clause-gone
returns-clause-gone c = λ shape runs.
    let l = c.args.self.now in
    let old = l.superblock in
    let before = ap (λ (sb : List ℕ). with_tail sb c.number_behind-number.result c.new_tail-start.result) c.deref_mut.ensures.value in
    let size : length c.write.new.block ≡ old.len =
    ap length (c.write.ensures ∙ before)
    ∙ length-tail old.items c.number_behind-number.result c.new_tail-start.result (round-long l _ c.requires.can_run) ∙ sym old.ok.0 in
    let tail = ap₂ (with_tail old.items) c.number_behind-number.ensures c.new_tail-start.ensures in
    let block = with_items_is old c.write.new.block size ∙ c.write.ensures ∙ before ∙ tail in
    let e = engine_of shape l in
    let is = ap (engine_of shape) c.go_round.ensures.round
    ∙ ap (λ (sb : List ℕ). record e { superblock = sb; round = TailFlush }) block in
    let now = tail-keeps e l.pending (tail_superblock e) c.requires.round runs.pending in
    let pending = subst (KeepsPending (record e { superblock = tail_superblock e; round = TailFlush }))
    (sym (ap (λ (m : Ledger). m.pending) c.go_round.ensures.round)) now in
    gone shape l c.go_round.new.self TailWrite _ _ runs c.requires.round (λ none. cc) WriteTail is
    (ap (λ (m : Ledger). m.ring.head) c.go_round.ensures.round) pending (subst HasKept (sym c.go_round.ensures.round) runs.kept)
