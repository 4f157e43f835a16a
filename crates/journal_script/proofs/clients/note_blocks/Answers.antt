use Rattle.std.proofs.Common.{subst}
use Rattle.std.specs.Prelude.{ℕ, List, Contains, take}
use Rattle.std.proofs.lemmas.List.{take_all}
use Rattle.std.specs.BTreeSet.{keys}
use Rattle.journal_script.specs.Clients.{HasTouched, touched}
use Rattle.journal_script.specs.declared.clients.ClientTouch.{ClientTouch}
use Rattle.journal_script.proofs.Serving.{all-more, touched-still}
use Rattle.journal_script.proofs.clients.note_blocks.Goals as goal

-- those of one more touch are noted
pub loop-touch-preserved : goal.loop-touch-preserved
loop-touch-preserved c =
    let inv = c.loop-touch.invariant in
    let i = c.loop-touch.touch-index in
    let noted = c.in_ok-note_block.ensures in
    record {
      keeps = λ b has. noted.keeps b (inv.keeps b has);
      notes = all-more (λ (t : ClientTouch). Contains (keys c.note_block.new.blocks) (touched t)) c.args.touches.now i c.touch-item.result c.loop-touch-test.true c.touch-item.is
          (touched-still (take i c.args.touches.now) (keys c.loop-touch.blocks) (keys c.note_block.new.blocks) noted.keeps inv.notes)
          (subst (λ (b : ℕ). Contains (keys c.note_block.new.blocks) b) c.block.ensures noted.notes);
    }

-- those of all touches are
pub returns-clause-notes : goal.returns-clause-notes
returns-clause-notes c =
    subst (λ (ts : List ClientTouch). HasTouched ts (keys c.loop-touch.blocks)) (take_all c.loop-touch.touch-index c.args.touches.now c.loop-touch-test.false) c.loop-touch.invariant.notes
