use Rattle.std.proofs.Common.{subst}
use Rattle.std.specs.Prelude.{List, take}
use Rattle.std.proofs.lemmas.List.{take_all}
use Rattle.std.specs.BTreeSet.{keys}
use Rattle.journal_script.specs.Clients.{HasTouched, HasTouchedAll}
use Rattle.journal_script.specs.declared.clients.ClientHandle.{ClientHandle}
use Rattle.journal_script.specs.declared.clients.ClientTouch.{ClientTouch}
use Rattle.journal_script.proofs.Serving.{all-more, touched-all-still}
use Rattle.journal_script.proofs.clients.note_client.Goals as goal

-- those of one more handle are noted
pub loop-handle-preserved : goal.loop-handle-preserved
loop-handle-preserved c =
    let inv = c.loop-handle.invariant in
    let i = c.loop-handle.handle-index in
    let noted = c.in_ok-note_blocks.ensures in
    record {
      keeps = λ b has. noted.keeps b (inv.keeps b has);
      notes = all-more (λ (h : ClientHandle). HasTouched h.touches.items (keys c.note_blocks.new.blocks)) c.args.client.now i c.handle-item.result c.loop-handle-test.true c.handle-item.is
          (touched-all-still (take i c.args.client.now) (keys c.loop-handle.blocks) (keys c.note_blocks.new.blocks) noted.keeps inv.notes)
          (subst (λ (ts : List ClientTouch). HasTouched ts (keys c.note_blocks.new.blocks)) c.deref.ensures.value noted.notes);
    }

-- those of all handles are
pub returns-clause-notes : goal.returns-clause-notes
returns-clause-notes c =
    subst (λ (hs : List ClientHandle). HasTouchedAll hs (keys c.loop-handle.blocks)) (take_all c.loop-handle.handle-index c.args.client.now c.loop-handle-test.false) c.loop-handle.invariant.notes
