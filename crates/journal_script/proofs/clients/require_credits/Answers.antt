use Rattle.std.proofs.Common.{arith, subst}
use Rattle.std.specs.Prelude.{List}
use Rattle.std.specs.BTreeSet.{keys}
use Rattle.journal_script.specs.Clients.{HasTouched}
use Rattle.journal_script.specs.declared.clients.ClientTouch.{ClientTouch}
use Rattle.journal_script.proofs.clients.require_credits.Goals as goal

-- the blocks that were noted are those
pub returns-then-len-handle : goal.returns-then-len-handle
returns-then-len-handle c = record {
  different = keys c.note_blocks.new.blocks;
  enough = omega (arith, c.len.ensures.len, c.if-len-handle.true);
  has = subst (λ (ts : List ClientTouch). HasTouched ts (keys c.note_blocks.new.blocks)) c.deref.ensures.value c.in_ok-note_blocks.ensures.notes;
}
