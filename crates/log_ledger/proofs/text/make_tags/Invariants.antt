use Rattle.std.proofs.Common.{◌≡◌, true, length, take}
use Rattle.log_model.specs.OwnText.{tags_from}
use Rattle.log_ledger.specs.Text.{copies_at}
use Rattle.log_ledger.proofs.text.make_tags.Given as goal

-- the tags before this one are those of the copies before it
abbrev pub invariant-loop-i : goal.invariant-loop-i
invariant-loop-i l = (length l.tags ≡ length l.places) × (take l.i l.tags ≡ take l.i (tags_from true (copies_at l.entries l.places)))
