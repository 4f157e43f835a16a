-- The last operation on each block that left an entry, as a map.
use Rattle.std.specs.Prelude.{ℕ, Option, Some, None}
use Rattle.std.specs.Borrow.{Bor}
use Rattle.std.specs.BTreeMap.{BTreeMap, get}
use Rattle.std.specs.Ordering.{nat_cmp}
use Rattle.journal_model.specs.declared.entry.Entry.{Entry}
use Rattle.journal_model.specs.declared.transaction.Op.{Op}
use Rattle.journal_model.specs.Transaction.{entry_of}

-- the entry that such an operation left
abbrev pub entry_left : Option (Bor Op) → Option Entry
entry_left None = None
entry_left (Some op) = entry_of op.now

-- the entry of a block, by the map
abbrev pub entry_in : BTreeMap ℕ (Bor Op) → ℕ → Option Entry
entry_in last b = entry_left (get nat_cmp last b)
