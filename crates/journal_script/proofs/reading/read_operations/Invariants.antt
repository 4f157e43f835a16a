use Rattle.std.proofs.Common.{◌≡◌, length, map, take}
use Rattle.serde_json.specs.View.{view}
use Rattle.journal_script.specs.Text.{AreOperations}
use Rattle.journal_script.proofs.reading.read_operations.Given as goal

-- the values up to here are the operations that were read
abbrev pub invariant-loop-value : goal.invariant-loop-value
invariant-loop-value l = record {
  count : length l.operations.items ≡ l.value-index;
  are : AreOperations l.operations.items (map view (take l.value-index l.list));
}
