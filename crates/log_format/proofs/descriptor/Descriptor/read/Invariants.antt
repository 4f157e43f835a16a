-- The tags so far begin the block, and the others begin at the place.
use Rattle.std.proofs.Common.{◌≤◌, ◌+◌, ◌*◌, length, take, drop}
use Rattle.journal_model.specs.Layout.{tag_bytes}
use Rattle.log_format.specs.Size.{count_of}
use Rattle.log_format.proofs.Reading.{Reads}
use Rattle.log_format.proofs.descriptor.Descriptor.read.Given as goal

abbrev pub invariant-loop-count : goal.invariant-loop-count
invariant-loop-count l = record {
  passed : 12 + l.count * tag_bytes l.layout ≤ l.at;
  within : l.at ≤ length l.block;
  reads : Reads l.layout (count_of l.layout l.home_blocks) (drop 12 l.block) (drop l.at l.block) (take l.count l.tags);
}
