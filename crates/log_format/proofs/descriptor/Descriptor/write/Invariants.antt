-- The header and the tags so far stand before the place.
use Rattle.std.proofs.Common.{◌≡◌, ◌+◌, ◌++◌, length, take}
use Rattle.std.specs.List.{flat_map}
use Rattle.journal_model.specs.Layout.{descriptor_type, header}
use Rattle.log_model.specs.Descriptor.{tag_spelling}
use Rattle.log_format.proofs.descriptor.Descriptor.write.Given as goal

abbrev pub invariant-loop-tag : goal.invariant-loop-tag
invariant-loop-tag l = record {
  place : l.at ≡ 12 + length (flat_map (tag_spelling l.layout l.uuid) (take l.tag-index l.tags));
  size : length l.block ≡ length l.fn.block;
  written : take l.at l.block ≡ header descriptor_type l.sequence ++ flat_map (tag_spelling l.layout l.uuid) (take l.tag-index l.tags);
}
