-- Each tag stands after those before it, and zeros after the last.
use Rattle.std.proofs.Common.{◌≡◌, ◌<◌, ◌≤◌, ◌++◌, [], ℕ, List, length, take, arith, ap, ap₂, ◌∙◌, length-drop, length-append, length-take}
use Rattle.std.specs.List.{flat_map}
use Rattle.std.proofs.lemmas.List.{take_rest, take_all}
use Rattle.log_model.specs.declared.log.Tag.{Tag}
use Rattle.journal_model.specs.Layout.{header, descriptor_type, padded}
use Rattle.log_model.specs.Descriptor.{descriptor_block, tag_spelling}
use Rattle.log_model.proofs.OwnTextTags.{length-tag_spelling}
use Rattle.log_format.proofs.Writing.{filled, spelled_more, tag_fits, written_more}
use Rattle.log_format.proofs.descriptor.Descriptor.write.Goals as goal

pub write_tag-at-requires-clause-room : goal.write_tag-at-requires-clause-room
write_tag-at-requires-clause-room c =
    let fits = tag_fits c.args.layout c.args.uuid.now c.loop-tag.tag-index c.args.tags.now c.tag-item.result c.requires.taken c.told-uuid c.requires.fit (omega arith) c.tag-item.is in
    rw take_rest (omega (arith, length-drop c.loop-tag.at c.loop-tag.block))

pub loop-tag-preserved : goal.loop-tag-preserved
loop-tag-preserved c =
    let spelling : Tag → List ℕ = tag_spelling c.args.layout c.args.uuid.now in
    let front : List ℕ = header descriptor_type c.args.sequence in
    let long = length-tag_spelling c.args.layout c.args.uuid.now c.tag-item.result (omega arith) c.told-uuid in
    let here : c.loop-tag.tag-index < length c.args.tags.now = omega arith in
    let within : c.loop-tag.at ≤ length c.loop-tag.block = omega (arith, ap length c.loop-tag.invariant.written, length-take c.loop-tag.at c.loop-tag.block) in
    let sum = ap length (spelled_more spelling [] c.args.tags.now c.loop-tag.tag-index c.tag-item.result here c.tag-item.is) in
    record {
      place = omega (arith, sum, length-append (flat_map spelling (take c.loop-tag.tag-index c.args.tags.now)) (spelling c.tag-item.result));
      size = omega arith;
      written =
          written_more c.loop-tag.block (front ++ flat_map spelling (take c.loop-tag.tag-index c.args.tags.now)) (spelling c.tag-item.result) _ c.write_tag-at.new.bytes
          c.loop-tag.at c.write_tag-at.result within c.loop-tag.invariant.written c.write_tag-at.ensures.bytes (omega arith)
          ∙ spelled_more spelling front c.args.tags.now c.loop-tag.tag-index c.tag-item.result here c.tag-item.is;
    }

pub returns : goal.returns
unfolding descriptor_block
returns c =
    let spelling : Tag → List ℕ = tag_spelling c.args.layout c.args.uuid.now in
    let all : take c.loop-tag.tag-index c.args.tags.now ≡ c.args.tags.now = take_all c.loop-tag.tag-index c.args.tags.now (omega arith) in
    let within : c.loop-tag.at ≤ length c.loop-tag.block = omega (arith, ap length c.loop-tag.invariant.written, length-take c.loop-tag.at c.loop-tag.block) in
    filled c.loop-tag.block _ c.fill.new.self c.loop-tag.at within c.loop-tag.invariant.written (c.fill.ensures.after (λ y h. h))
    ∙ ap₂ (λ (n : ℕ) (ts : List Tag). padded n (header descriptor_type c.args.sequence ++ flat_map spelling ts)) (c.loop-tag.invariant.size ∙ c.requires.size) all
