use Rattle.std.proofs.Common.{ap, ◌∙◌, List, refl, length}
use Rattle.std.proofs.lemmas.Option.{slice_get_read}
use Rattle.checkpoint.specs.declared.copies.QueuedCopy.{QueuedCopy}
use Rattle.checkpoint.specs.Copies.{newest_in}
use Rattle.checkpoint.proofs.Listed.{fresh-before}
use Rattle.checkpoint.proofs.Newest.{newest-behind}
use Rattle.checkpoint.proofs.steps.push_listed.Goals as goal

-- neither the copies before nor the added ones are of the block
pub push-requires-clause-single : goal.push-requires-clause-single
push-requires-clause-single c =
    let item = c.loop-block-item.result in
    let here = slice_get_read c.args.list.now (length c.args.list.now) c.loop-block.block-index item refl c.loop-block-test.true c.loop-block-item.is in
    ap (λ (cs : List QueuedCopy). newest_in cs item.0) c.loop-block.invariant.added
    ∙ newest-behind item.0 c.args.copies.now.copies _ (c.requires.single c.loop-block.block-index item here)
    ∙ fresh-before c.args.tid c.loop-block.block-index c.args.list.now item c.requires.distinct here
