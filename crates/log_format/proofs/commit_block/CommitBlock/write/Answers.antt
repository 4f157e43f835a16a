-- The header stands in front, and zeros after it.
use Rattle.std.proofs.Common.{◌≡◌, ℕ, length, arith, refl, ap, sym, ◌∙◌}
use Rattle.journal_model.specs.Layout.{header, commit_type, padded}
use Rattle.log_model.specs.OwnText.{commit_block}
use Rattle.log_format.proofs.Writing.{filled}
use Rattle.log_format.proofs.commit_block.CommitBlock.write.Goals as goal

pub returns : goal.returns
unfolding commit_block
returns c l is =
    let size : length c.write.new.block ≡ length c.args.block.now = omega arith in
    filled c.write.new.block (header commit_type c.args.sequence) c.fill.new.self 12 (omega arith) (rw c.write.ensures refl) (c.fill.ensures.after (λ y h. h))
    ∙ ap (λ (n : ℕ). padded n (header commit_type c.args.sequence)) (size ∙ sym is)
