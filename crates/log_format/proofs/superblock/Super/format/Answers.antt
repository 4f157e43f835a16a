-- Header, fields, UUID and zeros stand in a row.
use Rattle.std.proofs.Common.{◌≡◌, ℕ, List, length, arith, refl, ap₂, ◌∙◌}
use Rattle.log_model.specs.Superblock.{formatted_super}
use Rattle.log_format.proofs.Formatting.{formatted}
use Rattle.log_format.proofs.superblock.Super.format.Goals as goal

pub returns : goal.returns
returns c =
    let size : length c.write.new.block ≡ length c.args.block.now = omega arith in
    formatted c.write.new.block _ _ _ c.write_u32_into.new.dst c.copy_from_slice.new.self c.write_u32.new.buf _ c.fill.new.self c.args.maxlen c.args.wide
    (omega arith) (rw c.write.ensures refl) (rw (← c.features_of-features.ensures) c.write_u32_into.ensures) refl (omega arith) refl c.write_u32.ensures (omega arith) refl (c.fill.ensures.after (λ y h. h))
    ∙ ap₂ (λ (n : ℕ) (uuid : List ℕ). formatted_super n c.args.maxlen uuid c.args.wide) size c.copy_from_slice.ensures.after
