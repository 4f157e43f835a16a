use Rattle.std.proofs.Common.{◌∙◌, ◌-◌, ◌/◌, ap, ap₂, ℕ}
use Rattle.std.specs.Int.{div_ceil}
use Rattle.byte_volume.proofs.Refusals.{trim_refused}
use Rattle.byte_volume.proofs.Revokes.{none_of}
use Rattle.byte_volume.proofs.trimming.trim_range.Goals as goal

-- the range ends past 2^64
pub returns-in_default-clause-left : goal.returns-in_default-clause-left
returns-in_default-clause-left g c =
    none_of g.D.Device.state g.D.Device.honest g.J.JournalName.name _ _ c.clear.new.self.items c.clear.ensures.items

-- its blocks were refused
pub returns-clause-err : goal.returns-clause-err
returns-clause-err g c =
    let begins = c.div_ceil-first.ensures ∙ ap (div_ceil c.args.offset) c.block_size-size.ensures.size in
    trim_refused _ _ g.J.JournalName.name.capacity c.args.offset c.args.count _ c.saturating_sub-blocks.result c.trim_blocks.result begins
    (c.saturating_sub-blocks.ensures ∙ ap₂ (λ (m n : ℕ). m - n) (ap₂ (λ (m n : ℕ). m / n) c.in-Some.ensures.1 c.block_size-size.ensures.size) begins)
    c.trim_blocks.ensures.err
