use Rattle.std.specs.Prelude.{ℕ, ◌<◌, All}
use Rattle.std.specs.BTreeSet.{keys}
use Rattle.block_device.specs.State.{Stays}
use Rattle.script_run.proofs.opening.write_home.Given as goal

-- the device is unchanged, and all named blocks exist if the remaining ones do
abbrev pub invariant-loop-block : goal.invariant-loop-block
invariant-loop-block g l =
    let old = g.D.Device.state l.fn.device in
    let P : ℕ → Type 0 = λ b. b < old.shape.home_blocks in
    (goal.iterator-loop-block g).can_next l.block-iterator
    × (goal.iterator-loop-block g).is_finite l.block-iterator
    × Stays old (g.D.Device.state l.device)
    × (All P l.block-iterator → All P (keys l.named.blocks))
