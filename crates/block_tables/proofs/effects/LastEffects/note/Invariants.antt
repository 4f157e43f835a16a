use Rattle.std.proofs.Common.{◌≡◌, ◌≤◌, ◌+◌, ℕ, drop, length}
use Rattle.block_tables.specs.Effects.{effect_on, last_among, once_committed}
use Rattle.block_tables.proofs.effects.LastEffects.note.Given as goal

-- what is noted and what is left are all, with room for the rest
abbrev pub invariant-loop-block : goal.invariant-loop-block
invariant-loop-block l =
    record {
      rest : (b : ℕ) → last_among l.batch.tid (drop l.block-index l.block-items) b (effect_on l.self b)
          ≡ last_among l.batch.tid l.block-items b (once_committed (effect_on l.fn.self b));
      room : length l.block-items ≤ l.block-index + l.self.room;
      last : l.self.last ≡ l.batch.tid;
    }
