use Rattle.std.proofs.Common.{◌%◌, ◌/◌, ℕ, ap, ◌∙◌, sym, arith, w64, get_or}
use Rattle.std.proofs.lemmas.Nat.Bits.{bit_at_set_same, bit_at_set_other, bit_at_clear_same, bit_at_clear_other}
use Rattle.std.specs.Prelude.{nat_eq}
use Rattle.block_tables.proofs.Bits.{one-bit}
use Rattle.block_tables.proofs.block_set.Page.put.Goals as goal

-- a member's bit is set, and the others stay
pub returns-then-is_member : goal.returns-then-is_member
returns-then-is_member c =
    rw (← c.self.view_is)
    (λ j within. one-bit c.self.inside.words c.args.i _ c.args.is_member c.self.invariant c.requires
    (ap (λ (x : ℕ). nat_eq x 1) (bit_at_set_same w64 (get_or c.self.inside.words (c.args.i / 64) 0) (c.args.i % 64) (omega arith)) ∙ sym c.if-is_member.true)
    (λ k small other. bit_at_set_other w64 (get_or c.self.inside.words (c.args.i / 64) 0) (c.args.i % 64) (omega arith) k other) j within)

-- another one's is cleared
pub returns-else-is_member : goal.returns-else-is_member
returns-else-is_member c =
    rw (← c.self.view_is)
    (λ j within. one-bit c.self.inside.words c.args.i _ c.args.is_member c.self.invariant c.requires
    (ap (λ (x : ℕ). nat_eq x 1) (bit_at_clear_same w64 (get_or c.self.inside.words (c.args.i / 64) 0) (c.args.i % 64) (omega arith)) ∙ sym c.if-is_member.false)
    (λ k small other. bit_at_clear_other w64 (get_or c.self.inside.words (c.args.i / 64) 0) (c.args.i % 64) (omega arith) k small other) j within)
