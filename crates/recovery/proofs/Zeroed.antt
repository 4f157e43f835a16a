-- The blocks of a log that is made: zeros, one after another, then the superblock.
use Rattle.std.proofs.Common.{refl, sym, ◌∙◌, ap, subst, arith, inl, inr}
use Rattle.std.specs.Prelude.{◌≡◌, ℕ, ◌+◌, ◌==◌, ◌<◌, ◌≤◌, Bool, true, false, List, replicate}
use Rattle.std.proofs.lemmas.Bool.{cases_eq}
use Rattle.std.proofs.lemmas.Bool.Decides.{nat_tests}
use Rattle.journal_model.specs.declared.number.Area.TheVariants.{Log}
use Rattle.journal_model.specs.Disk.{Cell, Disk, Shape, flushed, written}
use Rattle.log_model.specs.Superblock.{formatted_super, greatest_length, least_length}
use Rattle.log_format.specs.Size.{IsBlockSize}
use Rattle.journal_world.specs.Sound.{durable_cell}
use Rattle.recovery.specs.Opening.{HasZeros, IsFormatted}

-- what the block itself reads after a write
own-reads : (disk : Disk) (n : ℕ) (v : List ℕ) → (written disk Log n v Log n).reads ≡ v
own-reads disk n v = let same : (n == n) ≡ true = grind (arith, nat_tests) in rw same refl

-- other blocks stay
other-cell : (disk : Disk) (n m : ℕ) (v : List ℕ) → (m ≡ n → ⊥) → written disk Log n v Log m ≡ disk Log m
other-cell disk n m v other = let apart : (m == n) ≡ false = grind (arith, nat_tests) in rw apart refl

-- before the first write
pub zeros-none : (zeros : List ℕ) (disk : Disk) → HasZeros zeros 1 disk disk
zeros-none zeros disk = record {
  reads = λ n above below. absurd (omega (arith, above, below));
  behind = λ n from. refl;
  home = λ b. refl;
}

-- one more block is zeros
pub zeros-more : (zeros : List ℕ) (n : ℕ) (old disk new : Disk) → HasZeros zeros n old disk → new ≡ written disk Log n zeros → HasZeros zeros (n + 1) old new
zeros-more zeros n old disk new has is = subst (HasZeros zeros (n + 1) old) (sym is) (record {
  reads = λ m above below.
      elim (cases_eq m n) [
        | inl same ↦ subst (λ (k : ℕ). (written disk Log n zeros Log k).reads ≡ zeros) (sym same) (own-reads disk n zeros)
        | inr other ↦ ap (λ (c : Cell). c.reads) (other-cell disk n m zeros other) ∙ has.reads m above (omega arith)
      ];
  behind = λ m from. other-cell disk n m zeros (λ same. omega arith) ∙ has.behind m (omega arith);
  home = has.home;
})

-- after the last flush the log is formatted
pub formatted : (shape : Shape) (maxlen : ℕ) (uuid block : List ℕ) (is_wide : Bool) (old zeroed first second new : Disk) → IsBlockSize shape.block_size →
    least_length ≤ maxlen → maxlen ≤ greatest_length → maxlen ≤ shape.log_blocks → block ≡ formatted_super shape.block_size maxlen uuid is_wide →
    HasZeros (replicate shape.block_size 0) maxlen old zeroed → first ≡ flushed zeroed Log → second ≡ written first Log 0 block →
    new ≡ flushed second Log → IsFormatted shape maxlen uuid is_wide old new
formatted shape maxlen uuid block is_wide old zeroed first second new allowed least most there is has flush write last =
    subst (IsFormatted shape maxlen uuid is_wide old) (sym all) (record {
      block_size = allowed;
      least = least;
      most = most;
      within = there;
      superblock = ap durable_cell (own-reads (flushed zeroed Log) 0 block ∙ is);
      zeros = λ n above below. ap durable_cell (ap (λ (c : Cell). c.reads) (apart n above) ∙ has.reads n above below);
      behind = λ n from. ap durable_cell (ap (λ (c : Cell). c.reads) (apart n (omega (arith, from)) ∙ ap (λ (c : Cell). durable_cell c.reads) (has.behind n from)));
      home = λ b. has.home b;
    })
  where
    all : new ≡ flushed (written (flushed zeroed Log) Log 0 block) Log
    all = last ∙ ap (λ (d : Disk). flushed d Log) (write ∙ ap (λ (d : Disk). written d Log 0 block) flush)

    apart : (n : ℕ) → 0 < n → written (flushed zeroed Log) Log 0 block Log n ≡ flushed zeroed Log Log n
    apart n above = other-cell (flushed zeroed Log) 0 n block (λ none. omega (arith, above, none))
