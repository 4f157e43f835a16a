-- Blocks that were copied into memory.
use Rattle.std.proofs.Common.{refl, sym, ◌∙◌, ap, subst, arith, inl, inr, false, true}
use Rattle.std.specs.Prelude.{◌≡◌, ℕ, ◌+◌, ◌==◌, List}
use Rattle.std.proofs.lemmas.Bool.{cases_eq}
use Rattle.std.proofs.lemmas.Bool.Decides.{nat_tests}
use Rattle.journal_model.specs.declared.number.Area.TheVariants.{Home, Log}
use Rattle.journal_model.specs.Disk.{Cell, Disk, written}
use Rattle.log_views.specs.Leaving.{HasCopied}

own-block : (disk : Disk) (n : ℕ) (bytes : List ℕ) → (written disk Log n bytes Log n).reads ≡ bytes
own-block disk n bytes = let same : (n == n) ≡ true = grind (arith, nat_tests) in rw same refl

other-block : (disk : Disk) (n m : ℕ) (bytes : List ℕ) → (m ≡ n → ⊥) → written disk Log n bytes Log m ≡ disk Log m
other-block disk n m bytes other = let apart : (m == n) ≡ false = grind (arith, nat_tests) in rw apart refl

-- one more block is copied
pub one-more : (old copy new : Disk) (n : ℕ) → new ≡ written copy Log n (old Log n).reads → HasCopied n old copy → HasCopied (n + 1) old new
one-more old copy new n is so = λ m below.
    subst (λ (d : Disk). (d Log m).reads ≡ (old Log m).reads) (sym is)
    (elim (cases_eq m n) [
      | inl same ↦ subst (λ (k : ℕ). (written copy Log n (old Log n).reads Log k).reads ≡ (old Log k).reads) (sym same) (own-block copy n (old Log n).reads)
      | inr other ↦ ap (λ (c : Cell). c.reads) (other-block copy n m (old Log n).reads other) ∙ so m (omega arith)
    ])

-- home stays
pub home-stays : (copy new : Disk) (n : ℕ) (bytes : List ℕ) → new ≡ written copy Log n bytes → (m : ℕ) → new Home m ≡ copy Home m
home-stays copy new n bytes is = λ m. ap (λ (d : Disk). d Home m) is

-- a block of home is copied
pub home-copied : (copy new : Disk) (n : ℕ) (bytes : List ℕ) → new ≡ written copy Home n bytes → (new Home n).reads ≡ bytes
home-copied copy new n bytes is =
    let same : (n == n) ≡ true = grind (arith, nat_tests) in
    subst (λ (d : Disk). (d Home n).reads ≡ bytes) (sym is) (rw same refl)
