-- The tests of a log's ring.
use Rattle.std.proofs.Common.{◌≡◌, ℕ, ◌+◌, ◌<◌, subst, inl, inr, arith}
use Rattle.std.specs.Prelude.{◌≢◌, ◌≤◌, ◌==◌, false, true}
use Rattle.std.proofs.lemmas.Bool.Decides.{nat_tests}
use Rattle.journal_model.specs.declared.refusal.JournalError.{JournalError}
use Rattle.journal_model.specs.declared.refusal.JournalError.TheVariants.{Ahead, SequenceEnd}
use Rattle.journal_model.specs.Disk.{Disk, reading}
use Rattle.log_model.specs.Opening.{greatest_number}
use Rattle.log_model.specs.Superblock.{Super}
use Rattle.block_device.specs.State.{DeviceState, Stays}
use Rattle.log_scan.specs.Scanning.{IsDamageOf, IsScanRefused}
use Rattle.recovery.specs.Opening.{HasTransactions, IsLowestAhead, IsTestRefused, NoneAhead}
use Rattle.recovery.specs.Opening.IsRingRefusal.{NamesAhead, NamesDamaged, NoNumber}
use Rattle.recovery.specs.Opening.IsRefusedLog.{ForAhead, ForDamage, ForNumber}

-- a log whose start is not 0 is not clean
started : (s : Super) → (s.s_start == 0) ≡ false → s.s_start ≢ 0
started s other zero = let test : (s.s_start == 0) ≡ true = grind (arith, nat_tests) in cc

-- a refused scan refuses the log
pub scan-refused : (honest : Type 0) (s : Super) (home : ℕ) (old new : DeviceState) (e : JournalError) → (s.s_start == 0) ≡ false →
    home ≡ old.shape.home_blocks → IsScanRefused honest s home old new e → IsTestRefused honest s old new e
scan-refused honest s home old new e other same (inl failure) = inl failure
scan-refused honest s home old new e other same (inr (names, faults, damage)) =
    inr (NamesDamaged e names, faults, λ h. ForDamage e (started s other) (subst (λ (n : ℕ). IsDamageOf s n (reading old.disk) e) same (damage h)))

-- so does a block that is ahead
pub ahead-refused : (honest : Type 0) (s : Super) (old mid new : DeviceState) (transactions limit place : ℕ) → s.s_first ≤ place → place < s.s_maxlen →
    limit ≡ s.s_sequence + transactions →
    Stays old mid → new.faults ≡ old.faults → (honest → HasTransactions s old.shape.home_blocks (reading old.disk) transactions) →
    (honest → IsLowestAhead s (reading mid.disk) limit place) → IsTestRefused honest s old new (Ahead place)
ahead-refused honest s old mid new transactions limit place from below is stays faults has lowest =
    inr (
      NamesAhead place from below,
      faults,
      λ h. ForAhead transactions place (has h)
          (subst (λ (n : ℕ). IsLowestAhead s (reading old.disk) n place) is (subst (λ (d : Disk). IsLowestAhead s (reading d) limit place) stays.disk (lowest h))),
    )

-- no block is ahead
pub none-there : (s : Super) (old mid : DeviceState) (transactions limit : ℕ) → limit ≡ s.s_sequence + transactions → Stays old mid → NoneAhead s (reading mid.disk) limit →
    NoneAhead s (reading old.disk) (s.s_sequence + transactions)
none-there s old mid transactions limit is stays none =
    subst (λ (n : ℕ). NoneAhead s (reading old.disk) n) is (subst (λ (d : Disk). NoneAhead s (reading d) limit) stays.disk none)

-- so does a log without a next number
pub number-refused : (honest : Type 0) (s : Super) (old mid new : DeviceState) (transactions limit : ℕ) → limit ≡ s.s_sequence + transactions → greatest_number ≤ limit →
    Stays old mid → new.faults ≡ old.faults → (honest → HasTransactions s old.shape.home_blocks (reading old.disk) transactions) →
    (honest → NoneAhead s (reading mid.disk) limit) → IsTestRefused honest s old new SequenceEnd
number-refused honest s old mid new transactions limit is great stays faults has none =
    inr (NoNumber, faults, λ h. ForNumber transactions (has h) (none-there s old mid transactions limit is stays (none h)) (omega arith))
