-- Why an upgrade is refused, and what is known of an upgraded log.
use Rattle.std.proofs.Common.{◌∙◌, ap, arith, inl, inr, refl, subst, sym}
use Rattle.std.specs.Prelude.{◌≡◌, ◌≢◌, ℕ, ◌==◌, Bool, List, ◌∷◌, None, false, true}
use Rattle.std.proofs.lemmas.Bool.Decides.{nat_tests}
use Rattle.journal_model.specs.declared.number.Area.TheVariants.{Log}
use Rattle.journal_model.specs.declared.refusal.JournalError.{JournalError}
use Rattle.journal_model.specs.declared.refusal.JournalError.TheVariants.{AlreadyWide, BadLength, Device, Memory, NotEmpty}
use Rattle.journal_model.specs.Disk.{IsOneOf, reading}
use Rattle.log_model.specs.Superblock.{Super, super_in, super_refusal, wide_features}
use Rattle.block_device.specs.State.{DeviceState, IsDeviceFailure, Stays}
use Rattle.journal_world.proofs.Superblocks.{accepted-narrow}
use Rattle.log_scan.proofs.Listed.{super-device, super-memory}
use Rattle.log_scan.specs.Refusals.{super_refusals}
use Rattle.log_epochs.specs.UpgradeSteps.{IsUpgradableOn}
use Rattle.recovery.specs.Opening.{IsReadingRefused, IsWellRead}
use Rattle.recovery.specs.Upgrade.{IsKeptNarrow, IsNotUpgraded, UpgradeRefused}
use Rattle.recovery.specs.Upgrade.IsKeptNarrow.{ForContent, ForWide}
use Rattle.recovery.specs.Upgrade.IsNotUpgraded.{ByFields, BySuperblock}

-- a device failure is a refusal
pub failure-refused : (honest : Type 0) (s t : DeviceState) (e : JournalError) → IsDeviceFailure s t e → UpgradeRefused honest s t e
failure-refused honest s t e (is, counted) = record {
  device = λ same. counted;
  no_fault = λ other. absurd (other is);
  memory = λ memory. cc;
  content = λ other more. absurd (other is);
}

-- so is the content that was read
content-refused : (honest : Type 0) (s t : DeviceState) (e : JournalError) → Stays s t → t.faults ≡ s.faults → e ≢ Device → e ≢ Memory →
    IsOneOf (AlreadyWide ∷ NotEmpty ∷ super_refusals) e → (honest → IsNotUpgraded s.shape (s.disk Log 0).reads e) → UpgradeRefused honest s t e
content-refused honest s t e stays same other more listed why = record {
  device = λ is. absurd (other is);
  no_fault = λ is. same;
  memory = λ is. absurd (more is);
  content = λ is not. (stays, listed, why);
}

-- so is a superblock that could not be read, or is refused
pub reading-refused : (honest : Type 0) (s t : DeviceState) (e : JournalError) → Stays s t → IsReadingRefused honest s t e → UpgradeRefused honest s t e
reading-refused honest s t e stays (inl failure) = failure-refused honest s t e failure
reading-refused honest s t e stays (inr (inl (memory, same, large))) = record {
  device = λ is. cc;
  no_fault = λ is. same;
  memory = λ is. (stays, large);
  content = λ other more. absurd (more memory);
}
reading-refused honest s t e stays (inr (inr (listed, same, refused))) =
    content-refused honest s t e stays same (super-device e listed) (super-memory e listed) (inr (inr listed)) (λ trust. BySuperblock e (refused trust))

-- so is a log area without a block
pub no-log-refused : (honest : Type 0) (s : DeviceState) → s.shape.log_blocks ≡ 0 → UpgradeRefused honest s s BadLength
no-log-refused honest s none =
    content-refused honest s s BadLength (record { shape = refl; disk = refl; past = refl }) refl (λ e. cc) (λ e. cc)
    (inr (inr (inr (inr (inr (inl refl))))))
    (λ trust. BySuperblock BadLength (let test : (s.shape.log_blocks == 0) ≡ true = grind (arith, nat_tests) in rw test refl))

-- so is a log that is wide or not clean
pub fields-refused : (honest : Type 0) (s t : DeviceState) (block : List ℕ) (fields : Super) (e : JournalError) → IsWellRead s.shape block fields →
    (honest → block ≡ reading s.disk Log 0) → Stays s t → t.faults ≡ s.faults → IsKeptNarrow fields e → UpgradeRefused honest s t e
fields-refused honest s t block fields e well read stays same kept =
    let named = kept-listed fields e kept in
    content-refused honest s t e stays same named.0 named.1 named.2
    (λ trust.
    ByFields e (subst (λ (b : List ℕ). super_refusal s.shape b ≡ None) (read trust) well.tested)
    (subst (λ (f : Super). IsKeptNarrow f e) (well.fields_are ∙ ap super_in (read trust)) kept))
  where
    kept-listed : (f : Super) (x : JournalError) → IsKeptNarrow f x → (x ≢ Device) × (x ≢ Memory) × IsOneOf (AlreadyWide ∷ NotEmpty ∷ super_refusals) x
    kept-listed f x (ForWide wide) = ((λ e. cc), (λ e. cc), inl refl)
    kept-listed f x (ForContent narrow started) = ((λ e. cc), (λ e. cc), inr (inl refl))

-- features that are not a wide log's
pub other-features : (s : Super) (is_wide : Bool) → is_wide ≡ (s.s_feature_incompat == wide_features) → is_wide ≡ false → s.s_feature_incompat ≢ wide_features
other-features s is_wide tested other same = let test : (s.s_feature_incompat == wide_features) ≡ true = grind (arith, nat_tests) in cc

-- a log that was read and passed all tests may be upgraded
pub upgradable-on : (s : DeviceState) (block : List ℕ) (fields : Super) → IsWellRead s.shape block fields → block ≡ reading s.disk Log 0 →
    fields.s_feature_incompat ≢ wide_features → fields.s_start ≡ 0 → IsUpgradableOn s.shape block s.disk
upgradable-on s block fields well read narrow clean = record {
  read = sym read;
  may = record {
    size = well.size;
    accepted = well.tested;
    is_narrow = accepted-narrow s.shape block well.tested (subst (λ (f : Super). f.s_feature_incompat ≢ wide_features) well.fields_are narrow);
    clean = subst (λ (f : Super). f.s_start ≡ 0) well.fields_are clean;
  };
}
