-- What a log's place holds.
use Rattle.std.proofs.Common.{◌≡◌, ◌≢◌, ◌≤◌, ◌+◌, ap, inl, inr, refl, subst, sym, ℕ}
use Rattle.std.specs.Prelude.{MatchOption, Option, None, Some, Bool, false, is_some, Result, Ok, Err, IfOk}
use Rattle.journal_model.specs.declared.number.Area.TheVariants.{Log}
use Rattle.journal_model.specs.declared.refusal.JournalError.{JournalError}
use Rattle.journal_model.specs.declared.refusal.JournalError.TheVariants.{Ahead, Damage, Device, Memory}
use Rattle.journal_model.specs.Disk.{Disk, Image, reading}
use Rattle.log_model.specs.Opening.{greatest_number}
use Rattle.log_model.specs.Superblock.{Super, super_refusal}
use Rattle.block_device.specs.State.{DeviceState, Stays}
use Rattle.log_scan.specs.declared.scanning.ChainEnd.{ChainEnd}
use Rattle.log_scan.specs.Finding.{every_block}
use Rattle.log_scan.specs.Scanning.{AreTextsOf, IsDamageOf, IsEndOf, IsScanned}
use Rattle.recovery.specs.Opening.{HasTransactions, IsLowestAhead, IsReadingRefused, IsRefusedLog, NoneAhead}
use Rattle.recovery.specs.Opening.IsRefusedLog.{ForAhead, ForNumber}
use Rattle.jbench_logs.specs.declared.overwriting.Held.{Held}
use Rattle.jbench_logs.specs.declared.overwriting.Held.TheVariants.{NoLog, AllHome, NotHome, Refused}
use Rattle.jbench_logs.specs.Holding.{HasFound, IsHeldFor, IsHeldIn, IsHeldWhole}
use Rattle.jbench_logs.specs.Holding.HasFound.{BySuperblock}

-- a superblock that was refused for its content, if reads were correct
pub of-content : {honest : Type 0} (old new : DeviceState) (e : JournalError) → IsReadingRefused honest old new e → e ≢ Device → e ≢ Memory → honest →
    super_refusal old.shape (old.disk Log 0).reads ≡ Some e
of-content old new e (inl failed) no_device no_memory trust = absurd (no_device failed.0)
of-content old new e (inr (inl short)) no_device no_memory trust = absurd (no_memory short.0)
of-content old new e (inr (inr refused)) no_device no_memory trust = refused.2 trust

-- a chain that ends without damage was scanned
scanned-to : (s : Super) (limit : ℕ) (image : Image) (end : ChainEnd) → IsEndOf s limit image end → end.damaged ≡ None → IsScanned s limit image end.transactions
scanned-to s limit image end is none = record {
  texts = is.texts;
  are = subst (λ (o : Option ℕ). MatchOption o (AreTextsOf s limit image is.texts) (λ place. IsDamageOf s limit image (Damage place))) none is.behind;
  number = is.number;
}

-- its complete transactions
pub its-transactions : (s : Super) (image : Image) (end : ChainEnd) → (s.s_start ≡ 0 → end ≡ record { transactions = 0; damaged = None })
    → (s.s_start ≢ 0 → IsEndOf s (every_block s) image end) → end.damaged ≡ None → HasTransactions s (every_block s) image end.transactions
its-transactions s image end clean ends none = record {
  clean = λ zero. ap (λ (x : ChainEnd). x.transactions) (clean zero);
  scanned = λ started. scanned-to s (every_block s) image end (ends started) none;
}

-- no damage is told
pub undamaged : (damaged : Option ℕ) (told : Bool) → told ≡ is_some damaged → told ≡ false → damaged ≡ None
undamaged None told is none = refl
undamaged (Some place) told is none = absurd cc

-- the same of one image
whole-image : (s : Super) (image : Image) (end : ChainEnd) (limit : ℕ) (held : Held) → (s.s_start ≡ 0 → end ≡ record { transactions = 0; damaged = None })
    → (s.s_start ≢ 0 → IsEndOf s (every_block s) image end) → end.damaged ≡ None → limit ≡ s.s_sequence + end.transactions → NoneAhead s image limit
    → IsHeldWhole end limit held → IsHeldIn s image held
whole-image s image end limit NoLog clean ends none is ahead whole = absurd whole
whole-image s image end limit AllHome clean ends none is ahead whole = record {
  has = subst (HasTransactions s (every_block s) image) whole (its-transactions s image end clean ends none);
  none_ahead = subst (λ (n : ℕ). NoneAhead s image (s.s_sequence + n)) whole (subst (NoneAhead s image) is ahead);
}
whole-image s image end limit (NotHome other) clean ends none is ahead (some, same) =
    let started : s.s_start ≢ 0 = λ zero. some (ap (λ (x : ChainEnd). x.transactions) (clean zero)) in
    (started, subst (IsEndOf s (every_block s) image) (sym same) (ends started))
whole-image s image end limit (Refused e) clean ends none is ahead (great, same) =
    rw same (ForNumber end.transactions (its-transactions s image end clean ends none) (subst (NoneAhead s image) is ahead) (subst (λ (n : ℕ). greatest_number ≤ n) is great))

module _ (s : Super) (old new : DeviceState) (end : ChainEnd) (limit : ℕ) where
  -- a log with a number ahead
  pub held-ahead : (place : ℕ) → (s.s_start ≡ 0 → end ≡ record { transactions = 0; damaged = None }) → (s.s_start ≢ 0 → IsEndOf s (every_block s) (reading old.disk) end)
      → end.damaged ≡ None → Stays old new → limit ≡ s.s_sequence + end.transactions → IsLowestAhead s (reading new.disk) limit place
      → IsRefusedLog s (every_block s) (reading old.disk) (Ahead place)
  held-ahead place clean ends none stays is lowest =
      ForAhead end.transactions place (its-transactions s (reading old.disk) end clean ends none)
      (subst (λ (d : Disk). IsLowestAhead s (reading d) (s.s_sequence + end.transactions) place) stays.disk
      (subst (λ (n : ℕ). IsLowestAhead s (reading new.disk) n place) is lowest))

  -- a log without damage, and without a number ahead
  pub held-whole : (held : Held) → (s.s_start ≡ 0 → end ≡ record { transactions = 0; damaged = None }) → (s.s_start ≢ 0 → IsEndOf s (every_block s) (reading old.disk) end)
      → end.damaged ≡ None → Stays old new → limit ≡ s.s_sequence + end.transactions → NoneAhead s (reading new.disk) limit → IsHeldWhole end limit held
      → IsHeldIn s (reading old.disk) held
  held-whole held clean ends none stays is ahead whole =
      whole-image s (reading old.disk) end limit held clean ends none is (subst (λ (d : Disk). NoneAhead s (reading d) limit) stays.disk ahead) whole

-- a log whose superblock is refused
pub refused-for : {honest : Type 0} (old new : DeviceState) (e : JournalError) → IsReadingRefused honest old new e → (r : Result Held JournalError)
    → IfOk r (IsHeldFor e) → IfOk r (λ held. honest → HasFound old held)
refused-for old new e refused (Ok held) is = λ honest. BySuperblock e (of-content old new e refused is.0 is.1 honest) is
refused-for old new e refused (Err why) is = is
