-- A block with an unfinished revoke reads as zeros. Other refusals of a block's bytes are the journal's.
use Rattle.std.proofs.Common.{◌≡◌, sym, subst, ℕ, List, length, replicate}
use Rattle.std.specs.Prelude.{Result, Err}
use Rattle.journal_model.specs.declared.refusal.JournalError.{JournalError}
use Rattle.journal_model.specs.declared.refusal.JournalError.TheVariants.{Revoked}
use Rattle.block_device.specs.State.{DeviceState}
use Rattle.handle.specs.Name.{JournalId}
use Rattle.journal_steps.specs.Journal.{NewestRefused}
use Rattle.journal_steps.specs.Values.{JournalValue}
use Rattle.journal_steps.specs.Verbs.{ReadsNewest}
use Rattle.shared_journal.specs.Moments.{AtItsMoment}
use Rattle.volume_service.specs.Session.{OfOneBlock, RefusedBytes}
use Rattle.volume_service.specs.Session.OfOneBlock.{NotOneBlock, OneBlock}
use Rattle.volume_service.specs.Session.RefusedBytes.{ByJournal, NoBlockOfBytes}
use Rattle.byte_volume.specs.Reading.{ReadsBlock}
use Rattle.byte_volume.specs.Reading.ReadsBlock.{Zeros}

-- a call with one block of bytes was the journal's
pub by_journal : {A untouched did : Type 0} {r : Result A JournalError} (size n : ℕ) → n ≡ size → OfOneBlock n size r untouched did → did
by_journal size n whole (NotOneBlock other bad same) = absurd (other whole)
by_journal size n whole (OneBlock same did) = did

-- a write of one block of bytes was refused by the journal
pub refused_by_journal : {why : Type 0} (size n : ℕ) (e : JournalError) → n ≡ size → RefusedBytes n size e why → why
refused_by_journal size n e whole (NoBlockOfBytes wrong bad) = absurd (wrong whole)
refused_by_journal size n e whole (ByJournal same why) = why

-- a read was refused for a revoke; then the buffer of one block was filled with zeros
pub zeros : {D A : Type 0} (state : D → DeviceState) (honest : D → Type 0) (name : JournalId) (b m : ℕ) (e : JournalError) (before into v : List ℕ) → e ≡ Revoked →
    AtItsMoment state honest name (λ (old new : JournalValue D). ReadsNewest {A = A} state honest old b before into new (Err e)) → v ≡ replicate m 0 → length v ≡ m →
    ReadsBlock state honest name b v
zeros {D} state honest name b m e before into v is at filled count =
    Zeros
    (subst (λ (f : JournalError). AtItsMoment state honest name (λ (old new : JournalValue D). NewestRefused state old b new f)) is
    (record { old = at.old; new = at.new; comes = at.comes; did = at.did.err }))
    (subst (λ (k : ℕ). v ≡ replicate k 0) (sym count) filled)
