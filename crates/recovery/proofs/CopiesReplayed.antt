-- Reads after copies are written home: if they are a chain's, home is replayed.
use Rattle.std.proofs.Common.{refl, sym, ◌∙◌, ap, arith, inl, inr, ⊎_elim}
use Rattle.std.specs.Prelude.{◌≡◌, ◌⊎◌, ℕ, ◌==◌, true, false, List, [], ◌∷◌, Contains}
use Rattle.std.proofs.lemmas.Bool.{cases_eq}
use Rattle.std.proofs.lemmas.Bool.Decides.{nat_tests}
use Rattle.journal_model.proofs.ListElements.{contains-behind, contains-cases, contains-first, contains-none}
use Rattle.log_model.specs.declared.log.Text.{Text}
use Rattle.journal_model.specs.declared.number.Area.TheVariants.{Log, Home}
use Rattle.journal_model.specs.Disk.{Disk, reading, written}
use Rattle.log_model.specs.Replay.{IsReplayed}
use Rattle.recovery.specs.Calls.{disk_after, writes_home}
use Rattle.recovery.specs.HomeCopies.{home_copies}
use Rattle.recovery.proofs.LastCopies.{BlockCopies}
use Rattle.recovery.proofs.NewestHome.{home-copies-all, home-copies-newest}

-- a written block reads as what was written
written-reads : (disk : Disk) (b m : ℕ) (v : List ℕ) → b ≡ m → (written disk Home b v Home m).reads ≡ v
written-reads disk b m v same = let here : (m == b) ≡ true = grind (arith, nat_tests) in rw here refl

-- another block reads as before
others-read : (disk : Disk) (b m : ℕ) (v : List ℕ) → (b ≡ m → ⊥) → (written disk Home b v Home m).reads ≡ (disk Home m).reads
others-read disk b m v other = let apart : (m == b) ≡ false = grind (arith, nat_tests) in rw apart refl

-- home after writes of these copies: a block reads as one of its copies, or has none and reads as before
pub record IsAfterWrites (copies : BlockCopies) (old disk : Disk) (b : ℕ) : Type 0 where
  pub reads : Contains copies (b, (disk Home b).reads) ⊎ (((v : List ℕ) → Contains copies (b, v) → ⊥) × ((disk Home b).reads ≡ (old Home b).reads))

-- one copy is written before the others
after-more : (c : ℕ × List ℕ) (cs : BlockCopies) (old disk : Disk) (b : ℕ) → IsAfterWrites cs (written old Home c.0 c.1) disk b → IsAfterWrites (c ∷ cs) old disk b
after-more c cs old disk b is =
    elim is.reads [
      | inl among ↦ record { reads = inl (contains-behind c cs (b, (disk Home b).reads) among) }
      | inr (none, same) ↦
          elim (cases_eq c.0 b) [
            | inl here ↦
                let bytes : c.1 ≡ (disk Home b).reads = sym (same ∙ written-reads old c.0 b c.1 here) in
                let copy : c ≡ (b, (disk Home b).reads) = ap (λ (n : ℕ). (n, c.1)) here ∙ ap (λ (w : List ℕ). (b, w)) bytes in
                record { reads = inl (contains-first c cs (b, (disk Home b).reads) copy) }
            | inr other ↦
                record {
                  reads =
                      inr (
                        λ v among. ⊎_elim (λ first. other (ap (λ (p : ℕ × List ℕ). p.0) first)) (λ behind. none v behind) (contains-cases c cs (b, v) among),
                        same ∙ others-read old c.0 b c.1 other,
                      );
                }
          ]
    ]

-- so it is for writes of any copies
pub after-writes : (copies : BlockCopies) (disk : Disk) (b : ℕ) → IsAfterWrites copies disk (disk_after (writes_home copies) disk) b
after-writes [] disk b = record { reads = inr (λ v among. contains-none (b, v) among, refl) }
after-writes (c ∷ cs) disk b =
    after-more c cs disk (disk_after (writes_home cs) (written disk Home c.0 c.1)) b (after-writes cs (written disk Home c.0 c.1) b)

-- writes home leave the log
pub copies-log : (copies : BlockCopies) (disk : Disk) (n : ℕ) → disk_after (writes_home copies) disk Log n ≡ disk Log n
copies-log [] disk n = refl
copies-log (c ∷ cs) disk n = copies-log cs (written disk Home c.0 c.1) n

-- once a chain's copies that go home are written, home is replayed
pub copies-replayed : (count : ℕ) (texts : List Text) (disk : Disk) →
    IsReplayed count texts (reading disk Home) (reading (disk_after (writes_home (home_copies texts)) disk) Home)
copies-replayed count texts disk b below =
    ⊎_elim (λ among. inl (home-copies-newest texts b _ among)) (λ none. inr (home-copies-all texts b none.0, none.1))
    (after-writes (home_copies texts) disk b).reads
