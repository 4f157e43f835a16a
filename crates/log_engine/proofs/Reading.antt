-- What a read of a block gives: its pending copy, else what home reads.
use Rattle.std.proofs.Common.{sym, ap, subst, ◌∙◌, inl, inr}
use Rattle.std.specs.Prelude.{◌≡◌, ◌↔◌, ℕ, ◌<◌, IsTrue, true, List, None, is_some}
use Rattle.std.proofs.lemmas.Bool.{cases_lt, true≢false}
use Rattle.std.proofs.lemmas.Option.{none-some}
use Rattle.journal_model.proofs.ListElements.{option-known}
use Rattle.journal_model.specs.declared.number.Area.TheVariants.{Home}
use Rattle.journal_model.specs.Disk.{Cell, Disk, Shape}
use Rattle.checkpoint.specs.Pending.{PendingValue, newest_of}
use Rattle.journal_world.specs.Checkpoint.{IsNewestCopy, IsPending, IsRead}
use Rattle.journal_world.specs.Engine.{Engine}
use Rattle.journal_world.specs.Sound.{IsPlain, Sound}
use Rattle.journal_world.proofs.Faults.{abort-sound}
use Rattle.journal_world.proofs.Pending.{newest-bytes}
use Rattle.log_ledger.specs.declared.ledger.Ledger.{Ledger}
use Rattle.log_ledger.specs.Ledger.{IsPlaced, KeepsPending, engine_of}
use Rattle.log_engine.specs.Engine.{HasPending}

-- an engine whose read failed, and changed nothing, is sound
pub aborted-sound : (s t : Shape) (l : Ledger) (disk after : Disk) → t ≡ s → after ≡ disk → Sound (engine_of s l) disk →
    Sound (engine_of t (record l { aborted = true })) after
aborted-sound s t l disk after same stays sound =
    subst (λ (x : Shape). Sound (engine_of x (record l { aborted = true })) after) (sym same)
    (subst (λ (d : Disk). Sound (engine_of s (record l { aborted = true })) d) (sym stays) (abort-sound (engine_of s l) disk sound))

-- a read gives the bytes of a pending copy
pub pending-read : (e : Engine) (disk : Disk) (i b k : ℕ) (v : List ℕ) → IsPlain e → (placed : IsPlaced e i b k) → v ≡ placed.bytes → IsRead e disk b v
pending-read e disk i b k v plain placed is = record {
  copied = λ j w newest. is ∙ newest-bytes e i j b placed.bytes w plain placed.pending.newest newest;
  other = λ none. absurd (none i placed.bytes placed.pending.newest);
}

-- all pending copies of a block have these bytes
pub pending-bytes : (e : Engine) (i j b k : ℕ) (v w : List ℕ) → IsPlain e → (placed : IsPlaced e i b k) → v ≡ placed.bytes → IsPending e j b w → v ≡ w
pending-bytes e i j b k v w plain placed is pending = is ∙ newest-bytes e i j b placed.bytes w plain placed.pending.newest pending.newest

-- if no copy is found, none is pending
pub none-pending : (e : Engine) (p : PendingValue) (i b : ℕ) (v : List ℕ) → KeepsPending e p → newest_of p b ≡ None → IsPending e i b v → ⊥
none-pending e p i b v keeps none pending = let one = keeps.all i b v pending in none-some one.0 (sym none ∙ one.1)

-- then home has the newest copy
pub home-read : (e : Engine) (p : PendingValue) (disk : Disk) (b : ℕ) (v : List ℕ) → KeepsPending e p → newest_of p b ≡ None → Sound e disk →
    v ≡ (disk Home b).reads → IsRead e disk b v
home-read e p disk b v keeps none sound is = record {
  copied = λ i w newest. is ∙ ap (λ (c : Cell). c.reads) (sound.home i b w newest (released i w newest));
  other = λ none. is;
}
  where
    released : (i : ℕ) (w : List ℕ) → IsNewestCopy e i b w → i < e.released
    released i w newest =
        elim (cases_lt i e.released) [
          | inl below ↦ below
          | inr more ↦ absurd (none-pending e p i b w keeps none (record { newest = newest; unreleased = more }))
        ]

-- a copy is found exactly if one is pending
pub found-pending : (e : Engine) (p : PendingValue) (b : ℕ) → KeepsPending e p → IsTrue (is_some (newest_of p b)) ↔ HasPending e b
found-pending e p b keeps = (there, λ has. let one = keeps.all has.transaction b has.bytes has.pending in ap is_some one.1)
  where
    there : IsTrue (is_some (newest_of p b)) → HasPending e b
    there found =
        elim (option-known (newest_of p b)) [
          | inl none ↦ absurd (true≢false (sym found ∙ ap is_some none))
          | inr (v, some) ↦ let one = keeps.placed b v some in record { transaction = one.0; bytes = one.2.bytes; pending = one.2.pending }
        ]
