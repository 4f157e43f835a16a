-- Lemmas: what an opening finds after a stop within the previous opening.
use Rattle.std.proofs.Common.{sym, ap, ap₂, subst, ◌∙◌, arith, ⊎_elim}
use Rattle.std.specs.Prelude.{◌≡◌, ◌≢◌, ℕ, ◌+◌, Bool, List, length}
use Rattle.std.proofs.lemmas.Bool.Decides.{eqb_tells}
use Rattle.log_model.specs.declared.log.Text.{Text}
use Rattle.journal_model.specs.declared.number.Area.TheVariants.{Log}
use Rattle.journal_model.specs.Disk.{Disk, Image, Leaves, Shape, reading}
use Rattle.log_model.specs.Opening.{HasChain, super_of}
use Rattle.log_model.specs.Superblock.{super_in}
use Rattle.journal_world.specs.Sound.{durable_cell}
use Rattle.log_epochs.specs.OpeningRun.{IsPastFlush, KeepsCount}
use Rattle.log_epochs.specs.OpeningRun.KeepsCount.{Past, Unwritten}
use Rattle.log_epochs.specs.OpeningSteps.{Found, IsFound, clean_superblock, next_of}
use Rattle.log_epochs.proofs.CleanLogs.{IsCleanTail, clean-tail}
use Rattle.log_epochs.proofs.Keeping.{found-chain, same-clean}
use Rattle.log_epochs.proofs.Replaying.{SameLog, durable-one, one-chain, same-chain}
use Rattle.recovery.specs.Opening.{Tells}
use Rattle.recovery.specs.Opening.Tells.{OfChain, OfClean}
use Rattle.script_run.specs.Reopening.{FollowsOn}

-- the same log gives the same report
follows-same : (shape : Shape) (image left : Image) (was_clean clean : Bool) (limit count ends_at transactions : ℕ) → SameLog image left
    → Tells shape image was_clean limit count → Tells shape left clean ends_at transactions → FollowsOn was_clean limit clean ends_at
follows-same shape image left was_clean clean limit count ends_at transactions same (OfClean is) (OfClean also) = ap (λ (block : List ℕ). (super_in block).s_sequence) (same 0)
follows-same shape image left was_clean clean limit count ends_at transactions same (OfClean is) (OfChain texts has) =
    absurd (has.started.started (same-clean shape image left same is).clean)
follows-same shape image left was_clean clean limit count ends_at transactions same (OfChain texts has) (OfClean also) =
    absurd (has.started.started (same-clean shape left image (λ n. sym (same n)) also).clean)
follows-same shape image left was_clean clean limit count ends_at transactions same (OfChain texts has) (OfChain others also) =
    ap₂ (λ (block : List ℕ) (ts : List Text). (super_in block).s_sequence + length ts) (same 0)
    (one-chain shape left texts others (same-chain shape image left texts same has) also)

-- the superblock of the clean log that an opening makes
tail-of : (shape : Shape) (found : Found) → IsFound shape found → HasChain shape found.image found.texts → IsCleanTail shape (found.image Log 0) (clean_superblock found) (next_of found)
tail-of shape found is has =
    let small = is.number in
    clean-tail shape (found.image Log 0) (next_of found) has.started.accepted is.size (omega arith)

-- after that superblock a clean log is found, with the number after the chain's last
follows-cleaned : (shape : Shape) (found : Found) (left : Image) (was_clean clean : Bool) (limit count ends_at transactions : ℕ) → IsFound shape found
    → HasChain shape found.image found.texts → left Log 0 ≡ clean_superblock found
    → Tells shape found.image was_clean limit count → Tells shape left clean ends_at transactions → FollowsOn was_clean limit clean ends_at
follows-cleaned shape found left was_clean clean limit count ends_at transactions is chain block (OfClean before) after = absurd (chain.started.started before.clean)
follows-cleaned shape found left was_clean clean limit count ends_at transactions is chain block (OfChain texts has) (OfChain others also) =
    absurd (also.started.started (ap (λ (b : List ℕ). (super_in b).s_start) block ∙ (tail-of shape found is chain).clean))
follows-cleaned shape found left was_clean clean limit count ends_at transactions is chain block (OfChain texts has) (OfClean also) =
    let limit_is : found.limit ≡ (super_of found.image).s_sequence + length found.texts = found-chain shape found.image found.texts found.limit is.has chain in
    let same : texts ≡ found.texts = one-chain shape found.image found.texts texts chain has in
    ap (λ (b : List ℕ). (super_in b).s_sequence) block ∙ (tail-of shape found is chain).sequence
    ∙ ap (λ (n : ℕ). n + 1) (limit_is ∙ ap (λ (ts : List Text). (super_of found.image).s_sequence + length ts) (sym same))

-- after the flush of an opening, the log of a crash image reads as before it
module _ (shape : Shape) (old disk : Disk) (left : Image) (leaves : Leaves disk left) where
  behind-0 : (found : Found) → IsPastFlush shape found old disk → (n : ℕ) → n ≢ 0 → left Log n ≡ (old Log n).reads
  behind-0 found past n some = durable-one (disk Log n) (old Log n).reads (left Log n) (past.log n some) (leaves.each Log n)

  log-same : (found : Found) → IsPastFlush shape found old disk → left Log 0 ≡ (old Log 0).reads → SameLog (reading old) left
  log-same found past block n =
      ⊎_elim
      (λ (zero : _ × (n ≡ 0)). subst (λ (m : ℕ). left Log m ≡ (old Log m).reads) (sym zero.1) block)
      (λ (some : _ × (n ≢ 0)). behind-0 found past n some.1)
      (eqb_tells n 0)

-- the report after a stop within the previous opening follows the first
pub follows-moment : (shape : Shape) (old disk : Disk) (left : Image) (was_clean clean : Bool) (limit count ends_at transactions : ℕ)
    → ((n : ℕ) → old Log n ≡ durable_cell (old Log n).reads) → KeepsCount shape old disk → Leaves disk left
    → Tells shape (reading old) was_clean limit count → Tells shape left clean ends_at transactions → FollowsOn was_clean limit clean ends_at
follows-moment shape old disk left was_clean clean limit count ends_at transactions durable (Unwritten is) leaves first second =
    follows-same shape (reading old) left was_clean clean limit count ends_at transactions
    (λ n. durable-one (disk Log n) (old Log n).reads (left Log n) (ap (λ (d : Disk). d Log n) is ∙ durable n) (leaves.each Log n)) first second
follows-moment shape old disk left was_clean clean limit count ends_at transactions durable (Past found is past) leaves first second =
    ⊎_elim
    (λ (block : left Log 0 ≡ (old Log 0).reads).
    follows-same shape (reading old) left was_clean clean limit count ends_at transactions (log-same shape old disk left leaves found past block) first second)
    (λ (block : (left Log 0 ≡ clean_superblock found) × HasChain shape found.image found.texts).
    follows-cleaned shape found left was_clean clean limit count ends_at transactions is.good block.1 block.0
    (subst (λ (image : Image). Tells shape image was_clean limit count) (sym is.read) first) second)
    (past.block_0 (left Log 0) (leaves.each Log 0))
