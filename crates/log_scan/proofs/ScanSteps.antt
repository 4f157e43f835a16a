-- Where one step of a scan leads.
use Rattle.std.proofs.Common.{◌≡◌, ℕ, suc, ◌+◌, ◌<◌, List, [], ◌∷◌, ◌++◌, length, take, drop, slice_get, None, Some, ◌∙◌, ◌⊎◌, inl, inr, subst, sym, ap, refl, arith}
use Rattle.std.proofs.lemmas.Option.{slice_get_within}
use Rattle.journal_model.proofs.ListElements.{get-front}
use Rattle.log_model.specs.declared.log.Piece.{Piece}
use Rattle.log_model.specs.declared.log.Piece.TheVariants.{Copies, Revokes}
use Rattle.log_model.specs.declared.log.Text.{Text}
use Rattle.journal_model.specs.declared.refusal.JournalError.TheVariants.{Damage}
use Rattle.log_model.specs.Chain.{lap, place_from}
use Rattle.journal_model.specs.Disk.{Disk, Image, Shape, reading}
use Rattle.log_model.specs.Opening.{layout_of, ring_of}
use Rattle.log_model.specs.Superblock.{Super}
use Rattle.log_model.specs.Text.{IsCommitBlock}
use Rattle.block_device.specs.State.{DeviceState, Stays}
use Rattle.log_format.specs.Accepted.{IsAccepted}
use Rattle.log_scan.specs.declared.cursor.Cursor.{Cursor}
use Rattle.log_scan.specs.declared.finding.Found.{Found}
use Rattle.log_scan.specs.declared.finding.Found.TheVariants.{RevokeBlock, Descriptor, CommitBlock, Malformed, Nothing}
use Rattle.log_scan.specs.Scanning.{AreTextsOf, IsEndOf}
use Rattle.log_scan.specs.Finding.{BlockBegins, DescriptorBegins, FinderValue, IsFound, NothingBegins, RevokeBlockBegins, blocks_from}
use Rattle.log_scan.specs.Passing.{CommitPassed, CopiesPassed, IsPassed, LeadsTo, RevokesPassed, cursor_behind}
use Rattle.log_scan.proofs.Laps.{from-at}
use Rattle.log_scan.proofs.SoFar.{so-far-chain, so-far-damaged, so-far-none, so-far-piece, so-far-stopped, so-far-text, so-far-undamaged}

-- an accepted log stays so while the device stays
pub accepted-stays : (log : Super) (old new : DeviceState) → Stays old new → IsAccepted old.shape.block_size old.shape.log_blocks log →
    IsAccepted new.shape.block_size new.shape.log_blocks log
accepted-stays log old new stays accepted = subst (λ (s : Shape). IsAccepted s.block_size s.log_blocks log) (sym stays.shape) accepted

-- what was found on a device with the same blocks
pub found-there : (s : Super) (limit : ℕ) (old mid : DeviceState) (number due position : ℕ) (f : FinderValue) (found : Found) → number ≡ due → Stays old mid →
    IsFound (layout_of s) limit number (blocks_from s (reading mid.disk) position) f found → IsFound (layout_of s) limit due (blocks_from s (reading old.disk) position) f found
found-there s limit old mid number due position f found same stays is =
    subst (λ (d : Disk). IsFound (layout_of s) limit due (blocks_from s (reading d) position) f found) stays.disk
    (subst (λ (n : ℕ). IsFound (layout_of s) limit n (blocks_from s (reading mid.disk) position) f found) same is)

-- at the begin of the log nothing stands before the cursor
pub passed-none : (s : Super) (limit : ℕ) (image : Image) → IsPassed s limit image [] [] (record { position = 0; transactions = 0 })
passed-none s limit image = so-far-none (layout_of s) limit s.s_sequence (lap (ring_of s) image s.s_start)

-- block k of the copies after a descriptor
copy-at : (block : List ℕ) (copies rest : List (List ℕ)) (k : ℕ) (copy : List ℕ) → slice_get copies k ≡ Some copy →
    slice_get ((block ∷ copies) ++ rest) (suc k) ≡ Some copy
copy-at block copies rest k copy at = get-front copies rest k (slice_get_within copies k copy at) ∙ at

module _
    (s : Super) (limit : ℕ) (image : Image) (texts : List Text) (pieces : List Piece) (cursor : Cursor) (f : FinderValue)
    (so : IsPassed s limit image texts pieces cursor)
  where
    -- where a revoke block leads
    leads-revokes : (n : ℕ) → RevokeBlockBegins (layout_of s) limit (s.s_sequence + cursor.transactions) (blocks_from s image cursor.position) (take n f.numbers) →
        RevokesPassed s limit image texts pieces (take n f.numbers) (cursor_behind cursor (RevokeBlock n))
    leads-revokes n is = record {
      block = is.block;
      passed =
          so-far-piece (layout_of s) limit s.s_sequence (omega arith) (lap (ring_of s) image s.s_start) texts pieces cursor.transactions cursor.position so
          (Revokes is.block (take n f.numbers)) 1 (cursor.position + 1) refl is.begins;
    }

    -- where a descriptor with its copies leads
    leads-copies : (n : ℕ) → DescriptorBegins (layout_of s) limit (s.s_sequence + cursor.transactions) (blocks_from s image cursor.position) (take n f.tags) n →
        CopiesPassed s limit image texts pieces (take n f.tags) cursor.position n (cursor_behind cursor (Descriptor n))
    leads-copies n is = record {
      block = is.block;
      copies = is.copies;
      stand = record {
        count = is.begins.well_formed.each_tag ∙ sym is.size;
        each = λ k copy at.
            from-at s image cursor.position (suc k) (cursor.position + 1 + k) copy (omega arith)
            (ap (λ (xs : List (List ℕ)). slice_get xs (suc k)) is.begins.front.split
            ∙ copy-at is.block is.copies (drop (1 + n) (blocks_from s image cursor.position)) k copy at);
      };
      passed =
          so-far-piece (layout_of s) limit s.s_sequence (omega arith) (lap (ring_of s) image s.s_start) texts pieces cursor.transactions cursor.position so
          (Copies is.block (take n f.tags) is.copies) (1 + n) (cursor.position + (1 + n)) refl is.begins;
    }

    -- where a commit block leads
    leads-commit : BlockBegins (IsCommitBlock (s.s_sequence + cursor.transactions)) (blocks_from s image cursor.position) →
        CommitPassed s limit image texts pieces (cursor_behind cursor CommitBlock)
    leads-commit is = record {
      commit = is.block;
      passed =
          so-far-text (layout_of s) limit s.s_sequence (omega arith) (lap (ring_of s) image s.s_start) texts pieces cursor.transactions cursor.position so is;
    }

    -- where nothing more leads
    leads-nowhere : NothingBegins (layout_of s) limit (s.s_sequence + cursor.transactions) (blocks_from s image cursor.position) → AreTextsOf s limit image texts
    leads-nowhere nothing = record {
      chain = so-far-chain (layout_of s) limit s.s_sequence (omega arith) (lap (ring_of s) image s.s_start) texts pieces cursor.transactions cursor.position so nothing;
      undamaged = so-far-undamaged (layout_of s) limit s.s_sequence (omega arith) (lap (ring_of s) image s.s_start) texts pieces cursor.transactions cursor.position so nothing;
    }

    -- where a step leads
    pub leads-found : (found : Found) → IsFound (layout_of s) limit (s.s_sequence + cursor.transactions) (blocks_from s image cursor.position) f found →
        LeadsTo s limit image texts pieces f cursor (cursor_behind cursor found) found
    leads-found (RevokeBlock n) is = leads-revokes n is
    leads-found (Descriptor n) is = leads-copies n is
    leads-found CommitBlock is = leads-commit is
    leads-found Malformed is = (
      so-far-stopped (layout_of s) limit s.s_sequence (omega arith) (lap (ring_of s) image s.s_start) texts pieces cursor.transactions cursor.position so is,
      so-far-damaged (layout_of s) limit s.s_sequence (omega arith) (lap (ring_of s) image s.s_start) texts pieces cursor.transactions cursor.position so is,
    )
    leads-found Nothing is = leads-nowhere is

-- the cursor counts the texts
pub passed-count : (s : Super) (limit : ℕ) (image : Image) (texts : List Text) (pieces : List Piece) (cursor : Cursor) → IsPassed s limit image texts pieces cursor →
    cursor.transactions ≡ length texts
passed-count s limit image texts pieces cursor so = let due = so.whole.due in omega arith

-- some texts, and pieces of the next one, stand before the cursor
pub record HasPassed (s : Super) (limit : ℕ) (image : Image) (cursor : Cursor) : Type 0 where
  pub texts : List Text
  pub pieces : List Piece
  pub passed : IsPassed s limit image texts pieces cursor

-- a step from there led here
pub record HasLed (s : Super) (limit : ℕ) (image : Image) (f : FinderValue) (old new : Cursor) (found : Found) : Type 0 where
  pub texts : List Text
  pub pieces : List Piece
  pub count : old.transactions ≡ length texts
  pub leads : LeadsTo s limit image texts pieces f old new found

pub has-led : (s : Super) (limit : ℕ) (image : Image) (f : FinderValue) (old new : Cursor) (found : Found) → HasPassed s limit image old →
    ((texts : List Text) (pieces : List Piece) → IsPassed s limit image texts pieces old → LeadsTo s limit image texts pieces f old new found) →
    HasLed s limit image f old new found
has-led s limit image f old new found so step = record {
  texts = so.texts;
  pieces = so.pieces;
  count = passed-count s limit image so.texts so.pieces old so.passed;
  leads = step so.texts so.pieces so.passed;
}

-- a piece or a commit block was found
abbrev pub GoesOn : Found → Type 0
GoesOn found = ((n : ℕ) × (found ≡ RevokeBlock n)) ⊎ (((n : ℕ) × (found ≡ Descriptor n)) ⊎ (found ≡ CommitBlock))

-- then the cursor is farther on
pub farther : (old new : Cursor) (found : Found) → GoesOn found → new ≡ cursor_behind old found → old.position < new.position
farther old new found (inl (n, is)) behind = let at = rw is at behind in rw at (omega arith)
farther old new found (inr (inl (n, is))) behind = let at = rw is at behind in rw at (omega arith)
farther old new found (inr (inr is)) behind = let at = rw is at behind in rw at (omega arith)

module _ (s : Super) (limit : ℕ) (image : Image) (f : FinderValue) (old new : Cursor) where
  -- a revoke block, a descriptor or a commit block was passed
  pub revokes-passed : (n : ℕ) → HasLed s limit image f old new (RevokeBlock n) → HasPassed s limit image new
  revokes-passed n led = record { texts = led.texts; pieces = led.pieces ++ Revokes led.leads.block (take n f.numbers) ∷ []; passed = led.leads.passed }

  pub copies-passed : (n : ℕ) → HasLed s limit image f old new (Descriptor n) → HasPassed s limit image new
  copies-passed n led = record { texts = led.texts; pieces = led.pieces ++ Copies led.leads.block (take n f.tags) led.leads.copies ∷ []; passed = led.leads.passed }

  pub commit-passed : HasLed s limit image f old new CommitBlock → HasPassed s limit image new
  commit-passed led = record { texts = led.texts ++ record { pieces = led.pieces; commit = led.leads.commit } ∷ []; pieces = []; passed = led.leads.passed }

  -- whichever of these was found
  pub goes-on : (found : Found) → GoesOn found → HasLed s limit image f old new found → HasPassed s limit image new
  goes-on found (inl (n, is)) led = revokes-passed n (subst (HasLed s limit image f old new) is led)
  goes-on found (inr (inl (n, is))) led = copies-passed n (subst (HasLed s limit image f old new) is led)
  goes-on found (inr (inr is)) led = commit-passed (subst (HasLed s limit image f old new) is led)

  -- a malformed block ends the chain
  pub led-damage : (place : ℕ) → place ≡ place_from (ring_of s) s.s_start old.position → HasLed s limit image f old new Malformed →
      IsEndOf s limit image (record { transactions = old.transactions; damaged = Some place })
  led-damage place at led = record {
    texts = led.texts;
    chain = led.leads.0;
    number = led.count;
    behind = record { k = old.position; damaged = led.leads.1; refusal = ap Damage at };
  }

  -- nothing more ends the chain
  pub led-end : HasLed s limit image f old new Nothing → IsEndOf s limit image (record { transactions = old.transactions; damaged = None })
  led-end led = record { texts = led.texts; chain = led.leads.chain; number = led.count; behind = led.leads }

-- the same on a device that stays
pub led-there : (s : Super) (limit : ℕ) (old mid : DeviceState) (f : FinderValue) (from to : Cursor) (found : Found) → Stays old mid →
    HasPassed s limit (reading old.disk) from →
    ((texts : List Text) (pieces : List Piece) → IsPassed s limit (reading mid.disk) texts pieces from → LeadsTo s limit (reading mid.disk) texts pieces f from to found) →
    HasLed s limit (reading old.disk) f from to found
led-there s limit old mid f from to found stays so step =
    has-led s limit (reading old.disk) f from to found so
    (subst (λ (d : Disk). (texts : List Text) (pieces : List Piece) → IsPassed s limit (reading d) texts pieces from → LeadsTo s limit (reading d) texts pieces f from to found)
    stays.disk step)
