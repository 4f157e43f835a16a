-- A step over a log depends on the log area alone.
use Rattle.std.proofs.Common.{refl, sym, ◌∙◌, ap, subst}
use Rattle.std.specs.Prelude.{◌≡◌, ℕ, ◌+◌, List, [], ◌∷◌, ◌++◌, map, take}
use Rattle.std.specs.List.{range_with_len}
use Rattle.log_model.specs.declared.log.Piece.{Piece}
use Rattle.log_model.specs.declared.log.Piece.TheVariants.{Copies, Revokes}
use Rattle.log_model.specs.declared.log.Text.{Text}
use Rattle.journal_model.specs.declared.number.Area.TheVariants.{Home, Log}
use Rattle.log_model.specs.Chain.{IsChain, IsDamaged, Ring, lap, place_from}
use Rattle.journal_model.specs.Disk.{Cell, Disk, Image, reading, written}
use Rattle.log_model.specs.Opening.{layout_of, ring_of}
use Rattle.log_model.specs.Superblock.{Super}
use Rattle.block_device.specs.State.{DeviceState}
use Rattle.log_scan.specs.declared.cursor.Cursor.{Cursor}
use Rattle.log_scan.specs.declared.finding.Found.{Found}
use Rattle.log_scan.specs.declared.finding.Found.TheVariants.{RevokeBlock, Descriptor, CommitBlock, Malformed, Nothing}
use Rattle.log_scan.specs.Finding.{FinderValue}
use Rattle.log_scan.specs.Passing.{IsPassed, LeadsTo, StandAt, StandBefore}
use Rattle.log_scan.specs.Scanning.{AreTextsOf}
use Rattle.recovery.specs.Calls.{HasMade, disk_after, writes_home}

-- writes home leave the log
log-after : (copies : List (ℕ × List ℕ)) (disk : Disk) → disk_after (writes_home copies) disk Log ≡ disk Log
log-after [] disk = refl
log-after (c ∷ copies) disk = log-after copies (written disk Home c.0 c.1)

pub log-same : (copies : List (ℕ × List ℕ)) (old mid : DeviceState) → HasMade (writes_home copies) old mid → reading mid.disk Log ≡ reading old.disk Log
log-same copies old mid made =
    ap (λ (cells : ℕ → Cell). λ (n : ℕ). (cells n).reads) (ap (λ (d : Disk). d Log) made.disk ∙ log-after copies old.disk)

-- equal log areas have equal laps
lap-same : (r : Ring) (image other : Image) (place : ℕ) → other Log ≡ image Log → lap r other place ≡ lap r image place
unfolding lap
lap-same r image other place same = ap (λ (blocks : ℕ → List ℕ). map (λ k. blocks (place_from r place k)) (range_with_len 0 r.blocks)) same

module _ (s : Super) (limit : ℕ) (image other : Image) (same : other Log ≡ image Log) where
  laps : lap (ring_of s) other s.s_start ≡ lap (ring_of s) image s.s_start
  laps = lap-same (ring_of s) image other s.s_start same

  -- equal logs: the same was passed
  pub passed-same : (texts : List Text) (pieces : List Piece) (cursor : Cursor) → IsPassed s limit other texts pieces cursor → IsPassed s limit image texts pieces cursor
  passed-same texts pieces cursor passed =
      subst (λ (blocks : List (List ℕ)). StandBefore (layout_of s) limit s.s_sequence blocks texts pieces cursor.transactions cursor.position) laps passed

  -- copies stand at the same places
  pub stand-same : (position n : ℕ) (copies : List (List ℕ)) → StandAt s other position n copies → StandAt s image position n copies
  stand-same position n copies stand = record {
    count = stand.count;
    each = λ k copy at. stand.each k copy at ∙ ap (λ (blocks : ℕ → List ℕ). blocks (place_from (ring_of s) s.s_start (position + k))) same;
  }

  -- the log has the same texts
  texts-same : (texts : List Text) → AreTextsOf s limit other texts → AreTextsOf s limit image texts
  texts-same texts are = record {
    chain = subst (λ (blocks : List (List ℕ)). IsChain (layout_of s) limit s.s_sequence blocks texts) laps are.chain;
    undamaged = λ k damaged. are.undamaged k (subst (λ (blocks : List (List ℕ)). IsDamaged (layout_of s) limit s.s_sequence blocks k) (sym laps) damaged);
  }

  -- a step leads to the same place
  pub leads-same : (texts : List Text) (pieces : List Piece) (f : FinderValue) (from to : Cursor) (found : Found) → LeadsTo s limit other texts pieces f from to found →
      LeadsTo s limit image texts pieces f from to found
  leads-same texts pieces f from to (RevokeBlock n) leads = record { block = leads.block; passed = passed-same texts (pieces ++ Revokes leads.block (take n f.numbers) ∷ []) to leads.passed }
  leads-same texts pieces f from to (Descriptor n) leads = record {
    block = leads.block;
    copies = leads.copies;
    stand = stand-same (from.position + 1) n leads.copies leads.stand;
    passed = passed-same texts (pieces ++ Copies leads.block (take n f.tags) leads.copies ∷ []) to leads.passed;
  }
  leads-same texts pieces f from to CommitBlock leads = record { commit = leads.commit; passed = passed-same (texts ++ record { pieces = pieces; commit = leads.commit } ∷ []) [] to leads.passed }
  leads-same texts pieces f from to Malformed leads = (
    subst (λ (blocks : List (List ℕ)). IsChain (layout_of s) limit s.s_sequence blocks texts) laps leads.0,
    subst (λ (blocks : List (List ℕ)). IsDamaged (layout_of s) limit s.s_sequence blocks from.position) laps leads.1,
  )
  leads-same texts pieces f from to Nothing leads = texts-same texts leads
