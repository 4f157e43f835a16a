-- What an opening finds in an image, and when an image opens to n.
-- Source: fs/jbd2/recovery.c by behaviour; the refusals are this project's own.
use Rattle.std.specs.Prelude.{◌≡◌, ◌≢◌, ℕ, ◌+◌, ◌-◌, ◌==◌, ◌<◌, ◌≤◌, nat_lt, if◌then◌else◌, List, length, count_by, Some, None}
use Rattle.log_model.specs.declared.log.Text.{Text}
use Rattle.journal_model.specs.declared.number.Area.TheVariants.{Log, Home}
use Rattle.journal_model.specs.declared.refusal.JournalError.{JournalError}
use Rattle.journal_model.specs.declared.refusal.JournalError.TheVariants.{SequenceEnd, Ahead, Damage}
use Rattle.journal_model.specs.Disk.{Image, Shape}
use Rattle.journal_model.specs.Layout.{Layout}
use Rattle.log_model.specs.Superblock.{Super, super_in, super_refusal, wide_features}
use Rattle.log_model.specs.Chain.{Ring, lap, place_from, IsChain, IsDamaged, IsAhead}
use Rattle.log_model.specs.Replay.{IsReplayed}
use Rattle.journal_model.specs.Transaction.{History, Volume, Recovered}

abbrev pub super_of : Image → Super
super_of image = super_in (image Log 0)

abbrev pub ring_of : Super → Ring
ring_of s = record { first = s.s_first; blocks = s.s_maxlen - s.s_first }

abbrev pub layout_of : Super → Layout
layout_of s = record { block_size = s.s_blocksize; number_bytes = 4 + (if s.s_feature_incompat == wide_features then 4 else 0) }

abbrev pub log_lap : Image → List (List ℕ)
log_lap image = lap (ring_of (super_of image)) image (super_of image).s_start

abbrev pub lap_place : Image → ℕ → ℕ
lap_place image k = place_from (ring_of (super_of image)) (super_of image).s_start k

-- accepted, and not clean
pub record IsStarted (shape : Shape) (image : Image) : Type 0 where
  pub accepted : super_refusal shape (image Log 0) ≡ None
  pub started : (super_of image).s_start ≢ 0

pub record IsDamagedImage (shape : Shape) (image : Image) (k : ℕ) : Type 0 where
  pub started : IsStarted shape image
  pub damaged : IsDamaged (layout_of (super_of image)) shape.home_blocks (super_of image).s_sequence (log_lap image) k

-- the chain of an accepted image that is neither clean nor damaged
pub record HasChain (shape : Shape) (image : Image) (texts : List Text) : Type 0 where
  pub started : IsStarted shape image
  pub chain : IsChain (layout_of (super_of image)) shape.home_blocks (super_of image).s_sequence (log_lap image) texts
  pub undamaged : (k : ℕ) → IsDamagedImage shape image k → ⊥

pub record IsClean (shape : Shape) (image : Image) : Type 0 where
  pub accepted : super_refusal shape (image Log 0) ≡ None
  pub clean : (super_of image).s_start ≡ 0

-- the greatest sequence that a ring block may carry; the next transaction has the number after it
pub data HasLimit (shape : Shape) (image : Image) : ℕ → Type 0 where
  OfClean : IsClean shape image → HasLimit shape image (super_of image).s_sequence
  OfChain : (texts : List Text) → HasChain shape image texts → HasLimit shape image ((super_of image).s_sequence + length texts)

abbrev pub NothingAhead : Image → ℕ → Type 0
NothingAhead image limit = (place : ℕ) → IsAhead (ring_of (super_of image)) image limit place → ⊥

-- What an opening makes of home, if no refusal of content applies: a clean log leaves home as it is, else the chain
-- is replayed.
pub data OpensAs (shape : Shape) (image : Image) (got : Volume) : Type 0 where
  Clean : IsClean shape image → NothingAhead image (super_of image).s_sequence →
      ((b : ℕ) → b < shape.home_blocks → got b ≡ image Home b) → OpensAs shape image got
  Replayed : (texts : List Text) → HasChain shape image texts → NothingAhead image ((super_of image).s_sequence + length texts) →
      IsReplayed shape.home_blocks texts (image Home) got → OpensAs shape image got

-- an opening makes of home what the first n transactions make of it
pub record Opens (shape : Shape) (ts : History) (n : ℕ) (image : Image) : Type 0 where
  pub got : Volume
  pub opens : OpensAs shape image got
  pub recovered : Recovered shape.home_blocks ts n (image Home) got

abbrev pub greatest_number : ℕ
greatest_number = 0xfffffff0

-- Why an opening refuses an image, whatever the device does: the superblock's tests, then damage, then the lowest
-- ring block ahead, then no number left.
pub data IsRefused (shape : Shape) (image : Image) : JournalError → Type 0 where
  BySuperblock : (e : JournalError) → super_refusal shape (image Log 0) ≡ Some e → IsRefused shape image e
  ByDamage : (k : ℕ) → IsDamagedImage shape image k → IsRefused shape image (Damage (lap_place image k))
  ByAhead : (limit place : ℕ) → HasLimit shape image limit → IsAhead (ring_of (super_of image)) image limit place →
      ((other : ℕ) → IsAhead (ring_of (super_of image)) image limit other → place ≤ other) →
      IsRefused shape image (Ahead place)
  ByNumber : (limit : ℕ) → HasLimit shape image limit → NothingAhead image limit → greatest_number ≤ limit → IsRefused shape image SequenceEnd

abbrev pub numbered_below : ℕ → History → ℕ
numbered_below end ts = count_by (λ t. nat_lt t.tid end) ts

-- The n to which an image opens if a crash of the running journal left it: the transactions in its log or already
-- home. (A crashed opening may leave a clean log with a greater number.)
pub record IsCountOf (shape : Shape) (image : Image) (ts : History) (n : ℕ) : Type 0 where
  pub limit : ℕ
  pub has : HasLimit shape image limit
  pub count : n ≡ numbered_below limit ts
