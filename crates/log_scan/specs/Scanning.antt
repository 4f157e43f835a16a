-- What a scan of a log finds: the texts of its chain, or damage after them.
use Rattle.std.specs.Prelude.{◌≡◌, ◌⊎◌, ℕ, ◌<◌, ◌≤◌, List, length, Option, MatchOption, ⊤}
use Rattle.log_model.specs.declared.log.Text.{Text}
use Rattle.journal_model.specs.declared.refusal.JournalError.{JournalError}
use Rattle.journal_model.specs.declared.refusal.JournalError.TheVariants.{Damage}
use Rattle.log_model.specs.Chain.{IsChain, IsDamaged, lap, place_from}
use Rattle.journal_model.specs.Disk.{Image, reading}
use Rattle.log_model.specs.Opening.{layout_of, ring_of}
use Rattle.log_model.specs.Superblock.{Super}
use Rattle.block_device.specs.State.{DeviceState, IsDeviceFailure}
use Rattle.log_scan.specs.declared.scanning.ChainEnd.{ChainEnd}
use Rattle.log_scan.specs.Refusals.{NamesDamage}

-- the chain of a log that is not clean, with home blocks below the limit
abbrev pub IsChainOf : Super → ℕ → Image → List Text → Type 0
IsChainOf s limit image texts = IsChain (layout_of s) limit s.s_sequence (lap (ring_of s) image s.s_start) texts

-- the same, without damage
pub record AreTextsOf (s : Super) (limit : ℕ) (image : Image) (texts : List Text) : Type 0 where
  pub chain : IsChainOf s limit image texts
  pub undamaged : (k : ℕ) → IsDamaged (layout_of s) limit s.s_sequence (lap (ring_of s) image s.s_start) k → ⊥

pub record IsScanned (s : Super) (limit : ℕ) (image : Image) (count : ℕ) : Type 0 where
  pub texts : List Text
  pub are : AreTextsOf s limit image texts
  pub number : count ≡ length texts

-- a log block is damaged, and this is the refusal
pub record IsDamageOf (s : Super) (limit : ℕ) (image : Image) (e : JournalError) : Type 0 where
  pub k : ℕ
  pub damaged : IsDamaged (layout_of s) limit s.s_sequence (lap (ring_of s) image s.s_start) k
  pub refusal : e ≡ Damage (place_from (ring_of s) s.s_start k)

-- the number of texts, and the damaged place after them, if any
pub record IsEndOf (s : Super) (limit : ℕ) (image : Image) (end : ChainEnd) : Type 0 where
  pub texts : List Text
  pub chain : IsChainOf s limit image texts
  pub number : end.transactions ≡ length texts
  pub behind : MatchOption end.damaged (AreTextsOf s limit image texts) (λ place. IsDamageOf s limit image (Damage place))

abbrev pub IsWithinRing : Super → Option ℕ → Type 0
IsWithinRing s found = MatchOption found ⊤ (λ place. (s.s_first ≤ place) × (place < s.s_maxlen))

-- the device failed, or a ring block is damaged
abbrev pub IsScanRefused : (honest : Type 0) → Super → ℕ → DeviceState → DeviceState → JournalError → Type 0
IsScanRefused honest s limit old new e =
    IsDeviceFailure old new e
    ⊎ (NamesDamage s.s_first s.s_maxlen e × (new.faults ≡ old.faults) × (honest → IsDamageOf s limit (reading old.disk) e))
