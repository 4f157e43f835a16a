-- Which sizes a block may have, and what fits one.
use Rattle.std.specs.Prelude.{◌≡◌, ◌⊎◌, ℕ, ◌-◌, ◌/◌, ◌<◌, ◌≤◌, true, List, length, drop, All, Option, unwrap_or}
use Rattle.log_model.specs.declared.log.Tag.{Tag}
use Rattle.journal_model.specs.Layout.{Layout, every_number, header_bytes, numbers_of, tag_bytes, tags_of}

abbrev pub IsBlockSize : ℕ → Type 0
IsBlockSize n = (n ≡ 1024) ⊎ ((n ≡ 2048) ⊎ (n ≡ 4096))

-- one more than any number that the log can spell, if home is not known
abbrev pub count_of : Layout → Option ℕ → ℕ
count_of l home_blocks = unwrap_or home_blocks (every_number l)

-- the most tags of a descriptor, if no UUID follows any
abbrev pub most_tags : Layout → ℕ
most_tags l = (l.block_size - header_bytes) / tag_bytes l

-- not too many tags, a UUID after the first alone, and home blocks that a tag can spell
pub record FitDescriptor (l : Layout) (tags : List Tag) : Type 0 where
  pub few : length tags ≤ tags_of l
  pub one_uuid : All (λ t. t.same_uuid ≡ true) (drop 1 tags)
  pub spelled : All (λ t. t.block < every_number l) tags

pub record FitRevokeBlock (l : Layout) (numbers : List ℕ) : Type 0 where
  pub few : length numbers ≤ numbers_of l
  pub spelled : All (λ b. b < every_number l) numbers
