-- The tables that an opening gathers of a chain before it writes home.
use Rattle.std.specs.Prelude.{◌≡◌, ◌⊎◌, ℕ, suc, ◌+◌, ◌<◌, if◌then◌else◌, List, [], ◌∷◌, length, map, refl}
use Rattle.std.specs.Coded.{Coded, code_by, coded×, coded_ℕ}
use Rattle.std.specs.FinMap as fin_map
use Rattle.std.specs.FinMap.{empty}
use Rattle.std.specs.List.{zip}
use Rattle.log_model.specs.declared.log.Tag.{Tag}
use Rattle.log_model.specs.declared.log.Text.{Text}
use Rattle.journal_model.specs.declared.refusal.JournalError.{JournalError}
use Rattle.log_model.specs.Chain.{place_from}
use Rattle.journal_model.specs.Disk.{Image, reading}
use Rattle.log_model.specs.Escape.{unescaped}
use Rattle.log_model.specs.Opening.{ring_of}
use Rattle.log_model.specs.Superblock.{Super}
use Rattle.block_device.specs.State.{DeviceState, IsDeviceFailure, IsFailure}
use Rattle.log_scan.specs.Finding.{log_block}
use Rattle.log_scan.specs.Refusals.{NamesDamage}
use Rattle.log_scan.specs.Scanning.{IsChainOf}
use Rattle.journal_world.specs.Call.{Call}
use Rattle.recovery.specs.Calls.{write_home}
use Rattle.recovery.specs.Choice.{chosen, goes_by}
use Rattle.block_tables.specs.Copies.{placed_all, places_of}
use Rattle.block_tables.specs.Revokes.{BlockTable, noted_all, notes_of, revokes_of}

-- the greatest transaction that revokes each block, and the place of each block's newest copy
pub record TablesValue : Type 0 where
  pub revokes : BlockTable
  pub copies : BlockTable

-- they are stored as a pair
abbrev pub tables_code : Coded TablesValue
tables_code =
    code_by (BlockTable × BlockTable) (coded× (fin_map.code coded_ℕ coded_ℕ) (fin_map.code coded_ℕ coded_ℕ)) (λ t. (t.revokes, t.copies))
    (λ p. record { revokes = p.0; copies = p.1 }) (λ _. refl)

-- empty tables
abbrev pub empty_tables : TablesValue
empty_tables = record { revokes = empty; copies = empty }

-- the tables of a chain whose first transaction has this number
abbrev pub tables_of : ℕ → List Text → TablesValue
tables_of first texts = record { revokes = revokes_of first texts; copies = places_of texts }

-- the tables after noting that the transaction revokes these blocks
abbrev pub with_revokes : TablesValue → ℕ → List ℕ → TablesValue
with_revokes tables tid numbers = record { revokes = noted_all tables.revokes (notes_of tid numbers); copies = tables.copies }

-- the blocks of these tags with their copies' places, from p on
abbrev pub tag_notes : ℕ → List Tag → List (ℕ × ℕ)
tag_notes p [] = []
tag_notes p (tag ∷ tags) = (tag.block, p) ∷ tag_notes (suc p) tags

-- the tables after noting the copies of these tags
abbrev pub with_copies : TablesValue → ℕ → List Tag → TablesValue
with_copies tables place tags = record { revokes = tables.revokes; copies = placed_all tables.copies (tag_notes place tags) }

-- the log reads otherwise than it was scanned, which shows at a ring block; with correct reads these transactions can't be those of its
-- chain
pub record ReadsOtherwise (honest : Type 0) (s : Super) (transactions : ℕ) (old new : DeviceState) (e : JournalError) : Type 0 where
  pub names : NamesDamage s.s_first s.s_maxlen e
  pub no_fault : new.faults ≡ old.faults
  pub some : 0 < transactions
  pub never : honest → (texts : List Text) → IsChainOf s old.shape.home_blocks (reading old.disk) texts → transactions ≡ length texts → ⊥

-- why gathering is refused
abbrev pub IsGatherRefused : (honest : Type 0) → Super → ℕ → DeviceState → DeviceState → JournalError → Type 0
IsGatherRefused honest s transactions old new e = IsFailure old new e ⊎ ReadsOtherwise honest s transactions old new e

-- why a replay is refused
abbrev pub IsReplayRefused : (honest : Type 0) → Super → ℕ → DeviceState → DeviceState → JournalError → Type 0
IsReplayRefused honest s transactions old new e = IsDeviceFailure old new e ⊎ ReadsOtherwise honest s transactions old new e

-- the copies of a descriptor with these tags that go home by the tables, unescaped
abbrev pub chosen_after : TablesValue → ℕ → ℕ → List Tag → List (List ℕ) → List (ℕ × List ℕ)
chosen_after tables tid place tags blocks =
    chosen tables.revokes tables.copies tid place (map (λ p. (p.0.block, unescaped p.0.escaped p.1)) (zip tags blocks))

-- how many copies with these tags go home by the tables; `place` is the first one's
abbrev pub count_chosen : TablesValue → ℕ → ℕ → List Tag → ℕ
count_chosen tables tid place [] = 0
count_chosen tables tid place (tag ∷ tags) =
    (if goes_by tables.revokes tables.copies tid place tag.block then 1 else 0) + count_chosen tables tid (suc place) tags

-- the write home of the copy with this tag at this ring position
abbrev pub copy_calls : Super → Image → ℕ → Tag → List Call
copy_calls s image position tag = write_home tag.block (unescaped tag.escaped (log_block image (place_from (ring_of s) s.s_start position))) ∷ []
