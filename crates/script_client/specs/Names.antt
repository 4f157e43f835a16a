-- What the names of a script stand for.
use Rattle.std.specs.Prelude.{◌≡◌, ℕ, ◌<◌, List, get_or, length}
use Rattle.journal_front.specs.Values.{HandleValue}
use Rattle.script_client.specs.declared.slots.Slot.{Slot}
use Rattle.script_client.specs.declared.slots.Slot.TheVariants.{Empty, Open}

-- the slot of a name; `Empty` past the last name
abbrev pub stands_for : List Slot → ℕ → Slot
stands_for names name = get_or names name Empty

-- the name exists, and stands for no open handle
pub record IsFree (names : List Slot) (name : ℕ) : Type 0 where
  pub named : name < length names
  pub free : (h : HandleValue) → stands_for names name ≡ Open h → ⊥

-- no open handle is at this name, and the name exists if `slot` is an open handle
pub record MayStand (names : List Slot) (name : ℕ) (slot : Slot) : Type 0 where
  pub free : (h : HandleValue) → stands_for names name ≡ Open h → ⊥
  pub named : (h : HandleValue) → slot ≡ Open h → name < length names
