-- A front's facts about its handles, as an audit of a record needs them.
use Rattle.std.specs.Prelude.{◌≡◌, nat_eq, map, Contains}
use Rattle.std.specs.List.{AllByRecursion, IsDistinct}
use Rattle.journal_model.specs.Record.{EachHandleOnce}
use Rattle.journal_world.specs.Front.{Front, handle_numbers, handles_of, transactions}

-- each handle stands once in the transactions, with all its steps there; these are the handles given out; the open ones are distinct
-- handles of the running transaction
pub record KeepsHandles (f : Front) : Type 0 where
  pub each : EachHandleOnce (transactions f)
  pub all : handles_of (transactions f) ≡ handle_numbers f.given
  pub joined : AllByRecursion (λ h. Contains f.running.handles h.0) f.open_handles
  pub once : IsDistinct nat_eq (map (λ h. h.0) f.open_handles)
