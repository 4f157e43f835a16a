-- A transaction's fields as contracts see them, and its invariant.
use Rattle.std.specs.Prelude.{◌≡◌, ◌<◌, ◌↔◌, Bool, true, false, [], length, vec_capacity}
use Rattle.journal_model.specs.Transaction.{entries}
use Rattle.journal_front.specs.declared.transaction.Transaction.TheInside.{Inside}
use Rattle.journal_front.specs.Transaction.{OpenTransaction}

abbrev pub transaction_of : {R : Type 0} → Inside R → OpenTransaction
transaction_of t = record {
  transaction = t.known;
  locked = t.locked;
  reserved = t.reserved;
  committing = t.versions.committing;
}

-- a transaction's invariant: the entries are those of the steps; `joined` says whether a handle has joined; if the record keeps data,
-- handles and steps are data, with the room reserved for one more step; else none are kept
pub record KeepsTransaction {R : Type 0} (keeps : Bool) (t : Inside R) : Type 0 where
  pub entries_are : t.versions.running ≡ entries t.known.steps
  pub joined_is : (t.joined ≡ true) ↔ (0 < length t.known.handles)
  pub handles_are : keeps ≡ true → t.handles ≡ t.known.handles
  pub steps_are : keeps ≡ true → t.steps.items ≡ t.known.steps
  pub none_kept : keeps ≡ false → (t.handles ≡ []) × (t.steps.items ≡ [])
  pub step_room : keeps ≡ true → t.reserved ≡ true → length t.steps.items < vec_capacity t.steps
