-- A front's fields as the pure machine sees them, and its invariant.
use Rattle.std.specs.Prelude.{◌≡◌, ℕ, ◌+◌, ◌<◌, List, [], ◌∷◌, ◌++◌, length}
use Rattle.journal_model.specs.declared.entry.Entry.{Entry}
use Rattle.journal_model.specs.Transaction.{History, Transaction, entries}
use Rattle.journal_world.specs.Front.{Front, held}
use Rattle.journal_front.specs.declared.front.Front.TheInside.{Inside}
use Rattle.journal_front.specs.Front.{IsFront}

-- the front's value; nothing is reserved outside the front, so a refused reserve has nothing to take back
abbrev pub front_of : {R : Type 0} → (R → History) → Inside R → Front
front_of transactions f = record {
  layout = f.layout;
  home_blocks = f.home_blocks;
  capacity = f.capacity;
  reserved = f.reserved;
  refused = 0;
  finished = f.finished;
  mark = f.mark;
  sealed = transactions f.sealed;
  running = f.running.transaction;
  open_handles = f.open_handles.entries;
  locked = f.running.locked;
  given = f.given;
  aborted = f.aborted;
}

-- the entries kept of sealed transactions: the last one's while it is not finished, else none
pub data AreCommitting (sealed : History) (finished running : ℕ) : List (ℕ × Entry) → Type 0 where
  AllFinished : finished + 1 ≡ running → AreCommitting sealed finished running []
  LastUnfinished : (before : History) (last : Transaction) → sealed ≡ before ++ last ∷ [] → finished + 2 ≡ running →
      AreCommitting sealed finished running (entries last.steps)

-- a front's invariant: `held` counts the credits held; the kept entries are the unfinished sealed transaction's; once a handle has
-- joined the running transaction, there is room to seal it
pub record KeepsFront {R : Type 0} (transactions : R → History) (has_room : R → Type 0) (f : Inside R) : Type 0 where
  pub front : IsFront (front_of transactions f)
  pub held_are : f.held ≡ held (front_of transactions f)
  pub committing_are : AreCommitting (transactions f.sealed) f.finished f.running.transaction.tid f.running.committing
  pub room : 0 < length f.running.transaction.handles → has_room f.sealed
