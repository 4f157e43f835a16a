-- What the store promises of its calls.
use Rattle.std.specs.Prelude.{◌≡◌, ℕ, ◌<◌, List, [], ◌∷◌, ◌++◌, Ok, slice_index}
use Rattle.keelsoursop.specs.journal_model.declared.number.Area.TheVariants.{Home}
use Rattle.keelsoursop.specs.journal_model.Reading.{seen}
use Rattle.keelsoursop.specs.block_device.State.{DeviceState}
use Rattle.keelsoursop.specs.journal_world.Front.{finished_count, transactions, write_step}
use Rattle.keelsoursop.specs.journal_steps.Values.{JournalValue}
use Rattle.keelsoursop.specs.group_commit.Values.{TicketValue}

-- a read of block b of this journal gives these bytes
abbrev pub Shows : {D : Type 0} → (D → DeviceState) → JournalValue D → ℕ → List ℕ → Type 0
Shows state v b bytes =
    seen (transactions v.journal.front) (finished_count v.journal.front) b ((state v.device).disk Home b).reads ≡ Ok bytes

-- the index, block 0, has a slot for the key, and the slot has the value
pub record Holds {D : Type 0} (state : D → DeviceState) (v : JournalValue D) (key : ℕ) (value : List ℕ) : Type 0 where
  pub index : List ℕ
  pub indexed : Shows state v 0 index
  pub some : 0 < slice_index index key
  pub slot : Shows state v (slice_index index key) value

-- the handle of this ticket wrote the slot and then the index, in the ticket's transaction; nothing else changed of the transactions
pub record WritesTogether {D : Type 0} (ticket : TicketValue) (slot : ℕ) (value index : List ℕ) (old new : JournalValue D) : Type 0 where
  pub sealed : new.journal.front.sealed ≡ old.journal.front.sealed
  pub transaction : new.journal.front.running.tid ≡ ticket.tid
  pub steps : new.journal.front.running.steps ≡
      old.journal.front.running.steps ++ write_step ticket.handle slot value ∷ write_step ticket.handle 0 index ∷ []
