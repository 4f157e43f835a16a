-- What the store holds after a commit, and what a read finds.
use Rattle.std.proofs.Common.{◌≡◌, ◌≢◌, ℕ, zero, suc, ◌<◌, true, false, List, [], ◌∷◌, length, drop, Option, Some, eqb, refl, ◌∙◌, ap, arith, ⊎_elim}
use Rattle.std.specs.Prelude.{slice_index}
use Rattle.std.proofs.lemmas.Bool.Decides.{eqb_tells}
use Rattle.keelsoursop.specs.journal_model.declared.entry.Entry.{Entry}
use Rattle.keelsoursop.specs.journal_model.declared.entry.Entry.TheVariants.{Copy}
use Rattle.keelsoursop.specs.journal_model.declared.number.Area.TheVariants.{Home}
use Rattle.keelsoursop.specs.journal_model.Reading.{answer_of}
use Rattle.keelsoursop.specs.journal_model.Transaction.{effect, last_effect}
use Rattle.keelsoursop.specs.block_device.State.{DeviceState}
use Rattle.keelsoursop.specs.journal_world.Front.{Front, finished_count, transactions}
use Rattle.keelsoursop.specs.journal_steps.Journal.{Requests}
use Rattle.keelsoursop.specs.journal_steps.Values.{JournalValue}
use Rattle.keelsoursop.specs.group_commit.AllTurns.{CommitsAll, CommitsThrough}
use Rattle.keelsoursop.specs.group_commit.AllTurns.CommitsAll.{WithRunning, WithoutRunning}
use Rattle.keelsoursop.specs.group_commit.Close.{sealed_with}
use Rattle.keelsoursop.specs.group_commit.Values.{TicketValue}
use Rattle.store_example.specs.Store.{Holds, Shows, WritesTogether}
use Rattle.store_example.proofs.Last.{effect-index, effect-slot, effect-two, last-running, last-sealing}

-- sealing the running transaction, or nothing, leaves each block as it was
last-sealed : (b : ℕ) (f : Front) (handles : List ℕ) → last_effect b (transactions (sealed_with f handles)) ≡ last_effect b (transactions f)
last-sealed b f [] = refl
last-sealed b f (h ∷ hs) = last-sealing b f

module _ {D : Type 0} (state : D → DeviceState) where
  -- so does a commit
  last-all : (b : ℕ) (old new : JournalValue D) → CommitsAll state old new →
      last_effect b (transactions new.journal.front) ≡ last_effect b (transactions old.journal.front)
  last-all b old new (WithRunning ready has ahead) =
      ap (λ (f : Front). last_effect b (transactions f)) has.front ∙ last-sealed b old.journal.front old.journal.front.running.handles
  last-all b old new (WithoutRunning unready went rounds) = ap (λ (f : Front). last_effect b (transactions f)) went.on.front

  -- and its request
  last-asked : (b tid : ℕ) (old new : JournalValue D) → Requests state tid old new → (n : ℕ) → length old.journal.front.running.handles ≡ n →
      last_effect b (transactions new.journal.front) ≡ last_effect b (transactions old.journal.front)
  last-asked b tid old new asks zero none = ap (λ (v : JournalValue D). last_effect b (transactions v.journal.front)) (asks.empty none)
  last-asked b tid old new asks (suc n) some =
      ⊎_elim
      (λ (is : (eqb tid old.journal.front.running.tid ≡ true) × (tid ≡ old.journal.front.running.tid)).
      ap (λ (f : Front). last_effect b (transactions f)) (asks.same is.1 (omega arith)).front.after)
      (λ (other : (eqb tid old.journal.front.running.tid ≡ false) × (tid ≢ old.journal.front.running.tid)).
      ap (λ (v : JournalValue D). last_effect b (transactions v.journal.front)) (asks.other other.1))
      (eqb_tells tid old.journal.front.running.tid)

  last-committed : (b tid : ℕ) (old new : JournalValue D) → CommitsThrough state tid old new →
      last_effect b (transactions new.journal.front) ≡ last_effect b (transactions old.journal.front)
  last-committed b tid old new through =
      last-all b through.asked new through.commits ∙ last-asked b tid old through.asked through.requests (length old.journal.front.running.handles) refl

  -- a read gives a block's last copy
  shows-copy : (v : JournalValue D) (b : ℕ) (bytes : List ℕ) → last_effect b (transactions v.journal.front) ≡ Some (Copy bytes) → Shows state v b bytes
  shows-copy v b bytes last =
      ap
      (λ (o : Option Entry).
      answer_of o (last_effect b (drop (finished_count v.journal.front) (transactions v.journal.front))) ((state v.device).disk Home b).reads)
      last

  -- once slot and index are written together and committed, the store holds the value
  pub held-committed : (old changed new : JournalValue D) (ticket : TicketValue) (tid key slot : ℕ) (value index : List ℕ) →
      0 < slot → slice_index index key ≡ slot → WritesTogether ticket slot value index old changed → CommitsThrough state tid changed new →
      Holds state new key value
  held-committed old changed new ticket tid key slot value index some place writes through =
      let at_slot : last_effect slot (transactions new.journal.front) ≡ Some (Copy value) =
      last-committed slot tid changed new through
      ∙ last-running slot changed.journal.front (Copy value)
      (ap (effect slot) writes.steps
      ∙ effect-two slot ticket.handle slot value index old.journal.front.running.steps (Copy value)
      (effect-slot ticket.handle slot value index (omega arith))) in
      let at_index : last_effect 0 (transactions new.journal.front) ≡ Some (Copy index) =
      last-committed 0 tid changed new through
      ∙ last-running 0 changed.journal.front (Copy index)
      (ap (effect 0) writes.steps
      ∙ effect-two 0 ticket.handle slot value index old.journal.front.running.steps (Copy index)
      (effect-index ticket.handle slot value index)) in
      record {
        index = index;
        indexed = shows-copy new 0 index at_index;
        some = rw place some;
        slot = rw place (shows-copy new slot value at_slot);
      }
