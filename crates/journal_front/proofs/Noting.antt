-- Noting a read keeps a front's invariant: the step takes no credit and leaves every entry.
use Rattle.std.proofs.Common.{arith, ap, refl, sym, ◌∙◌}
use Rattle.std.specs.Prelude.{◌≡◌, ℕ, ◌≤◌, List, [], ◌∷◌, ◌++◌, length}
use Rattle.journal_model.specs.declared.entry.Entry.{Entry}
use Rattle.journal_model.specs.declared.transaction.Op.TheVariants.{Read}
use Rattle.journal_model.specs.Transaction.{History, entries}
use Rattle.journal_model.proofs.Effects.{entries-push_read}
use Rattle.journal_world.specs.Front.{Front, held, read_step, reading_block}
use Rattle.journal_front.specs.declared.front.Front.TheInside.{Inside}
use Rattle.journal_front.specs.Front.{IsFront}
use Rattle.journal_front.specs.FrontView.{KeepsFront, front_of}
use Rattle.journal_front.specs.Transaction.{noting, reserving}

-- a read leaves the credits held
held-same : (f : Front) (h b : ℕ) (v : List ℕ) → held (reading_block f h b v) ≡ held f
held-same f h b v =
    let same : length (entries (f.running.steps ++ read_step h b v ∷ [])) ≡ length (entries f.running.steps) =
    ap (λ (es : List (ℕ × Entry)). length es) (entries-push_read f.running.steps (read_step h b v) refl) in
    omega arith

-- it leaves a front
reads-front : (f : Front) (h b : ℕ) (v : List ℕ) → IsFront f → IsFront (reading_block f h b v)
reads-front f h b v front =
    let same = held-same f h b v in
    let within : held f ≤ f.capacity = front.credits in
    record {
      layout = front.layout;
      credits = omega arith;
      numbers = front.numbers;
      given = front.given;
      joined = front.joined;
      number = front.number;
    }

-- it keeps the whole invariant
pub keeps-read : {R : Type 0} (transactions : R → History) (has_room : R → Type 0) (f : Inside R) (h b : ℕ) (v : List ℕ) → KeepsFront transactions has_room f →
    KeepsFront transactions has_room (record f { running = noting (reserving f.running) (record { handle = h; block = b; op = Read v }) })
keeps-read transactions has_room f h b v keeps = record {
  front = reads-front (front_of transactions f) h b v keeps.front;
  held_are = keeps.held_are ∙ sym (held-same (front_of transactions f) h b v);
  committing_are = keeps.committing_are;
  room = keeps.room;
}
