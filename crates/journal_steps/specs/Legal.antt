-- A journal's record of reads stays legal.
use Rattle.journal_model.specs.Record.{IsLegal}
use Rattle.journal_world.specs.Front.{transactions}
use Rattle.journal_steps.specs.Values.{JournalValue}

-- if reads of the device were correct, each recorded read of a block written before gave the last write's bytes
abbrev pub KeepsLegal : {D : Type 0} → (D → Type 0) → JournalValue D → Type 0
KeepsLegal honest v = honest v.device → IsLegal (transactions v.journal.front)
