-- Sequences of moves of the journal's world.
use Rattle.std.proofs.Common.{refl, subst}
use Rattle.std.specs.Prelude.{List, [], ◌∷◌, ◌++◌}
use Rattle.log_epochs.specs.JournalWorld.{JournalWorld, Leads, Move, Moves}

-- two sequences of moves join
pub leads-after : (a b c : JournalWorld) (ms ns : List Move) → Leads a ms b → Leads b ns c → Leads a (ms ++ ns) c
leads-after a b c [] ns one two = subst (λ (w : JournalWorld). Leads w ns c) one two
leads-after a b c (m ∷ ms) ns one two = (one.0, one.1, leads-after one.0 b c ms ns one.2 two)

-- a sequence takes one more move
pub leads-more : (start mid new : JournalWorld) (moves : List Move) (move : Move) → Leads start moves mid → Moves mid move new → Leads start (moves ++ move ∷ []) new
leads-more start mid new moves move leads on = leads-after start mid new moves (move ∷ []) leads (new, on, refl)
