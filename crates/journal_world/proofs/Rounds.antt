-- An engine that goes on with its round, and one whose round begins.
use Rattle.std.proofs.Common.{refl, sym, ◌∙◌, arith, inl, inr}
use Rattle.std.specs.Prelude.{◌≡◌, ℕ, ◌<◌, ◌≤◌, Bool, List}
use Rattle.std.proofs.lemmas.Bool.{cases_lt}
use Rattle.journal_model.specs.declared.number.Area.TheVariants.{Home}
use Rattle.journal_model.specs.Disk.{Disk}
use Rattle.journal_world.specs.declared.round.Round.{Round}
use Rattle.journal_world.specs.declared.round.Round.TheVariants.{Idle as NoRound, Copies, TailWrite, TailFlush}
use Rattle.journal_world.specs.Checkpoint.{HasRound, IsFrom, begun, begun_from}
use Rattle.journal_world.specs.Engine.{Engine}
use Rattle.journal_world.specs.Sound.{HomeHas, IsPlain, MayBeSuperblock, MovesTail, NamesTail, NamesStarted, NamesNewTail, RoundAgrees, Sound, durable_cell}
use Rattle.journal_world.specs.Sound.MayBeSuperblock.{Clean, Old, New}
use Rattle.journal_world.proofs.Pending.{newest-of}
use Rattle.journal_world.proofs.Rounded.{IsRoundChange, cell-kept, rounded, rounded-plain, rounded-sound, started-names}

-- the engine at this point of its round, aborted or not
abbrev pub going : Engine → Round → Bool → Engine
going e round aborted = record e { round = round; aborted = aborted }

-- a round under way releases some of the committed transactions
pub some-committed : (e : Engine) → IsPlain e → e.released < e.bound → 0 < e.committed
some-committed e plain more = let least : e.bound ≤ e.committed = plain.order.1 in omega arith

-- the change to an engine that goes on with its round
pub going-change : (e : Engine) (old new : Round) (a : Bool) → IsPlain e → 0 < e.committed → e.round ≡ old →
    (NamesStarted e old e.superblock → NamesStarted (going e new a) new e.superblock) → RoundAgrees (going e new a) new → IsRoundChange e (going e new a)
going-change e old new a plain some at names agrees = record {
  names = names (started-names e old plain some at);
  tail = plain.tail;
  bound_position = plain.bound_position;
  order = plain.order;
  forward = omega arith;
  round = agrees;
}

-- what a crash may leave of block 0 it may leave after a change of the round
pub may-kept : (e f : Engine) (v : List ℕ) → (NamesTail e v → NamesTail (rounded e f) v) →
    (MovesTail e → NamesNewTail e v → MayBeSuperblock (rounded e f) v) → MayBeSuperblock e v → MayBeSuperblock (rounded e f) v
may-kept e f v released moved (Clean may names) = Clean may names
may-kept e f v released moved (Old names) = Old (released names)
may-kept e f v released moved (New moves names) = moved moves names

-- a round among its copies moves no tail
pub none-moved : (e : Engine) (transaction block : ℕ) → e.round ≡ Copies transaction block → MovesTail e → ⊥
none-moved e transaction block at (inl writes) = apart (sym at ∙ writes)
  where
    apart : Copies transaction block ≡ TailWrite → ⊥
    apart same = cc
none-moved e transaction block at (inr flushes) = apart (sym at ∙ flushes)
  where
    apart : Copies transaction block ≡ TailFlush → ⊥
    apart same = cc

-- an engine without a round moves no tail
idle-unmoved : (e : Engine) → e.round ≡ NoRound → MovesTail e → ⊥
idle-unmoved e at (inl writes) = apart (sym at ∙ writes)
  where
    apart : NoRound ≡ TailWrite → ⊥
    apart same = cc
idle-unmoved e at (inr flushes) = apart (sym at ∙ flushes)
  where
    apart : NoRound ≡ TailFlush → ⊥
    apart same = cc

-- what is durable at home stays so, if the disk keeps it
pub home-kept : (e f : Engine) (disk after : Disk) (n : ℕ) →
    ((b : ℕ) (v : List ℕ) → disk Home b ≡ durable_cell v → after Home b ≡ durable_cell v) → HomeHas e disk n → HomeHas (rounded e f) after n
home-kept e f disk after n kept home = λ i b v newest below. kept b v (home i b v (newest-of (rounded e f) e i b v refl refl newest) below)

-- the engine with a round that has just begun
abbrev beginning : Engine → Engine
beginning e = record e { bound = e.committed; bound_position = e.start; round = Copies 0 0 }

-- the beginning of a round is a change of a round
beginning-change : (e : Engine) → IsPlain e → e.round ≡ NoRound → e.released < e.committed → IsRoundChange e (beginning e)
beginning-change e plain at more = record {
  names = started-names e NoRound plain (omega arith) at;
  tail = plain.tail;
  bound_position = plain.start;
  order = (omega arith, omega arith);
  forward = omega arith;
  round = more;
}

-- the engine with a new round is sound
beginning-sound : (e : Engine) (disk : Disk) → Sound e disk → e.round ≡ NoRound → e.released < e.committed → Sound (beginning e) disk
beginning-sound e disk sound at more = rounded-sound e (beginning e) disk disk sound (record {
  some = omega arith;
  change = beginning-change e sound.plain at more;
  ring = record { each = λ k. cell-kept _ _ refl };
  superblock = λ v one. may-kept e (beginning e) v (λ names. names) (λ moves names. absurd (idle-unmoved e at moves)) (sound.superblock v one);
  freed = λ k v low out within one. absurd (omega arith);
  home = home-kept e (beginning e) disk disk e.released (λ b v durable. durable) sound.home;
  round = λ i b v pending due before. absurd (before (first-from i b));
})
  where
    first-from : (i b : ℕ) → IsFrom 0 0 i b
    first-from i b =
        elim (cases_lt 0 i) [
          | inl above ↦ inl above
          | inr zero ↦ inr (omega arith, omega arith)
        ]

-- the engine is sound, whether a round is under way or begins
begun-at : (e : Engine) (round : Round) (disk : Disk) → Sound e disk → e.round ≡ round → HasRound e → Sound (begun_from e round) disk
begun-at e NoRound disk sound at more = beginning-sound e disk sound at more
begun-at e (Copies transaction block) disk sound at more = sound
begun-at e TailWrite disk sound at more = sound
begun-at e TailFlush disk sound at more = sound

-- the engine with its round under way is sound
pub begun-sound : (e : Engine) (disk : Disk) → Sound e disk → HasRound e → Sound (begun e) disk
begun-sound e disk sound has = begun-at e e.round disk sound refl has

-- it stays plain, whichever round is under way
begun-plain-at : (e : Engine) (round : Round) → IsPlain e → e.round ≡ round → HasRound e → IsPlain (begun_from e round)
begun-plain-at e NoRound plain at more = rounded-plain e (beginning e) plain (omega arith) (beginning-change e plain at more)
begun-plain-at e (Copies transaction block) plain at more = plain
begun-plain-at e TailWrite plain at more = plain
begun-plain-at e TailFlush plain at more = plain

-- it stays plain, whatever the disk is
pub begun-plain : (e : Engine) → IsPlain e → HasRound e → IsPlain (begun e)
begun-plain e plain has = begun-plain-at e e.round plain refl has
