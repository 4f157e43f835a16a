-- A change of the round keeps the engine sound, if ring blocks keep what they read and what is durable.
use Rattle.std.proofs.Common.{refl, sym, ◌∙◌, ap, subst, arith, inl, inr}
use Rattle.std.specs.Prelude.{◌≡◌, ◌⊎◌, ℕ, ◌+◌, ◌-◌, ◌<◌, ◌≤◌, Bool, true, false, List, length}
use Rattle.std.proofs.lemmas.Bool.{cases_lt}
use Rattle.journal_model.specs.declared.number.Area.TheVariants.{Log}
use Rattle.log_model.specs.Chain.{ring_place}
use Rattle.journal_model.specs.Disk.{Cell, Disk, IsOneOf, held}
use Rattle.journal_world.specs.declared.round.Round.{Round}
use Rattle.journal_world.specs.declared.stage.Stage.{Stage}
use Rattle.journal_world.specs.declared.stage.Stage.TheVariants.{Idle, SuperblockWrite, SuperblockFlush, Blocks, CommitWrite, CommitFlush}
use Rattle.journal_world.specs.Engine.{Engine, due_blocks}
use Rattle.journal_world.specs.Opening.{IsBehind}
use Rattle.journal_world.specs.Sound.{HomeHas, IsOwnBlock, IsPlain, MayBeSuperblock, Names, NamesStarted, RoundAgrees, RoundHolds, Sound, StageAgrees, StageHolds, durable_cell, position}

-- e with what a round may change taken from f
abbrev pub rounded : Engine → Engine → Engine
rounded e f = record e {
  superblock = f.superblock;
  released = f.released;
  tail = f.tail;
  bound = f.bound;
  bound_position = f.bound_position;
  round = f.round;
  aborted = f.aborted;
}

-- a cell reads as it did, stays durable, and holds nothing new
pub record KeepsCell (old new : Cell) : Type 0 where
  pub reads : new.reads ≡ old.reads
  pub durable : (v : List ℕ) → old ≡ durable_cell v → new ≡ durable_cell v
  pub left : (v : List ℕ) → IsOneOf (held new) v → IsOneOf (held old) v

-- each ring block does so
pub record KeepsRing (e : Engine) (old new : Disk) : Type 0 where
  pub each : (k : ℕ) → KeepsCell (old Log (ring_place e.ring k)) (new Log (ring_place e.ring k))

-- an unchanged cell does so
pub cell-kept : (old new : Cell) → new ≡ old → KeepsCell old new
cell-kept old new same = record {
  reads = ap (λ (c : Cell). c.reads) same;
  durable = λ v durable. same ∙ durable;
  left = λ v one. subst (λ (c : Cell). IsOneOf (held c) v) same one;
}

-- a flushed cell does so
pub cell-flushed : (c : Cell) → KeepsCell c (durable_cell c.reads)
cell-flushed c = record {
  reads = refl;
  durable = λ v durable. ap (λ (c : Cell). durable_cell c.reads) durable;
  left = λ v one. reads-left c v one;
}
  where
    reads-left : (c : Cell) (v : List ℕ) → IsOneOf (held (durable_cell c.reads)) v → IsOneOf (held c) v
    reads-left c v (inl is) = inl is
    reads-left c v (inr none) = absurd none

-- once a transaction is committed, the log is started
pub started-once : (e : Engine) (stage : Stage) → StageAgrees e stage → 0 < e.committed → e.started ≡ true
started-once e Idle agrees some = begun-log e.started refl agrees.1
  where
    begun-log : (started : Bool) → e.started ≡ started → (e.started ≡ false → e.committed ≡ 0) → e.started ≡ true
    begun-log true is none = is
    begun-log false is none = let no : e.committed ≡ 0 = none is in absurd (omega arith)
started-once e SuperblockWrite agrees some = let none : e.committed ≡ 0 = agrees.2 in absurd (omega arith)
started-once e SuperblockFlush agrees some = agrees.1
started-once e (Blocks k) agrees some = agrees.1
started-once e CommitWrite agrees some = agrees.1
started-once e CommitFlush agrees some = agrees.1

-- then the superblock names what its round says
pub started-names : (e : Engine) (round : Round) → IsPlain e → 0 < e.committed → e.round ≡ round → NamesStarted e round e.superblock
started-names e round plain some at =
    let started : e.started ≡ true = started-once e e.stage plain.stage some in
    subst (λ (r : Round). NamesStarted e r e.superblock) at (subst (λ (b : Bool). Names e b e.superblock) started plain.names)

-- a round leaves the stage of the commit as it is
stage-agrees : (e f : Engine) (stage : Stage) → StageAgrees e stage → StageAgrees (rounded e f) stage
stage-agrees e f Idle agrees = agrees
stage-agrees e f SuperblockWrite agrees = agrees
stage-agrees e f SuperblockFlush agrees = agrees
stage-agrees e f (Blocks k) agrees = agrees
stage-agrees e f CommitWrite agrees = agrees
stage-agrees e f CommitFlush agrees = agrees

-- a round leaves what is written of a commit, since no first superblock is being written
stage-holds : (e f : Engine) (disk after : Disk) (stage : Stage) → 0 < e.committed → StageAgrees e stage → KeepsRing e disk after →
    StageHolds e disk stage → StageHolds (rounded e f) after stage
stage-holds e f disk after Idle some agrees ring holds = tt
stage-holds e f disk after SuperblockWrite some agrees ring holds = tt
stage-holds e f disk after SuperblockFlush some agrees ring holds = let none : e.committed ≡ 0 = agrees.2 in absurd (omega arith)
stage-holds e f disk after (Blocks k) some agrees ring holds = λ j below. (ring.each (e.start + j)).reads ∙ holds j below
stage-holds e f disk after CommitWrite some agrees ring holds = λ j before. (ring.each (e.start + j)).durable _ (holds j before)
stage-holds e f disk after CommitFlush some agrees ring holds =
    (λ j before. (ring.each (e.start + j)).durable _ (holds.0 j before), (ring.each (e.start + (length (due_blocks e) - 1))).reads ∙ holds.1)

-- the premises for a change of the engine by a round
pub record IsRoundChange (e f : Engine) : Type 0 where
  pub names : NamesStarted (rounded e f) f.round f.superblock
  pub tail : f.tail ≡ position e f.released
  pub bound_position : f.bound_position ≡ position e f.bound
  pub order : (f.released ≤ f.bound) × (f.bound ≤ e.committed)
  pub forward : e.tail ≤ f.tail
  pub round : RoundAgrees (rounded e f) f.round

-- the engine stays plain
pub rounded-plain : (e f : Engine) → IsPlain e → 0 < e.committed → IsRoundChange e f → IsPlain (rounded e f)
rounded-plain e f plain some change = record {
  names =
      subst (λ (b : Bool). Names (rounded e f) b f.superblock) (sym (started-once e e.stage plain.stage some)) change.names;
  layout = plain.layout;
  uuid = plain.uuid;
  batches = plain.batches;
  numbered = plain.numbered;
  numbers = plain.numbers;
  start = plain.start;
  tail = change.tail;
  bound_position = change.bound_position;
  order = change.order;
  room =
      let room : e.start + length (due_blocks e) ≤ e.tail + e.ring.blocks = plain.room in
      let forward : e.tail ≤ f.tail = change.forward in
      omega arith;
  laps = plain.laps;
  stage = stage-agrees e f e.stage plain.stage;
  round = change.round;
}

-- the premises for a change of the disk by a round
pub record IsRoundStep (e f : Engine) (disk after : Disk) : Type 0 where
  pub some : 0 < e.committed
  pub change : IsRoundChange e f
  pub ring : KeepsRing e disk after
  pub superblock : (v : List ℕ) → IsOneOf (held (after Log 0)) v → MayBeSuperblock (rounded e f) v
  pub freed : (k : ℕ) (v : List ℕ) → e.start ≤ k → e.tail + e.ring.blocks ≤ k → k < f.tail + e.ring.blocks →
      IsOneOf (held (after Log (ring_place e.ring k))) v → IsBehind (e.first + e.committed) v
  pub home : HomeHas (rounded e f) after f.released
  pub round : RoundHolds (rounded e f) after f.round

-- what is held after the committed transactions does not depend on the round
own-kept : (e f : Engine) (k : ℕ) (v : List ℕ) → IsBehind (e.first + e.committed) v ⊎ IsOwnBlock e k v →
    IsBehind (e.first + e.committed) v ⊎ IsOwnBlock (rounded e f) k v
own-kept e f k v (inl behind) = inl behind
own-kept e f k v (inr own) = inr (record { index = own.index; place = own.place; block = own.block; handed_over = own.handed_over })

-- an engine stays sound over a change of its round
pub rounded-sound : (e f : Engine) (disk after : Disk) → Sound e disk → IsRoundStep e f disk after → Sound (rounded e f) after
rounded-sound e f disk after sound step = record {
  plain = rounded-plain e f sound.plain step.some step.change;
  superblock = step.superblock;
  durable =
      λ k low high. let forward : e.tail ≤ f.tail = step.change.forward in (step.ring.each k).durable _ (sound.durable k (omega arith) high);
  behind =
      λ k v low high one.
      elim (cases_lt k (e.tail + e.ring.blocks)) [
        | inl before ↦ own-kept e f k v (sound.behind k v low before ((step.ring.each k).left v one))
        | inr freed ↦ inl (step.freed k v low freed high one)
      ];
  stage = stage-holds e f disk after e.stage step.some sound.plain.stage step.ring sound.stage;
  home = step.home;
  round = step.round;
}
