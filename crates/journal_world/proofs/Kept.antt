-- What commits leave: what the superblock names, what is durable at home, and what a round relies on.
use Rattle.std.proofs.Common.{sym, ◌∙◌, ap, arith}
use Rattle.std.specs.Prelude.{◌≡◌, ℕ, ◌<◌, ◌≤◌, Bool, true, false, List, slice_get}
use Rattle.journal_model.specs.declared.entry.Batch.{Batch}
use Rattle.journal_model.specs.declared.number.Area.TheVariants.{Log}
use Rattle.journal_model.specs.Disk.{Cell, Disk}
use Rattle.journal_world.specs.declared.round.Round.{Round}
use Rattle.journal_world.specs.declared.round.Round.TheVariants.{Idle as NoRound, Copies, TailWrite, TailFlush}
use Rattle.journal_world.specs.declared.stage.Stage.{Stage}
use Rattle.journal_world.specs.Checkpoint.{IsNewestCopy, IsPending}
use Rattle.journal_world.specs.Engine.{Engine}
use Rattle.journal_world.specs.Sound.{HomeHas, KeepsHome, MayBeClean, MayBeSuperblock, Names, NamesStarted, RoundAgrees, RoundHolds}
use Rattle.journal_world.specs.Sound.MayBeSuperblock.{Clean, Old, New}

-- the engine with its commits at this point
abbrev pub progressed : Engine → List Batch → ℕ → ℕ → Stage → Bool → Engine
progressed e accepted committed start stage aborted =
    record e { accepted = accepted; committed = committed; start = start; stage = stage; aborted = aborted }

-- a started log's superblock names the same
started-kept : (e : Engine) (accepted : List Batch) (committed start : ℕ) (stage : Stage) (aborted : Bool) (round : Round) (v : List ℕ) →
    NamesStarted e round v → NamesStarted (progressed e accepted committed start stage aborted) round v
started-kept e accepted committed start stage aborted NoRound v names = names
started-kept e accepted committed start stage aborted (Copies transaction block) v names = names
started-kept e accepted committed start stage aborted TailWrite v names = names
started-kept e accepted committed start stage aborted TailFlush v names = names

-- the superblock names the same
pub names-kept : (e : Engine) (accepted : List Batch) (committed start : ℕ) (stage : Stage) (aborted : Bool) (started : Bool) (v : List ℕ) →
    Names e started v → Names (progressed e accepted committed start stage aborted) started v
names-kept e accepted committed start stage aborted true v names = started-kept e accepted committed start stage aborted e.round v names
names-kept e accepted committed start stage aborted false v names = names

-- a crash leaves the same of it
pub may-kept : (e : Engine) (accepted : List Batch) (committed start : ℕ) (stage : Stage) (aborted : Bool) (v : List ℕ) →
    (MayBeClean e → MayBeClean (progressed e accepted committed start stage aborted)) →
    MayBeSuperblock e v → MayBeSuperblock (progressed e accepted committed start stage aborted) v
may-kept e accepted committed start stage aborted v clean (Clean may names) = Clean (clean may) names
may-kept e accepted committed start stage aborted v clean (Old names) = Old names
may-kept e accepted committed start stage aborted v clean (New moves names) = New moves names

-- a round that is under way stays so
pub agrees-kept : (e : Engine) (accepted : List Batch) (committed start : ℕ) (stage : Stage) (aborted : Bool) (round : Round) →
    RoundAgrees e round → RoundAgrees (progressed e accepted committed start stage aborted) round
agrees-kept e accepted committed start stage aborted NoRound agrees = agrees
agrees-kept e accepted committed start stage aborted (Copies transaction block) agrees = agrees
agrees-kept e accepted committed start stage aborted TailWrite agrees = agrees
agrees-kept e accepted committed start stage aborted TailFlush agrees = agrees

-- the committed transactions are the same, and no fewer
pub record HasThose (e : Engine) (accepted : List Batch) (committed : ℕ) : Type 0 where
  pub same : (j : ℕ) → j < e.committed → slice_get accepted j ≡ slice_get e.accepted j
  pub more : e.committed ≤ committed

module _ (e : Engine) (accepted : List Batch) (committed start : ℕ) (stage : Stage) (aborted : Bool) (those : HasThose e accepted committed) where
  -- a newest copy with more committed transactions was the newest among the earlier ones
  pub newest-before : (i b : ℕ) (v : List ℕ) → i < e.committed → IsNewestCopy (progressed e accepted committed start stage aborted) i b v →
      IsNewestCopy e i b v
  newest-before i b v below newest =
      let more : e.committed ≤ committed = those.more in
      record {
        copy = record {
          batch = newest.copy.batch;
          committed = below;
          stands = sym (those.same i below) ∙ newest.copy.stands;
          copy = newest.copy.copy;
        };
        last = λ j later low high stands touches. newest.last j later low (omega arith) (those.same j high ∙ stands) touches;
      }

  -- a pending copy with more transactions committed was pending
  pub pending-before : (i b : ℕ) (v : List ℕ) → i < e.committed → IsPending (progressed e accepted committed start stage aborted) i b v → IsPending e i b v
  pending-before i b v below pending = record { newest = newest-before i b v below pending.newest; unreleased = pending.unreleased }

  module _ (disk after : Disk) (home : KeepsHome disk after) where
    -- what is durable at home stays so
    pub home-kept : (n : ℕ) → n ≤ e.committed → HomeHas e disk n → HomeHas (progressed e accepted committed start stage aborted) after n
    home-kept n fits has = λ i b v newest below. home.same b ∙ has i b v (newest-before i b v (omega arith) newest) below

    -- what a round has done stays done
    pub round-kept : (round : Round) → e.bound ≤ e.committed → (after Log 0).reads ≡ (disk Log 0).reads → RoundHolds e disk round →
        RoundHolds (progressed e accepted committed start stage aborted) after round
    round-kept NoRound fits reads holds = tt
    round-kept (Copies transaction block) fits reads holds =
        λ i b v pending below before.
        ap (λ (c : Cell). c.reads) (home.same b) ∙ holds i b v (pending-before i b v (omega arith) pending) below before
    round-kept TailWrite fits reads holds = home-kept e.bound fits holds
    round-kept TailFlush fits reads holds = (home-kept e.bound fits holds.0, reads ∙ holds.1)
