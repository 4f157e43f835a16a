-- Which batch a ledger may be handed, and the progress of its steps.
use Rattle.std.specs.Prelude.{◌≡◌, ◌≢◌, ◌+◌, ◌≤◌}
use Rattle.journal_model.specs.declared.entry.Batch.{Batch}
use Rattle.log_model.specs.Opening.{greatest_number}
use Rattle.journal_world.specs.declared.round.Round.TheVariants.{Idle as NoRound}
use Rattle.journal_world.specs.declared.stage.Stage.TheVariants.{Idle}
use Rattle.journal_world.specs.Engine.{Engine, IsBatch}
use Rattle.log_ledger.specs.declared.progress.Progress.{Progress}
use Rattle.log_ledger.specs.declared.progress.Progress.TheVariants.{Idle as NoProgress, Step, Done}

-- nothing is being committed, and the batch has the next number and allowed entries
pub record MayHandOver (e : Engine) (b : Batch) : Type 0 where
  pub idle : e.stage ≡ Idle
  pub number : b.tid ≡ e.first + e.committed
  pub left : b.tid ≤ greatest_number
  pub batch : IsBatch e.layout e.shape b

-- the last step is followed by no commit
abbrev pub IsProgress : Progress → Engine → Engine → Type 0
IsProgress NoProgress old new = ⊥
IsProgress Step old new = new.stage ≢ Idle
IsProgress (Done tid) old new = (new.stage ≡ Idle) × (tid ≡ old.first + old.committed)

-- the last step ends the round
abbrev pub IsRoundProgress : Progress → Engine → Type 0
IsRoundProgress NoProgress new = ⊥
IsRoundProgress Step new = new.round ≢ NoRound
IsRoundProgress (Done tid) new = (new.round ≡ NoRound) × (tid + 1 ≡ new.first + new.released)
