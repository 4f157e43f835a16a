use Rattle.std.proofs.Common.{refl, subst, ℕ}
use Rattle.group_commit.specs.AllTurns.{CommitRefused, CommitsThrough}
use Rattle.group_commit.proofs.all_turns.Journal+D+R.commit.Goals as goal

pub returns-in-Ok-clause-turns : goal.returns-in-Ok-clause-turns
returns-in-Ok-clause-turns g c =
    subst (λ (tid : ℕ). CommitsThrough g.D.Device.state tid c.args.self.now c.commit_through.new.self) c.tid.ensures c.in-Ok.ensures.turns

pub returns-in-Err-clause-err : goal.returns-in-Err-clause-err
returns-in-Err-clause-err g c = (
  refl,
  subst (λ (tid : ℕ). CommitRefused g.D.Device.state tid c.args.self.now c.commit_through.new.self c.in-Err.e) c.tid.ensures c.in-Err.ensures.err,
)
