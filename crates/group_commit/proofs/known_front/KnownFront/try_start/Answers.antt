use Rattle.std.proofs.Common.{◌≡◌, ℕ, subst}
use Rattle.std.proofs.lemmas.Result.{err_from_is_err_and}
use Rattle.journal_world.specs.Front.{Front, next_handle}
use Rattle.journal_world.specs.Front.FrontEvent.{Join}
use Rattle.journal_world.specs.Journal.Event.{FrontStep}
use Rattle.group_commit.specs.Extension.StartRefused.{NotJoined, Ungranted}
use Rattle.journal_front.specs.Front.{JoinRefused}
use Rattle.journal_steps.specs.Journal.{Does}
use Rattle.group_commit.proofs.Extending.{undone-refused}
use Rattle.group_commit.proofs.known_front.KnownFront.try_start.Goals as goal

pub returns-in-Ok-clause-ok : goal.returns-in-Ok-clause-ok
returns-in-Ok-clause-ok g c =
    let mid = c.reserve.new.self in
    let granted = c.in_ok-granted.ensures.ok in
    let did = c.in-Ok.ensures.ok in (
      record {
        granted = mid;
        reserves = granted.1;
        joins = subst (λ (n : ℕ). Does g.D.Device.state mid (FrontStep (Join n)) (c.try_join.new.self)) granted.0 did.0;
        device = c.reserve.ensures.device;
      },
      subst (λ (f : Front). c.in-Ok.handle ≡ record { number = next_handle f; tid = f.running.tid; left = c.args.n }) granted.1.front.after
          (subst (λ (n : ℕ). c.in-Ok.handle ≡ record { number = next_handle mid.journal.front; tid = mid.journal.front.running.tid; left = n }) granted.0 did.1),
    )

-- no handle may join, and the credits are given back
pub returns-in-Err-clause-err : goal.returns-in-Err-clause-err
returns-in-Err-clause-err g c =
    let old = c.args.self.now in
    let mid = c.reserve.new.self in
    let granted = c.in_ok-granted.ensures.ok in
    let refused = c.in-Err.ensures.err in (
      NotJoined granted.1.front.free
          (subst (λ (f : Front). JoinRefused f c.args.n c.in-Err.e) granted.1.front.after
          (subst (λ (n : ℕ). JoinRefused mid.journal.front n c.in-Err.e) granted.0 refused.1)),
      undone-refused g.D.Device.state old mid (c.try_join.new.self) (c.give_back.new.self) c.args.n c.in_ok-granted.granted c.in-Err.credits
          granted.0 granted.1 c.reserve.ensures.device refused.0 refused.2 c.give_back.ensures.gives c.give_back.ensures.device,
    )

pub returns-in_err-granted-clause-err : goal.returns-in_err-granted-clause-err
returns-in_err-granted-clause-err g c =
    let p = err_from_is_err_and c.from_residual.result c.from_residual.ensures.1 in
    rw (p.1, p.2) (Ungranted c.in_err-granted.ensures.err.0, c.in_err-granted.ensures.err.1)
