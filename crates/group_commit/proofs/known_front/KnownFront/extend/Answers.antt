use Rattle.std.proofs.Common.{◌≡◌, ◌+◌, ℕ, refl, subst}
use Rattle.std.proofs.lemmas.Result.{err_from_is_err_and}
use Rattle.journal_world.specs.Front.{Front}
use Rattle.journal_world.specs.Front.FrontEvent.{ExtendHandle}
use Rattle.journal_world.specs.Journal.Event.{FrontStep}
use Rattle.group_commit.specs.Extension.ExtensionRefused.{NotExtended, NotGranted}
use Rattle.journal_front.specs.Front.{ExtendRefused}
use Rattle.journal_steps.specs.Journal.{Does}
use Rattle.group_commit.proofs.Extending.{undone-refused}
use Rattle.group_commit.proofs.known_front.KnownFront.extend.Goals as goal

pub returns-in-Ok-clause-ok : goal.returns-in-Ok-clause-ok
returns-in-Ok-clause-ok g c =
    let mid = c.reserve.new.self in
    let granted = c.in_ok-granted.ensures.ok in
    record {
      granted = mid;
      reserves = granted.1;
      extends =
          subst (λ (n : ℕ). Does g.D.Device.state mid (FrontStep (ExtendHandle c.args.handle.now.number n)) (c.give.new.self)) granted.0
          c.in-Ok.ensures.ok;
      device = c.reserve.ensures.device;
    }

pub returns-in-Ok-clause-handle : goal.returns-in-Ok-clause-handle
returns-in-Ok-clause-handle g c =
    subst (λ (n : ℕ). c.give.new.handle ≡ record c.args.handle.now { left = c.args.handle.now.left + n }) c.in_ok-granted.ensures.ok.0
    c.in-Ok.ensures.handle

-- the handle can't have the credits, and they are given back
pub returns-in-Err-clause-err : goal.returns-in-Err-clause-err
returns-in-Err-clause-err g c =
    let old = c.args.self.now in
    let mid = c.reserve.new.self in
    let h = c.args.handle.now in
    let granted = c.in_ok-granted.ensures.ok in
    let refused = c.in-Err.ensures.err in (
      NotExtended granted.1.front.free
          (subst (λ (f : Front). ExtendRefused f h c.args.n c.in-Err.e) granted.1.front.after
          (subst (λ (n : ℕ). ExtendRefused mid.journal.front h n c.in-Err.e) granted.0 refused.1)),
      undone-refused g.D.Device.state old mid (c.give.new.self) (c.give_back.new.self) c.args.n c.in_ok-granted.granted c.in-Err.returned
          granted.0 granted.1 c.reserve.ensures.device refused.0 refused.2 c.give_back.ensures.gives c.give_back.ensures.device,
      refused.3,
    )

pub returns-in_err-granted-clause-err : goal.returns-in_err-granted-clause-err
returns-in_err-granted-clause-err g c =
    let p = err_from_is_err_and c.from_residual.result c.from_residual.ensures.1 in
    rw (p.1, p.2) (NotGranted c.in_err-granted.ensures.err.0, c.in_err-granted.ensures.err.1, refl)
