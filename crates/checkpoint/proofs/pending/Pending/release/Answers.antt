use Rattle.std.proofs.Common.{ap, subst, arith, ℕ}
use Rattle.checkpoint.specs.declared.pending.Pending.TheInside.{Inside}
use Rattle.checkpoint.specs.Copies.{CopiesValue}
use Rattle.checkpoint.specs.PendingView.{KeepsPending}
use Rattle.checkpoint.specs.Steps.{AreDead}
use Rattle.checkpoint.proofs.Kept.{kept-pending}
use Rattle.checkpoint.proofs.Releasing.{DropsFirst, released, released-front, released-ordered}
use Rattle.checkpoint.proofs.pending.Pending.release.Goals as goal

-- the fields after it
abbrev after : goal.After-self-2-1 → Inside
after c = record { copies = c.drop_released-dropped.new.copies; added = c.self.inside.added; front = c.skip_dead-self-inside.result; unwritten = c.skip_dead-self-inside-2.result }

-- what it does to the fields
steps : (c : goal.After-self-2-1) → DropsFirst c.self.inside c.args.bound c.drop_released-dropped.result (after c)
steps c =
    let copies = c.drop_released-dropped.new.copies.copies in
    record {
      kept = c.self.invariant;
      releases = c.drop_released-dropped.ensures.releases;
      room = ap (λ (v : CopiesValue). v.room) c.drop_released-dropped.ensures.dropped;
      all = ap (λ (v : CopiesValue). v.copies) c.drop_released-dropped.ensures.dropped;
      front = subst (λ (i : ℕ). AreDead copies i c.skip_dead-self-inside.result) c.saturating_sub.ensures c.skip_dead-self-inside.ensures.dead;
      unwritten = subst (λ (i : ℕ). AreDead copies i c.skip_dead-self-inside-2.result) c.saturating_sub-2.ensures c.skip_dead-self-inside-2.ensures.dead;
      after = omega (arith, c.saturating_sub-2.ensures, c.skip_dead-self-inside-2.ensures.after);
    }

-- the fields keep what they kept
keeps : (c : goal.After-self-2-1) → KeepsPending (after c)
keeps c =
    record {
      copies = c.drop_released-dropped.ensures.kept;
      ordered = released-ordered c.self.inside c.args.bound c.drop_released-dropped.result (after c) (steps c);
      reserved = omega (arith, c.self.invariant.reserved, (steps c).room);
      before_front = released-front c.self.inside c.args.bound c.drop_released-dropped.result (after c) (steps c);
      front = c.skip_dead-self-inside.ensures.live;
      unwritten = c.skip_dead-self-inside-2.ensures.live;
    }

pub invariant_of-self : goal.invariant_of-self
invariant_of-self c = keeps c

pub returns-clause-released : goal.returns-clause-released
returns-clause-released c = rw (← c.self.view_is) (released c.self.inside c.args.bound c.drop_released-dropped.result (after c) (steps c))

pub returns-clause-kept : goal.returns-clause-kept
returns-clause-kept c = kept-pending (after c) (keeps c)
