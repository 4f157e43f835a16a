use Rattle.std.proofs.Common.{◌≡◌, ◌<◌, ℕ, Some, sym, ap, ◌∙◌, arith}
use Rattle.std.proofs.lemmas.Bool.Decides.{nat_tests}
use Rattle.checkpoint.specs.declared.version.Version.{Version}
use Rattle.checkpoint.specs.PendingView.{key_of}
use Rattle.checkpoint.proofs.Kept.{first-unwritten, kept-pending, newest-live}
use Rattle.checkpoint.proofs.pending.Pending.next.Goals as goal

pub returns-then-self-len-clause-kept : goal.returns-then-self-len-clause-kept
returns-then-self-len-clause-kept c = rw (← c.self.view_is) (kept-pending c.self.inside c.self.invariant)

-- the transaction of the first is above the bound
pub returns-then-gt-clause-none : goal.returns-then-gt-clause-none
returns-then-gt-clause-none c =
    let copy = c.at-copy.result in
    rw (← c.self.view_is)
    (λ t b first.
    let one : Some (key_of copy) ≡ Some (t, b) = sym (first-unwritten c.self.inside copy c.self.invariant c.at-copy.ensures) ∙ first in
    let key : ◌≡◌ {A = ℕ × ℕ} (key_of copy) (t, b) = cc in
    let tid = ap (λ (k : ℕ × ℕ). k.0) key in
    let higher : c.args.bound < copy.tid = grind (arith, nat_tests, c.gt.ensures, c.if-gt.true) in
    omega (arith, tid, higher))

pub returns-then-gt-clause-kept : goal.returns-then-gt-clause-kept
returns-then-gt-clause-kept c = rw (← c.self.view_is) (kept-pending c.self.inside c.self.invariant)

pub returns-clause-first : goal.returns-clause-first
returns-clause-first c =
    let copy = c.at-copy.result in
    rw (← c.self.view_is)
    (first-unwritten c.self.inside copy c.self.invariant c.at-copy.ensures
    ∙ ap (λ (v : Version). let k : ℕ × ℕ = (v.tid, copy.block) in Some k) (sym c.version.ensures))

pub returns-clause-newest : goal.returns-clause-newest
returns-clause-newest c =
    let copy = c.at-copy.result in
    rw (← c.self.view_is)
    (newest-live c.self.inside c.self.inside.unwritten copy c.self.invariant c.at-copy.ensures (c.self.invariant.unwritten.live copy c.at-copy.ensures)
    ∙ ap Some (sym c.version.ensures))

pub returns-clause-kept : goal.returns-clause-kept
returns-clause-kept c = rw (← c.self.view_is) (kept-pending c.self.inside c.self.invariant)
