use Rattle.std.proofs.Common.{◌≡◌, ◌+◌, ◌-◌, ◌<◌, ◌≤◌, ℕ, List, Some, inl, inr, sym, ap, subst, ◌∙◌, arith, length, length-drop, drop}
use Rattle.std.specs.List.{slice_get}
use Rattle.std.proofs.lemmas.Bool.{cases_lt}
use Rattle.std.proofs.lemmas.Bool.Decides.{nat_tests}
use Rattle.std.proofs.lemmas.List.{drop-drop}
use Rattle.std.proofs.lemmas.Map.Keys.{le_from_is_le}
use Rattle.std.proofs.lemmas.Option.{none-some, slice_get_past}
use Rattle.checkpoint.specs.declared.copies.QueuedCopy.{QueuedCopy}
use Rattle.checkpoint.specs.Copies.{CopiesValue}
use Rattle.checkpoint.proofs.Released.{get-drop}
use Rattle.checkpoint.proofs.steps.drop_released.Goals as goal
use Rattle.checkpoint.proofs.steps.drop_released.Goals.{then-loop-copies-test+else-le, else-loop-copies-test}

-- the first copy that is left
first-left : (n : ℕ) (all left : List QueuedCopy) → left ≡ drop n all → slice_get left 0 ≡ slice_get all n
first-left n all left is = ap (λ (cs : List QueuedCopy). slice_get cs 0) is ∙ get-drop n all 0 ∙ ap (slice_get all) (omega arith)

-- one copy more is dropped, of a transaction up to the bound
pub loop-copies-preserved : goal.loop-copies-preserved
loop-copies-preserved c =
    let old = c.loop-copies.copies.copies in
    let all = c.args.copies.now.copies in
    let known = c.loop-copies.invariant in
    let n = c.len-all.result - length old in
    let new : c.pop.new.self.copies ≡ drop 1 old = ap (λ (v : CopiesValue). v.copies) c.pop.ensures.popped in
    let left = ap length new ∙ length-drop 1 old in
    let some : 0 < length old = omega (arith, c.len.ensures, c.loop-copies-test.true) in
    let more : n + 1 ≡ c.len-all.result - length c.pop.new.self.copies = omega (arith, known.within) in
    record {
      rest = new ∙ ap (drop 1) known.rest ∙ drop-drop 1 n all ∙ ap (λ (m : ℕ). drop m all) more;
      all = known.all;
      room = ap (λ (v : CopiesValue). v.room) c.pop.ensures.popped ∙ known.room;
      within = omega (arith, known.within);
      below = λ k d before here.
          elim (cases_lt k n) [
            | inl earlier ↦ known.below k d earlier here
            | inr last ↦
                let at : k ≡ n = omega arith in
                let one : Some c.at.result ≡ Some d = sym c.at.ensures ∙ first-left n all old known.rest ∙ ap (slice_get all) (sym at) ∙ here in
                let same : c.at.result ≡ d = cc in
                subst (λ (x : QueuedCopy). x.tid ≤ c.args.bound) same (le_from_is_le c.at.result.tid c.args.bound (sym c.le.ensures ∙ c.if-le.true))
          ];
      kept = c.pop.ensures.kept;
    }

-- the next copy is of a higher transaction, or none is left
pub returns-clause-releases : goal.returns-clause-releases
returns-clause-releases c =
    let left = c.loop-copies.copies.copies in
    let all = c.args.copies.now.copies in
    let known = c.loop-copies.invariant in
    let count : c.len-all.result - length left ≡ c.len-all.result - c.len-2.result = ap (λ (m : ℕ). c.len-all.result - m) (sym c.len-2.ensures) in
    let next : slice_get left 0 ≡ slice_get all (c.len-all.result - c.len-2.result) = first-left (c.len-all.result - length left) all left known.rest ∙ ap (slice_get all) count in
    record {
      within = omega (arith, known.all);
      below = subst (λ (m : ℕ). (k : ℕ) (d : QueuedCopy) → k < m → slice_get all k ≡ Some d → d.tid ≤ c.args.bound) count known.below;
      above = λ d here.
          elim c.loop-copies-test.branch [
            | then-loop-copies-test+else-le w ↦
                let one : Some w.at.result ≡ Some d = sym w.at.ensures ∙ next ∙ here in
                let same : w.at.result ≡ d = cc in
                let higher : c.args.bound < w.at.result.tid = grind (arith, nat_tests, w.le.ensures, w.if-le.false) in
                subst (λ (x : QueuedCopy). c.args.bound < x.tid) same higher
            | else-loop-copies-test w ↦ absurd (none-some d (sym (slice_get_past left 0 (omega (arith, c.len.ensures, w.loop-copies-test.false))) ∙ next ∙ here))
          ];
    }
