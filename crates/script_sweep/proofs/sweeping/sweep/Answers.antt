use Rattle.std.proofs.Common.{ℕ, ◌≡◌, ◌+◌, ◌∙◌, ap, subst, sym}
use Rattle.script_sweep.specs.declared.counts.Counts.{Counts}
use Rattle.script_sweep.specs.Steps.{Steps}
use Rattle.script_sweep.specs.Sweeping.{SweepsStop, none_wrong}
use Rattle.script_sweep.proofs.Sweeps.{stops-writes, sweep-images, sweep-right}
use Rattle.script_sweep.proofs.sweeping.sweep.Goals as goal

-- each of the writes was swept
pub returns-clause-swept : goal.returns-clause-swept
returns-clause-swept g c =
    let old = c.of_writes-counts.result in
    let new = c.sweep_stops-swept.new.counts in
    let start : ℕ → Counts = λ n. record { writes = n; images = 0; again = 0; not_right = none_wrong } in
    let same : new.writes ≡ old.writes = stops-writes g.J.Swept.keeps c.args.script.now c.in_ok-named.named old.writes old new c.in_ok-swept.ensures in
    let told : old.writes ≡ c.writes.result = ap (λ (k : Counts). k.writes) c.of_writes-counts.ensures in
    let begun : old ≡ start new.writes = c.of_writes-counts.ensures ∙ ap start (sym (same ∙ told)) in
    record {
      named = c.in_ok-named.named;
      names = c.in_ok-named.ensures;
      whole = c.in_ok-whole.whole;
      run = c.in_ok-whole.ensures;
      writes = same ∙ told ∙ c.writes.ensures;
      stops =
          subst (λ (n : ℕ). Steps (λ i. SweepsStop g.J.Swept.keeps c.args.script.now c.in_ok-named.named (i + 1)) n (start new.writes) new) (sym same)
          (subst (λ (s : Counts). Steps (λ i. SweepsStop g.J.Swept.keeps c.args.script.now c.in_ok-named.named (i + 1)) old.writes s new) begun c.in_ok-swept.ensures);
    }

pub returns-clause-images : goal.returns-clause-images
returns-clause-images g c = sweep-images g.J.Swept.keeps c.args.script.now c.sweep_stops-swept.new.counts (returns-clause-swept g c)

pub returns-clause-right : goal.returns-clause-right
returns-clause-right g c = sweep-right g.J.Swept.keeps c.args.script.now c.sweep_stops-swept.new.counts (returns-clause-swept g c)
