use Rattle.std.proofs.Common.{refl, sym}
use Rattle.std.proofs.lemmas.Bool.{false≢true}
use Rattle.jbench_commands.proofs.sweep.sweep_script.Goals as goal

-- only the stops
pub returns-then-not-words-clause-swept : goal.returns-then-not-words-clause-swept
returns-then-not-words-clause-swept g c = record {
  script = c.in_ok-script.script;
  taken = c.in_ok-script.ensures;
  of_stops = c.in_ok-of_stops.of_stops;
  stops = c.in_ok-of_stops.ensures.swept;
  alone = λ told. refl;
  more = λ told. absurd (false≢true (sym (rw told at c.if-not-words.true)));
}

-- also the failing calls
pub returns-clause-swept : goal.returns-clause-swept
returns-clause-swept g c = record {
  script = c.in_ok-script.script;
  taken = c.in_ok-script.ensures;
  of_stops = c.in_ok-of_stops.of_stops;
  stops = c.in_ok-of_stops.ensures.swept;
  alone = λ told. absurd (false≢true (rw told at c.if-not-words.false));
  more = λ told. (c.in_ok-of_failures.of_failures, c.in_ok-of_failures.ensures.swept, c.saturating_add.ensures);
}
