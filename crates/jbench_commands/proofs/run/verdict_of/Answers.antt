use Rattle.jbench_commands.proofs.run.verdict_of.Goals as goal

-- of the script that was read, with the stops of the words
pub returns-clause-run : goal.returns-clause-run
returns-clause-run g c = record {
  script = c.in_ok-script.script;
  taken = c.in_ok-script.ensures;
  run = record { stops = c.stops_of-stops.result; told = c.stops_of-stops.ensures; run = c.in_ok-verdict-2.ensures.run };
}
