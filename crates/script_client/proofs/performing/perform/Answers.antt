use Rattle.script_client.proofs.performing.perform.Goals as goal

-- from the new journal
pub returns-in-Ok-perform_all-clause-outcomes : goal.returns-in-Ok-perform_all-clause-outcomes
returns-in-Ok-perform_all-clause-outcomes g c =
    let writes = c.in-Ok-perform_all.ensures.all in
    record {
      lines = writes.lines;
      said = writes.said;
      are = record {
        start = record { client = c.in-Ok.interpreter.client; names = c.in-Ok.interpreter.slots };
        begun = c.in-Ok.ensures.begun;
        performs = record {
          last = record { client = c.perform_all.new.interpreter.client; names = c.perform_all.new.interpreter.slots };
          all = writes.are;
          left = c.left_of.ensures.left;
        };
      };
    }
