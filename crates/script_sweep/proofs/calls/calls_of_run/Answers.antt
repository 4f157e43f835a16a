use Rattle.script_sweep.proofs.calls.calls_of_run.Goals as goal

-- the calls are counted after the opening
pub returns : goal.returns
returns c =
    let done = c.in_ok-performed.ensures.outcomes in
    record {
      opened = c.in_ok-opened.opened;
      anew = c.in_ok-opened.ensures.anew;
      device = c.in_ok-performed.performed.device;
      sealed = c.in_ok-performed.performed.sealed.items;
      shown = c.in_ok-performed.performed.acknowledged;
      lines = done.lines;
      performed = rw (← c.deref.ensures.value) done.are;
      calls_are = c.calls.ensures;
    }
