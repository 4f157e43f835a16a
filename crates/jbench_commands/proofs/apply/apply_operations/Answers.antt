use Rattle.jbench_commands.proofs.Staying.{after-closed, after-next, after-stays, ended-stays}
use Rattle.jbench_commands.proofs.apply.apply_operations.Goals as goal

-- the device was only read since
pub returns-in-Ok-clause-ended : goal.returns-in-Ok-clause-ended
returns-in-Ok-clause-ended g c = λ honest.
    rw (c.say_end.ensures.sealed, c.say_end.ensures.acknowledged)
    (ended-stays c.say_end.ensures.device.stays (c.in-Ok.ensures.ended (c.say_end.ensures.device.honest honest)))

-- so its log is still closed
pub returns-in-Ok-clause-closed : goal.returns-in-Ok-clause-closed
returns-in-Ok-clause-closed g c = λ ending.
    rw c.say_end.ensures.sealed
    (after-closed _ c.say_end.ensures.after ending c.say_end.ensures.device.stays c.say_end.ensures.device.honest (c.in-Ok.ensures.closed ending))

-- and its superblock has the number
pub returns-in-Ok-clause-says : goal.returns-in-Ok-clause-says
returns-in-Ok-clause-says g c = λ ending.
    after-next _ c.say_end.ensures.after ending c.say_end.ensures.device.stays c.say_end.ensures.device.honest (c.in-Ok.ensures.closed ending)

-- a journal that stays is as it was left
pub returns-in-Ok-clause-stays : goal.returns-in-Ok-clause-stays
returns-in-Ok-clause-stays g c = λ ending honest.
    rw (c.say_end.ensures.sealed, c.say_end.ensures.acknowledged)
    (after-stays c.say_end.ensures.after ending (c.in-Ok.ensures.stays ending (c.say_end.ensures.device.honest honest)))

-- the operations, and the line after them
pub returns-in-Ok-clause-operated : goal.returns-in-Ok-clause-operated
returns-in-Ok-clause-operated g c = record {
  device = c.in-Ok.applied.left.device;
  applied = c.in-Ok.applied.end;
  said = _;
  does = rw (c.say_end.ensures.sealed, c.say_end.ensures.acknowledged) c.in-Ok.ensures.outcomes;
  stays = c.say_end.ensures.device.stays;
  says = c.say_end.ensures.after;
}

-- reads were correct at the opening
pub returns-in-Ok-clause-honest : goal.returns-in-Ok-clause-honest
returns-in-Ok-clause-honest g c = λ honest. c.in-Ok.ensures.honest (c.say_end.ensures.device.honest honest)
