use Rattle.block_device.proofs.OneCall.{stays-joins}
use Rattle.jbench_commands.specs.Applying.{after_told, ending_told}
use Rattle.jbench_commands.proofs.Unapplying.{after-reads, only-read, unapplied-after}
use Rattle.jbench_commands.proofs.apply.apply_lines.Goals as goal

-- this device, which was only read before, was opened, and everything after that was done
pub returns-in-Ok-apply_script-clause-done : goal.returns-in-Ok-apply_script-clause-done
returns-in-Ok-apply_script-clause-done g c = record {
  opened = c.in-Ok-open.opened;
  opens = λ honest. rw (← c.in-Ok.ensures.stays.shape, ← c.in-Ok.ensures.stays.disk) (c.in-Ok-open.ensures.opened honest);
  operations = c.in-Ok.prepared.operations.items;
  for_device = record {
    measures = c.in-Ok.ensures.for_device.measures;
    of_text = c.in-Ok.ensures.for_device.of_text;
    are = λ honest. c.in-Ok.ensures.for_device.are (c.in-Ok-open.ensures.honest honest);
  };
  before = _;
  kept = c.in-Ok.ensures.out;
  done = c.in-Ok-apply_script.ensures.done;
}

-- after a refused script the device was only read
pub returns-in-Err-clause-left : goal.returns-in-Err-clause-left
returns-in-Err-clause-left g c = λ honest.
    let old = g.D.Device.state c.args.device in
    let new = g.D.Device.state c.refuse_fault.new.device in
    only-read old new (stays-joins old (g.D.Device.state c.prepare.new.device) new c.prepare.ensures.stays c.refuse_fault.ensures.device.stays)

-- after a refused log an opening was refused
pub returns-clause-left : goal.returns-clause-left
returns-clause-left g c = λ honest.
    after-reads (g.D.Device.state c.args.device) (g.D.Device.state c.prepare.new.device) (g.D.Device.state c.in-Err-open.device) (g.D.Device.state c.refuse.new.device) c.in-Ok.ensures.stays
    (c.in-Err-open.ensures.moments (c.refuse.ensures.device.honest honest)) c.refuse.ensures.device.stays

-- the operations' device is left
pub returns-in-Ok-open-clause-left : goal.returns-in-Ok-open-clause-left
returns-in-Ok-open-clause-left g c =
    unapplied-after g.D.Device.state g.D.Device.honest c.args.device c.args.script.now c.in-Ok-open.opened c.in-Ok.prepared.operations.items
    (after_told c.args.words.now.keep_going c.args.words.now.make_room) (ending_told c.args.words.now.stay) c.in-Err-apply_script.unapplied
    (λ honest. rw (← c.in-Ok.ensures.stays.shape, ← c.in-Ok.ensures.stays.disk) (c.in-Ok-open.ensures.opened honest))
    (record {
      measures = c.in-Ok.ensures.for_device.measures;
      of_text = c.in-Ok.ensures.for_device.of_text;
      are = λ honest. c.in-Ok.ensures.for_device.are (c.in-Ok-open.ensures.honest honest);
    })
    c.in-Err-apply_script.ensures.left
