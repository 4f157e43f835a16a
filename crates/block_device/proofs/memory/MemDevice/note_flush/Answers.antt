use Rattle.journal_model.specs.declared.number.Area.TheVariants.{Log, Home}
use Rattle.block_device.proofs.Calls.{indexes-flush}
use Rattle.block_device.proofs.memory.MemDevice.note_flush.Goals as goal

pub invariant_of-self-in-Log : goal.invariant_of-self-in-Log
invariant_of-self-in-Log c =
    let d = c.self.inside in
    rw (c.in_ok-push.ensures.items, c.in-Log.is) (indexes-flush d.size d.index d.calls.items d.writes d.log_flushed d.home_flushed Log c.self.invariant)

pub invariant_of-self-in-Home : goal.invariant_of-self-in-Home
invariant_of-self-in-Home c =
    let d = c.self.inside in
    rw (c.in_ok-push.ensures.items, c.in-Home.is) (indexes-flush d.size d.index d.calls.items d.writes d.log_flushed d.home_flushed Home c.self.invariant)
