use Rattle.std.proofs.Common.{replicate}
use Rattle.byte_volume.proofs.Pieces.{by_one, nothing, some_by_one, zeros_not_within}
use Rattle.byte_volume.proofs.TicketLists.{any_err, none_noted, noted_added, noted_maybe}
use Rattle.byte_volume.proofs.writing.write_zeros.Goals as goal

-- the range ends past 2^64
pub returns-then-is_none-clause-left : goal.returns-then-is_none-clause-left
returns-then-is_none-clause-left g c = nothing g.D.Device.state g.D.Device.honest g.J.JournalName.name _ c.args.offset (replicate c.args.count 0) c.clear.new.self.items c.clear.ensures.items

pub returns-then-is_none-clause-noted : goal.returns-then-is_none-clause-noted
returns-then-is_none-clause-noted g c = none_noted c.args.stopped.now c.clear.new.self.items c.clear.ensures.items

-- one handle wrote all zeros
pub returns-then-lie_within-clause-once : goal.returns-then-lie_within-clause-once
returns-then-lie_within-clause-once g c = λ _.
    by_one g.D.Device.state g.D.Device.honest g.J.JournalName.name _ _ c.args.offset c.zero_once.new.stopped (replicate c.args.count 0) c.clear.new.self.items c.zero_once.new.tickets.items
    c.clear.ensures.items c.in_ok-zero_once.ensures.once

pub returns-then-lie_within-clause-noted : goal.returns-then-lie_within-clause-noted
returns-then-lie_within-clause-noted g c =
    noted_added _ c.args.stopped.now c.zero_once.new.stopped c.clear.new.self.items c.zero_once.new.tickets.items c.zero_once.ensures.kept
    (none_noted c.args.stopped.now c.clear.new.self.items c.clear.ensures.items) c.in_ok-zero_once.ensures.once

-- or some of them
pub returns-in_err-zero_once-clause-left : goal.returns-in_err-zero_once-clause-left
returns-in_err-zero_once-clause-left g c =
    any_err c.from_residual.result
    (some_by_one g.D.Device.state g.D.Device.honest g.J.JournalName.name _ c.args.offset c.zero_once.new.stopped (replicate c.args.count 0) c.clear.new.self.items
    c.zero_once.new.tickets.items c.clear.ensures.items c.in_err-zero_once.ensures.left)

pub returns-in_err-zero_once-clause-noted : goal.returns-in_err-zero_once-clause-noted
returns-in_err-zero_once-clause-noted g c =
    noted_maybe _ c.args.stopped.now c.zero_once.new.stopped c.clear.new.self.items c.zero_once.new.tickets.items c.zero_once.ensures.kept
    (none_noted c.args.stopped.now c.clear.new.self.items c.clear.ensures.items) c.in_err-zero_once.ensures.left

-- one handle has no credits for them
pub returns-clause-once : goal.returns-clause-once
returns-clause-once g c =
    let more = rw (c.block_size.ensures.size, c.capacity.ensures.capacity) at c.lie_within.ensures.more in
    zeros_not_within g.D.Device.state g.D.Device.honest g.J.JournalName.name _ _ c.args.offset c.args.count c.zero_pieces.new.tickets.items c.zero_pieces.result (more c.if-lie_within.false)
    c.zero_pieces.ensures.pieces
