use Rattle.byte_volume.proofs.Pieces.{not_within, nothing, one_piece, part_of_one}
use Rattle.byte_volume.proofs.TicketLists.{none_noted, noted_either}
use Rattle.byte_volume.proofs.writing.write_range.Goals as goal

-- the range ends past 2^64
pub returns-then-is_none-clause-left : goal.returns-then-is_none-clause-left
returns-then-is_none-clause-left g c = nothing g.D.Device.state g.D.Device.honest g.J.JournalName.name _ c.args.offset c.args.bytes.now c.clear.new.self.items c.clear.ensures.items

pub returns-then-is_none-clause-noted : goal.returns-then-is_none-clause-noted
returns-then-is_none-clause-noted g c = none_noted c.args.stopped.now c.clear.new.self.items c.clear.ensures.items

-- one handle wrote all bytes
pub returns-then-lie_within-clause-once : goal.returns-then-lie_within-clause-once
returns-then-lie_within-clause-once g c =
    one_piece g.D.Device.state g.D.Device.honest g.J.JournalName.name _ _ c.args.offset c.write_once.new.stopped c.args.bytes.now c.clear.new.self.items c.write_once.new.tickets.items c.write_once.result
    c.clear.ensures.items c.write_once.ensures.once

pub returns-then-lie_within-clause-left : goal.returns-then-lie_within-clause-left
returns-then-lie_within-clause-left g c =
    part_of_one g.D.Device.state g.D.Device.honest g.J.JournalName.name _ c.args.offset c.write_once.new.stopped c.args.bytes.now c.clear.new.self.items c.write_once.new.tickets.items c.write_once.result
    c.clear.ensures.items c.write_once.ensures.left

pub returns-then-lie_within-clause-noted : goal.returns-then-lie_within-clause-noted
returns-then-lie_within-clause-noted g c =
    noted_either _ _ c.args.stopped.now c.write_once.new.stopped c.clear.new.self.items c.write_once.new.tickets.items c.write_once.result c.write_once.ensures.kept
    (none_noted c.args.stopped.now c.clear.new.self.items c.clear.ensures.items) c.write_once.ensures.once c.write_once.ensures.left

-- one handle has no credits for them
pub returns-clause-once : goal.returns-clause-once
returns-clause-once g c =
    let more = rw (c.block_size.ensures.size, c.capacity.ensures.capacity) at c.lie_within.ensures.more in
    not_within g.D.Device.state g.D.Device.honest g.J.JournalName.name _ _ c.args.offset c.args.bytes.now c.write_pieces.new.tickets.items c.write_pieces.result (more c.if-lie_within.false)
    c.write_pieces.ensures.pieces
