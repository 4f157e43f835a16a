use Rattle.std.proofs.Common.{◌<◌, arith, refl, length}
use Rattle.byte_volume.specs.Writing.MayAddTicket.{NoTicket}
use Rattle.byte_volume.proofs.Overlays.{aligned_by, wrote_begin, wrote_whole}
use Rattle.byte_volume.proofs.Refusals.{write_refused}
use Rattle.byte_volume.proofs.TicketLists.{any_err}
use Rattle.byte_volume.proofs.WholeBlocks.{length-aligned, length-overlay, past_fits, within_credits}
use Rattle.byte_volume.proofs.writing.write_once.Goals as goal

-- the bytes are whole blocks
pub returns-then-end-size-eq0-clause-once : goal.returns-then-end-size-eq0-clause-once
returns-then-end-size-eq0-clause-once g c =
    let overlay = aligned_by g.D.Device.state g.D.Device.honest g.J.JournalName.name _ c.block_size-size.result c.args.offset _ c.args.bytes.now c.block_size-size.ensures.size refl
    c.if-offset-size-eq0.true c.if-end-size-eq0.true in
    wrote_whole g.D.Device.state g.D.Device.honest g.J.JournalName.name _ c.block_size-size.result c.args.offset c.write_blocks.new.stopped c.args.bytes.now c.args.bytes.now
    c.args.tickets.now.items c.write_blocks.new.tickets.items c.write_blocks.result c.block_size-size.ensures.size overlay c.write_blocks.ensures.steps

pub returns-then-end-size-eq0-clause-left : goal.returns-then-end-size-eq0-clause-left
returns-then-end-size-eq0-clause-left g c =
    let overlay = aligned_by g.D.Device.state g.D.Device.honest g.J.JournalName.name _ c.block_size-size.result c.args.offset _ c.args.bytes.now c.block_size-size.ensures.size refl
    c.if-offset-size-eq0.true c.if-end-size-eq0.true in
    wrote_begin g.D.Device.state g.D.Device.honest g.J.JournalName.name _ c.block_size-size.result c.args.offset c.write_blocks.new.stopped c.args.bytes.now c.args.bytes.now
    c.args.tickets.now.items c.write_blocks.new.tickets.items c.write_blocks.result c.block_size-size.ensures.size overlay c.write_blocks.ensures.left

pub write_blocks-requires-clause-credits : goal.write_blocks-requires-clause-credits
write_blocks-requires-clause-credits g c =
    let some : 0 < g.J.JournalName.name.shape.block_size = omega (arith, c.block_size-size.ensures.size, c.block_size-size.ensures.some) in
    within_credits _ _ c.args.offset (length c.args.bytes.now) _ some (length-aligned _ c.args.offset (length c.args.bytes.now) some) c.requires.credits

pub returns-then-end-size-eq0-clause-err : goal.returns-then-end-size-eq0-clause-err
returns-then-end-size-eq0-clause-err g c =
    let some : 0 < g.J.JournalName.name.shape.block_size = omega (arith, c.block_size-size.ensures.size, c.block_size-size.ensures.some) in
    write_refused g.D.Device.state _ _ _ c.args.offset (length c.args.bytes.now) _ c.write_blocks.result c.block_size-size.ensures.size some
    (length-aligned _ c.args.offset (length c.args.bytes.now) some) c.write_blocks.ensures.err

-- the rest of a block could not be had
pub returns-in_err-whole-clause-left : goal.returns-in_err-whole-clause-left
returns-in_err-whole-clause-left g c = any_err c.from_residual.result (NoTicket refl)

-- the blocks of the overlay
pub returns-clause-once : goal.returns-clause-once
returns-clause-once g c =
    wrote_whole g.D.Device.state g.D.Device.honest g.J.JournalName.name _ c.block_size-size.result c.args.offset c.write_blocks-2.new.stopped c.args.bytes.now c.deref.result.now
    c.args.tickets.now.items c.write_blocks-2.new.tickets.items c.write_blocks-2.result c.block_size-size.ensures.size
    (rw c.deref.ensures.value c.in_ok-whole.ensures.overlay) c.write_blocks-2.ensures.steps

pub returns-clause-left : goal.returns-clause-left
returns-clause-left g c =
    wrote_begin g.D.Device.state g.D.Device.honest g.J.JournalName.name _ c.block_size-size.result c.args.offset c.write_blocks-2.new.stopped c.args.bytes.now c.deref.result.now
    c.args.tickets.now.items c.write_blocks-2.new.tickets.items c.write_blocks-2.result c.block_size-size.ensures.size
    (rw c.deref.ensures.value c.in_ok-whole.ensures.overlay) c.write_blocks-2.ensures.left

pub write_blocks-requires-2-clause-fits : goal.write_blocks-requires-2-clause-fits
write_blocks-requires-2-clause-fits g c =
    let some : 0 < g.J.JournalName.name.shape.block_size = omega (arith, c.block_size-size.ensures.size, c.block_size-size.ensures.some) in
    let long = length-overlay g.D.Device.state g.D.Device.honest g.J.JournalName.name _ c.args.offset c.args.bytes.now _ some c.in_ok-whole.ensures.overlay in
    rw (c.deref.ensures.value, c.block_size-size.ensures.size) (past_fits _ c.args.offset (length c.args.bytes.now) _ _ some long c.requires.fits)

pub write_blocks-requires-2-clause-credits : goal.write_blocks-requires-2-clause-credits
write_blocks-requires-2-clause-credits g c =
    let some : 0 < g.J.JournalName.name.shape.block_size = omega (arith, c.block_size-size.ensures.size, c.block_size-size.ensures.some) in
    let long = length-overlay g.D.Device.state g.D.Device.honest g.J.JournalName.name _ c.args.offset c.args.bytes.now _ some c.in_ok-whole.ensures.overlay in
    rw c.deref.ensures.value (within_credits _ _ c.args.offset (length c.args.bytes.now) _ some long c.requires.credits)

pub returns-clause-err : goal.returns-clause-err
returns-clause-err g c =
    let some : 0 < g.J.JournalName.name.shape.block_size = omega (arith, c.block_size-size.ensures.size, c.block_size-size.ensures.some) in
    let long = length-overlay g.D.Device.state g.D.Device.honest g.J.JournalName.name _ c.args.offset c.args.bytes.now _ some c.in_ok-whole.ensures.overlay in
    write_refused g.D.Device.state _ _ _ c.args.offset (length c.args.bytes.now) (length c.deref.result.now) c.write_blocks-2.result c.block_size-size.ensures.size some
    (rw c.deref.ensures.value long) c.write_blocks-2.ensures.err
