use Rattle.std.proofs.Common.{◌≤◌, ◌/◌, arith, length, subst, sym, ℕ}
use Rattle.std.proofs.lemmas.Result.{IfErr-weaker, err_from_is_err_and}
use Rattle.byte_volume.specs.Refusals.{IsAmong, StepRefused}
use Rattle.byte_volume.specs.Refusals.HandleRefused.{NotStarted, OfStep}
use Rattle.byte_volume.specs.Writing.MayAddTicket.{NoTicket}
use Rattle.byte_volume.proofs.TicketLists.{any_err, leaves, wrote_blocks, wrote_first}
use Rattle.byte_volume.proofs.writing.write_blocks.Goals as goal

-- there is no memory for a ticket
pub returns-in_err-try_reserve-clause-left : goal.returns-in_err-try_reserve-clause-left
returns-in_err-try_reserve-clause-left g c = any_err c.from_residual.result (NoTicket c.try_reserve.ensures.items)

-- no handle was started
pub returns-in_err-handle-clause-err : goal.returns-in_err-handle-clause-err
returns-in_err-handle-clause-err g c =
    let p = err_from_is_err_and c.from_residual-in_err-handle.result c.from_residual-in_err-handle.ensures.1 in
    let within = subst (λ (k : ℕ). length c.args.bytes.now / k ≤ g.J.JournalName.name.capacity) (sym c.block_size-size.ensures.size) c.requires.credits in
    rw (p.1, p.2) (NotStarted (length c.args.bytes.now / c.block_size-size.result) within c.in_err-handle.ensures.err)

pub returns-in_err-handle-clause-left : goal.returns-in_err-handle-clause-left
returns-in_err-handle-clause-left g c = any_err c.from_residual-in_err-handle.result (NoTicket c.try_reserve.ensures.items)

-- its writes were made
pub returns-clause-steps : goal.returns-clause-steps
returns-clause-steps g c =
    let left = leaves c.in_ok-handle.handle c.fill-filled.new.handle c.stop-ticket.result c.register.new.self c.args.tickets.now.items c.try_reserve.new.self.items c.push_reserved.new.self.items
    c.stop-ticket.ensures.ticket c.fill-filled.ensures.number c.fill-filled.ensures.tid c.in_ok-handle.ensures.ok.1 (omega (arith, c.tid.ensures, c.register.ensures.noted))
    c.try_reserve.ensures.items c.push_reserved.ensures.items in
    wrote_blocks _ _ _ _ c.args.first _ c.block_size-size.result c.args.bytes.now _ _ c.fill-filled.result c.block_size-size.ensures.size left c.fill-filled.ensures.steps

-- or some of them
pub returns-clause-left : goal.returns-clause-left
returns-clause-left g c =
    let left = leaves c.in_ok-handle.handle c.fill-filled.new.handle c.stop-ticket.result c.register.new.self c.args.tickets.now.items c.try_reserve.new.self.items c.push_reserved.new.self.items
    c.stop-ticket.ensures.ticket c.fill-filled.ensures.number c.fill-filled.ensures.tid c.in_ok-handle.ensures.ok.1 (omega (arith, c.tid.ensures, c.register.ensures.noted))
    c.try_reserve.ensures.items c.push_reserved.ensures.items in
    wrote_first _ _ _ _ c.args.first _ c.block_size-size.result c.args.bytes.now _ _ c.fill-filled.result c.block_size-size.ensures.size left c.fill-filled.ensures.left

pub returns-clause-err : goal.returns-clause-err
returns-clause-err g c =
    IfErr-weaker c.fill-filled.result _ _
    (λ e why. OfStep (subst (λ (k : ℕ). StepRefused g.row.D.Denot (IsAmong c.args.first (length c.args.bytes.now / k)) e) c.block_size-size.ensures.size why))
    c.fill-filled.ensures.err
