use Rattle.std.proofs.Common.{arith}
use Rattle.std.proofs.lemmas.Result.{IfErr-weaker}
use Rattle.byte_volume.specs.Refusals.RevokeRefused.{AtStep}
use Rattle.byte_volume.specs.Writing.MayAddTicket.{NoTicket}
use Rattle.byte_volume.proofs.TicketLists.{any_err, leaves, revoked_blocks, revoked_first}
use Rattle.byte_volume.proofs.trimming.revoke_once.Goals as goal

-- there is no memory for a ticket
pub returns-in_err-try_reserve-clause-left : goal.returns-in_err-try_reserve-clause-left
returns-in_err-try_reserve-clause-left g c = any_err c.from_residual.result (NoTicket c.try_reserve.ensures.items)

-- no handle was started
pub returns-in_err-handle-clause-left : goal.returns-in_err-handle-clause-left
returns-in_err-handle-clause-left g c = any_err c.from_residual-in_err-handle.result (NoTicket c.try_reserve.ensures.items)

-- its revokes were made
pub returns-clause-steps : goal.returns-clause-steps
returns-clause-steps g c =
    let left = leaves c.in_ok-handle.handle c.revoke_all-revoked.new.handle c.stop-ticket.result c.register.new.self c.args.tickets.now.items c.try_reserve.new.self.items c.push_reserved.new.self.items
    c.stop-ticket.ensures.ticket c.revoke_all-revoked.ensures.number c.revoke_all-revoked.ensures.tid c.in_ok-handle.ensures.ok.1 (omega (arith, c.tid.ensures, c.register.ensures.noted))
    c.try_reserve.ensures.items c.push_reserved.ensures.items in
    revoked_blocks _ _ _ _ c.args.first c.args.count _ _ c.revoke_all-revoked.result left c.revoke_all-revoked.ensures.steps

-- or some of them
pub returns-clause-left : goal.returns-clause-left
returns-clause-left g c =
    let left = leaves c.in_ok-handle.handle c.revoke_all-revoked.new.handle c.stop-ticket.result c.register.new.self c.args.tickets.now.items c.try_reserve.new.self.items c.push_reserved.new.self.items
    c.stop-ticket.ensures.ticket c.revoke_all-revoked.ensures.number c.revoke_all-revoked.ensures.tid c.in_ok-handle.ensures.ok.1 (omega (arith, c.tid.ensures, c.register.ensures.noted))
    c.try_reserve.ensures.items c.push_reserved.ensures.items in
    revoked_first _ _ _ _ c.args.first c.args.count _ _ c.revoke_all-revoked.result left c.revoke_all-revoked.ensures.left

pub returns-clause-err : goal.returns-clause-err
returns-clause-err g c = IfErr-weaker c.revoke_all-revoked.result _ _ (λ e why. AtStep why) c.revoke_all-revoked.ensures.err
