use Rattle.std.proofs.Common.{ap, sym, ◌∙◌}
use Rattle.journal_steps.specs.Values.{JournalValue}
use Rattle.locked_journal.proofs.HeldNewest.{held-whole, newest-did, newest-refused}
use Rattle.locked_journal.proofs.held.read_newest_held.Goals as goal

-- The front's copy fills the buffer.
pub hand_out-requires : goal.hand_out-requires
hand_out-requires g c v last =
    c.requires ∙ (ap (λ (v : JournalValue g.row.D.Denot). (g.D.Device.state v.device).shape.block_size) (sym c.front.view_is)
    ∙ sym (held-whole g.D.Device.state g.D.Device.honest c.front.inside.front c.front.inside.engine c.args.block (record { agrees = c.front.invariant.0; plain = c.recall_invariant.ensures.plain; shape = c.recall_invariant.ensures.shape; legal = c.front.invariant.1 }) v last))

pub returns-clause-ok : goal.returns-clause-ok
returns-clause-ok g c =
    let running = sym c.is_aborted.ensures ∙ c.if-is_aborted.false in
    let may = c.may_touch.ensures.0 c.if-not-may_touch.false in
    rw (← c.front.view_is)
    (newest-did g.D.Device.state g.D.Device.honest c.front.inside.front c.front.inside.engine c.args.block (record { agrees = c.front.invariant.0; plain = c.recall_invariant.ensures.plain; shape = c.recall_invariant.ensures.shape; legal = c.front.invariant.1 }) running may
    c.hand_out.result c.args.into.now c.hand_out.new.into c.hand_out.ensures.ok)

pub returns-clause-err : goal.returns-clause-err
returns-clause-err g c =
    let running = sym c.is_aborted.ensures ∙ c.if-is_aborted.false in
    let may = c.may_touch.ensures.0 c.if-not-may_touch.false in
    rw (← c.front.view_is)
    (newest-refused g.D.Device.state g.D.Device.honest c.front.inside.front c.front.inside.engine c.args.block (record { agrees = c.front.invariant.0; plain = c.recall_invariant.ensures.plain; shape = c.recall_invariant.ensures.shape; legal = c.front.invariant.1 }) running may
    c.hand_out.result c.args.into.now c.hand_out.new.into c.hand_out.ensures.err)
