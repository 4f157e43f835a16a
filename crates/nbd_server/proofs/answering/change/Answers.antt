use Rattle.std.proofs.Common.{subst, sym}
use Rattle.byte_volume.specs.Writing.{AreNoted}
use Rattle.nbd_server.specs.Answers.IsDone.{NoBytes, NoChange}
use Rattle.nbd_server.proofs.Changes.{no_change, trim_failed, trimmed, trimmed_some, write_failed, written, zeroed, zeroed_some, zeros_failed}
use Rattle.nbd_server.proofs.answering.change.Goals as goal

-- there are no bytes
pub returns-then-length-eq0-clause-done : goal.returns-then-length-eq0-clause-done
returns-then-length-eq0-clause-done g c = λ _. NoBytes c.if-length-eq0.true c.clear.ensures

pub returns-then-length-eq0-clause-noted : goal.returns-then-length-eq0-clause-noted
returns-then-length-eq0-clause-noted g c = subst (AreNoted c.args.stopped.now) (sym c.clear.ensures) tt

-- a write
pub returns-in-Ok-clause-done : goal.returns-in-Ok-clause-done
returns-in-Ok-clause-done g c = λ _.
    written g.D.Device.state g.D.Device.honest g.J.JournalName.name _ _ c.args.request.now c.args.payload.now c.bytes-bytes.result.now c.write_range.new.tickets
    c.if-request-eq-WRITE.true (c.requires.long c.if-request-eq-WRITE.true) c.bytes-bytes.ensures c.in-Ok.ensures.once

pub returns-in-Err-clause-err : goal.returns-in-Err-clause-err
returns-in-Err-clause-err g c =
    write_failed g.D.Device.state g.D.Device.honest g.J.JournalName.name _ _ c.args.request.now c.args.payload.now c.bytes-bytes.result.now c.write_range.new.tickets c.in-Err.e
    c.if-request-eq-WRITE.true (c.requires.long c.if-request-eq-WRITE.true) c.bytes-bytes.ensures c.in-Err.ensures.err c.in-Err.ensures.left

-- a write of zeros
pub returns-then-request-eq-WRITE_ZEROES-clause-done : goal.returns-then-request-eq-WRITE_ZEROES-clause-done
returns-then-request-eq-WRITE_ZEROES-clause-done g c =
    zeroed g.D.Device.state g.D.Device.honest g.J.JournalName.name _ _ c.args.request.now c.args.payload.now c.write_zeros.new.tickets c.write_zeros.result
    c.if-request-eq-WRITE_ZEROES.true c.write_zeros.ensures.once

pub returns-then-request-eq-WRITE_ZEROES-clause-err : goal.returns-then-request-eq-WRITE_ZEROES-clause-err
returns-then-request-eq-WRITE_ZEROES-clause-err g c =
    zeros_failed g.D.Device.state g.D.Device.honest g.J.JournalName.name _ _ c.args.request.now c.args.payload.now c.write_zeros.new.tickets c.write_zeros.result
    c.if-request-eq-WRITE_ZEROES.true c.write_zeros.ensures.err c.write_zeros.ensures.left

pub returns-then-request-eq-WRITE_ZEROES-clause-early : goal.returns-then-request-eq-WRITE_ZEROES-clause-early
returns-then-request-eq-WRITE_ZEROES-clause-early g c =
    zeroed_some g.D.Device.state g.D.Device.honest g.J.JournalName.name _ c.args.request.now c.write_zeros.new.tickets c.write_zeros.result c.if-request-eq-WRITE_ZEROES.true
    c.write_zeros.ensures.early

-- a trim
pub returns-then-request-eq-TRIM-clause-done : goal.returns-then-request-eq-TRIM-clause-done
returns-then-request-eq-TRIM-clause-done g c =
    trimmed g.D.Device.state g.D.Device.honest g.J.JournalName.name _ _ c.args.request.now c.args.payload.now c.trim_range.new.tickets c.trim_range.result
    c.if-request-eq-TRIM.true c.trim_range.ensures.blocks

pub returns-then-request-eq-TRIM-clause-err : goal.returns-then-request-eq-TRIM-clause-err
returns-then-request-eq-TRIM-clause-err g c =
    trim_failed g.D.Device.state g.D.Device.honest g.J.JournalName.name _ _ c.args.request.now c.args.payload.now c.trim_range.new.tickets c.trim_range.result
    c.if-request-eq-TRIM.true c.trim_range.ensures.err c.trim_range.ensures.left

pub returns-then-request-eq-TRIM-clause-early : goal.returns-then-request-eq-TRIM-clause-early
returns-then-request-eq-TRIM-clause-early g c =
    trimmed_some g.D.Device.state g.D.Device.honest g.J.JournalName.name _ c.args.request.now c.trim_range.new.tickets c.trim_range.result c.if-request-eq-TRIM.true
    c.trim_range.ensures.early

-- a request of another kind
pub returns-clause-done : goal.returns-clause-done
returns-clause-done g c = λ _.
    NoChange (no_change c.args.request.now c.if-request-eq-WRITE.false c.if-request-eq-WRITE_ZEROES.false c.if-request-eq-TRIM.false) c.clear-2.ensures

pub returns-clause-noted : goal.returns-clause-noted
returns-clause-noted g c = subst (AreNoted c.args.stopped.now) (sym c.clear-2.ensures) tt
