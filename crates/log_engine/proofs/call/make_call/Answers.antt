use Rattle.journal_model.specs.Disk.{flushed, written}
use Rattle.block_device.specs.State.{Moves, Stays}
use Rattle.log_engine.proofs.Calls.{done-flush, done-write, err-map, fault-due, fault-flush, moment-flush, moment-write, ok-map, on-err}
use Rattle.log_engine.proofs.call.make_call.Goals as goal

pub returns-in-Write-clause-ok : goal.returns-in-Write-clause-ok
returns-in-Write-clause-ok g c = λ call named.
    let old = g.D.Device.state c.args.device.now in
    ok-map c.write.result (λ (moves : Moves old (g.D.Device.state c.write.new.self) (written old.disk c.in-Write.area c.in-Write.place c.args.bytes.now)).
    done-write c.args.due c.in-Write.area c.in-Write.place c.args.bytes.now call _ _ c.in-Write.is named moves) c.write.ensures.ok

pub returns-in-Write-clause-err : goal.returns-in-Write-clause-err
returns-in-Write-clause-err g c = λ call named.
    on-err c.write.result (fault-due c.args.due c.in-Write.area c.in-Write.place c.args.bytes.now call _ _ c.in-Write.is named c.write.ensures.writes)

pub returns-in-Write-clause-moment : goal.returns-in-Write-clause-moment
returns-in-Write-clause-moment g c = moment-write c.in-Write.area c.in-Write.place c.args.bytes.now _ _ c.write.ensures.writes

pub returns-in-Write-clause-faults : goal.returns-in-Write-clause-faults
returns-in-Write-clause-faults g c = c.write.ensures.faults

pub returns-in-Flush-clause-ok : goal.returns-in-Flush-clause-ok
returns-in-Flush-clause-ok g c = λ call named.
    let old = g.D.Device.state c.args.device.now in
    ok-map c.flush.result (λ (moves : Moves old (g.D.Device.state c.flush.new.self) (flushed old.disk c.in-Flush.area)).
    done-flush c.args.due c.in-Flush.area c.args.bytes.now call _ _ c.in-Flush.is named moves) c.flush.ensures.ok

pub returns-in-Flush-clause-err : goal.returns-in-Flush-clause-err
returns-in-Flush-clause-err g c = λ call named.
    err-map c.flush.result (λ (stays : Stays (g.D.Device.state c.args.device.now) (g.D.Device.state c.flush.new.self)).
    fault-flush c.args.due c.in-Flush.area c.args.bytes.now call _ _ c.in-Flush.is named stays) c.flush.ensures.err

pub returns-in-Flush-clause-moment : goal.returns-in-Flush-clause-moment
returns-in-Flush-clause-moment g c = moment-flush c.flush.result c.in-Flush.area _ _ c.flush.ensures.ok c.flush.ensures.err

pub returns-in-Flush-clause-faults : goal.returns-in-Flush-clause-faults
returns-in-Flush-clause-faults g c = c.flush.ensures.faults
