use Rattle.std.proofs.Common.{List, true, ap, subst, ◌∙◌}
use Rattle.block_device.specs.State.{one_more_fault}
use Rattle.file_device.specs.Calls.{FileCall}
use Rattle.file_device.specs.Files.{AgreesEach, FileState, HasAgreed}
use Rattle.file_device.specs.NotedFiles.{calls_of}
use Rattle.file_device.specs.Gathered.{due_of}
use Rattle.file_device.specs.declared.calls.NotedFiles.{NotedFiles}
use Rattle.file_device.proofs.FileBlocks.{any-err, fails_counted, fails_stays, handed_agreed}
use Rattle.file_device.proofs.device.FileDeviceDevice.flush.Goals as goal

-- a device that fails to write what it gathered has the same disk
pub returns-in_err-hand_on-clause-err : goal.returns-in_err-hand_on-clause-err
returns-in_err-hand_on-clause-err g c =
    any-err c.from_residual-in_err-hand_on.result
    (fails_stays g.C.Contents.contents c.args.self.now c.hand_on.new.self (fails_counted c.args.self.now c.check_usable.new.self c.hand_on.new.self c.in_ok-check_usable.ensures.usable c.in_err-hand_on.ensures.err))

-- a sync keeps the premise
pub returns-in-Ok-clause-honest : goal.returns-in-Ok-clause-honest
returns-in-Ok-clause-honest g c agrees =
    let contents = g.C.Contents.contents in
    let d = c.self.inside in
    handed_agreed contents c.args.self.now c.check_usable.new.self c.hand_on.new.self c.in_ok-check_usable.ensures.usable c.in_ok-hand_on.ensures.ok
    (subst (HasAgreed contents) c.self.view_is (subst (λ (cs : List FileCall). AgreesEach contents d.size cs) (ap calls_of c.in-Ok.ensures.ok) agrees).1)

pub returns-in-Err-clause-honest : goal.returns-in-Err-clause-honest
returns-in-Err-clause-honest g c agrees =
    let contents = g.C.Contents.contents in
    let d = c.self.inside in
    let View : NotedFiles → FileState = λ f. record { block_size = d.size; log_file = f.log; home_file = f.home; log_bytes = d.log_bytes; home_bytes = d.home_bytes; gathered = due_of d.size d.gathered; calls = calls_of f; has_failed = true; faults = one_more_fault d.faults; calls_made = d.calls_made } in
    handed_agreed contents c.args.self.now c.check_usable.new.self c.hand_on.new.self c.in_ok-check_usable.ensures.usable c.in_ok-hand_on.ensures.ok
    (subst (HasAgreed contents) c.self.view_is (subst (HasAgreed contents) (c.fail.ensures ∙ ap View c.in-Err.ensures.err) agrees).1)
