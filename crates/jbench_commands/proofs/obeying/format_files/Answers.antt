use Rattle.std.proofs.lemmas.Result.{IfOk-weaker}
use Rattle.jbench_commands.specs.Obeying.IsFormatDone.{Both, Kept, KeptDevice}
use Rattle.jbench_commands.proofs.obeying.format_files.Goals as goal

-- as the words ask
pub returns-then-words-clause-done : goal.returns-then-words-clause-done
returns-then-words-clause-done g c =
    IfOk-weaker c.format_log.result _ _ (λ status done fine. Kept c.if-words.true (done fine)) c.format_log.ensures.done

pub returns-then-stays_as_device-clause-done : goal.returns-then-stays_as_device-clause-done
returns-then-stays_as_device-clause-done g c =
    IfOk-weaker c.format_beside_device.result _ _ (λ status done fine.
    KeptDevice (c.stays_as_device.ensures.zeros c.if-stays_as_device.true) (c.stays_as_device.ensures.new c.if-stays_as_device.true) (done fine))
    c.format_beside_device.ensures.done

pub returns-else-stays_as_device-clause-done : goal.returns-else-stays_as_device-clause-done
returns-else-stays_as_device-clause-done g c =
    IfOk-weaker c.format_both.result _ _ (λ status done fine. Both c.if-words.false (done fine)) c.format_both.ensures.done
