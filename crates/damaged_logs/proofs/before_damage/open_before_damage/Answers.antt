use Rattle.std.proofs.Common.{sym, ◌∙◌}
use Rattle.damaged_logs.proofs.BeforeReading.{no-log-before}
use Rattle.damaged_logs.proofs.BeforeRecovering.{broken-each, done-before, done-each, done-opened}
use Rattle.damaged_logs.proofs.before_damage.open_before_damage.Goals as goal

-- the log is open
pub from_parts-opened-requires-clause-log : goal.from_parts-opened-requires-clause-log
from_parts-opened-requires-clause-log g c = λ honest.
    let done = c.in-Ok.ensures.done honest in
    done-opened (g.D.Device.state c.args.device) (g.D.Device.state c.recover_before.new.device) c.in-Ok.stopped_by c.in-Ok.superblock.items c.in-Ok.next done.0 done.1
    c.recover_before.ensures.shape done.2

-- a log area without a block is refused
pub returns-then-blocks-eq0-clause-refused : goal.returns-then-blocks-eq0-clause-refused
returns-then-blocks-eq0-clause-refused g c =
    no-log-before (g.D.Device.honest c.args.device) (g.D.Device.state c.args.device) (sym c.blocks-2.ensures ∙ c.if-blocks-eq0.true)

-- it is a whole opening
pub returns-in-Ok-clause-opened : goal.returns-in-Ok-clause-opened
returns-in-Ok-clause-opened g c =
    rw c.from_parts-opened.ensures (λ honest.
    let done = c.in-Ok.ensures.done honest in (
      done.0,
      done.1,
      done-before (g.D.Device.state c.args.device) (g.D.Device.state c.recover_before.new.device) c.in-Ok.stopped_by c.in-Ok.superblock.items c.in-Ok.next done.0 done.1
          done.2,
      done.3,
    ))

-- the due calls were made
pub returns-in-Ok-clause-calls : goal.returns-in-Ok-clause-calls
returns-in-Ok-clause-calls g c =
    rw c.from_parts-opened.ensures (λ honest.
    let done = c.in-Ok.ensures.done honest in
    record { texts = done.0; greatest = done.1; is = done.2 })

-- each of its moments is one
pub returns-in-Ok-clause-moments : goal.returns-in-Ok-clause-moments
returns-in-Ok-clause-moments g c =
    rw c.from_parts-opened.ensures (λ honest.
    let done = c.in-Ok.ensures.done honest in
    done-each (g.D.Device.state c.args.device) (g.D.Device.state c.recover_before.new.device) c.in-Ok.stopped_by c.in-Ok.superblock.items c.in-Ok.next done.0 done.1 done.2)

-- each moment of one that failed is one
pub returns-in-Err-clause-moments : goal.returns-in-Err-clause-moments
returns-in-Err-clause-moments g c = λ honest.
    broken-each (g.D.Device.state c.args.device) (g.D.Device.state c.recover_before.new.device) (c.in-Err.ensures.broken honest)
