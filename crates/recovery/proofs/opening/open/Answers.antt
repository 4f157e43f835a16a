use Rattle.std.proofs.Common.{sym, ◌∙◌}
use Rattle.recovery.proofs.Examining.{no-log-refused}
use Rattle.recovery.proofs.OpeningDone.{broken-moments, done-leads, done-log, done-moments, done-opening}
use Rattle.recovery.proofs.opening.open.Goals as goal

pub invariant_of-result : goal.invariant_of-result
invariant_of-result g c = (
  c.in-Ok.ensures.named,
  λ honest.
      done-log (g.D.Device.state c.args.device) (g.D.Device.state c.recover.new.device) c.in-Ok.superblock.items c.in-Ok.number
      (c.in-Ok.ensures.done honest),
)

pub returns-then-blocks-eq0-clause-refused : goal.returns-then-blocks-eq0-clause-refused
returns-then-blocks-eq0-clause-refused g c =
    no-log-refused (g.D.Device.honest c.args.device) (g.D.Device.state c.args.device) (sym c.blocks-2.ensures ∙ c.if-blocks-eq0.true)

pub returns-in-Ok-clause-opened : goal.returns-in-Ok-clause-opened
returns-in-Ok-clause-opened g c = λ honest.
    done-opening (g.D.Device.state c.args.device) (g.D.Device.state c.recover.new.device) c.in-Ok.superblock.items c.in-Ok.number (c.in-Ok.ensures.done honest)

pub returns-in-Ok-clause-run : goal.returns-in-Ok-clause-run
returns-in-Ok-clause-run g c = λ honest.
    done-leads (g.D.Device.state c.args.device) (g.D.Device.state c.recover.new.device) c.in-Ok.superblock.items c.in-Ok.number (c.in-Ok.ensures.done honest)

pub returns-in-Ok-clause-moments : goal.returns-in-Ok-clause-moments
returns-in-Ok-clause-moments g c = λ honest.
    done-moments (g.D.Device.state c.args.device) (g.D.Device.state c.recover.new.device) c.in-Ok.superblock.items c.in-Ok.number (c.in-Ok.ensures.done honest)

pub returns-in-Err-clause-moments : goal.returns-in-Err-clause-moments
returns-in-Err-clause-moments g c = λ honest.
    broken-moments (g.D.Device.state c.args.device) (g.D.Device.state c.recover.new.device) (c.in-Err.ensures.broken honest)
