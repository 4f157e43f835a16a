use Rattle.std.proofs.Common.{◌+◌, ℕ, sym, ap₂, subst, ◌∙◌}
use Rattle.journal_model.specs.Transaction.{Transaction}
use Rattle.group_commit.specs.Extension.{RestartRefused}
use Rattle.journal_front.specs.Values.{HandleValue}
use Rattle.journal_steps.specs.Values.{JournalValue}
use Rattle.group_commit.proofs.restart.Journal+D+R.restart.Goals as goal

pub returns-in-Ok-clause-ok : goal.returns-in-Ok-clause-ok
returns-in-Ok-clause-ok g c =
    let stop = c.stop-ticket.ensures in
    let other = λ (given : ℕ) (t : Transaction). let h : HandleValue = record { number = given + 1; tid = t.tid; left = c.args.n } in h in (
      record {
        stopped = c.stop-ticket.new.self;
        ends = record { stops = stop.stops; other = stop.other; device = stop.device };
        starts = c.in-Ok.ensures.ok.0;
      },
      c.in-Ok.ensures.ok.1 ∙ ap₂ other stop.given stop.running,
    )

-- no handle joins, and the old one is stopped all the same
pub returns-in-Err-clause-err : goal.returns-in-Err-clause-err
returns-in-Err-clause-err g c =
    let stop = c.stop-ticket.ensures in
    let refused = c.in-Err.ensures.err in (
      stop.ticket,
      subst (λ (v : JournalValue g.row.D.Denot). RestartRefused g.D.Device.state c.args.handle c.args.n c.args.self.now v c.in-Err.e) (sym refused.1)
          (record { ends = record { stops = stop.stops; other = stop.other; device = stop.device }; why = refused.0 }),
    )
