use Rattle.std.proofs.Common.{subst}
use Rattle.log_engine.specs.Close.MakesCloseCalls.{NoCloseCall}
use Rattle.group_commit.proofs.Closed.{both-weaker, parts-end}
use Rattle.group_commit.proofs.Closing.{closes-not, closes-well}
use Rattle.group_commit.proofs.journal.Journal+D+R.close.Goals as goal

-- the close of the log follows what comes before
pub returns-in-Ok : goal.returns-in-Ok
returns-in-Ok g c =
    let state = g.D.Device.state in
    let honest = g.D.Device.honest in
    let f = c.finish.ensures in
    both-weaker c.close_log.result _ _ _ _
    (λ parts did.
    closes-well state honest c.args.self c.finish.new.journal c.requires c.in-Ok.ensures.ok f.path f.measures f.shape f.calls f.moments f.honest parts.device
    (g.R.Record.transactions parts.sealed) parts.committed did)
    (λ e did.
    closes-not state honest c.args.self c.finish.new.journal c.requires c.in-Ok.ensures.ok f.path f.measures f.shape f.calls f.moments f.honest e.0.device
    (g.R.Record.transactions e.0.sealed) e.0.committed e.1 did)
    c.close_log.ensures

pub returns-in-Err : goal.returns-in-Err
returns-in-Err g c =
    let state = g.D.Device.state in
    let honest = g.D.Device.honest in
    let old = c.args.self in
    let parts = c.into_parts.ensures in
    let back = λ (now : honest c.into_parts.result.device). subst honest parts.device now in
    record {
      stopped = c.requires;
      why = rw (parts.device, parts.sealed, parts.committed) c.in-Err.ensures.err;
      ends = parts-end state old c.finish.new.journal _ _ _ c.finish.ensures.path parts.device parts.sealed parts.committed;
      went = record {
        calls = record {
          last = c.finish.new.journal;
          turns = c.finish.ensures.calls;
          agrees = parts.agrees;
          sealed_is = parts.sealed;
          closing = NoCloseCall parts.device;
        };
        moments = λ now. rw parts.device (c.finish.ensures.moments (back now)).each;
      };
      left = record {
        opens = λ now. rw (parts.device, parts.sealed, parts.committed, ← c.finish.ensures.measures) (parts.opens (back now));
        shape = rw parts.device c.finish.ensures.shape;
        honest_before = λ now. c.finish.ensures.honest (back now);
        legal = λ now. parts.legal (back now);
      };
    }
