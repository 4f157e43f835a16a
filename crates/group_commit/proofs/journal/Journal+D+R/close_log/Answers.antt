use Rattle.std.proofs.Common.{sym, ap, subst, arith, ◌≡◌, false, length, ℕ}
use Rattle.journal_model.specs.Record.{IsLegal}
use Rattle.journal_model.specs.Transaction.{History}
use Rattle.log_epochs.specs.JournalPromise.{IsClosed}
use Rattle.log_engine.specs.Close.{IsAllReleased}
use Rattle.journal_steps.specs.Journal.{OpensOver}
use Rattle.journal_steps.specs.Values.{JournalValue}
use Rattle.journal_steps.proofs.LegalSteps.{legal-sealed}
use Rattle.group_commit.proofs.Closed.{close-wrong, closed-over, log-closed, log-failed, opens-closed}
use Rattle.group_commit.proofs.Finishing.{all-sealed}
use Rattle.group_commit.proofs.TurnMoments.{each-closing}
use Rattle.group_commit.proofs.journal.Journal+D+R.close_log.Goals as goal

-- the log is clean, and opens to all that is sealed
pub returns-in-Ok : goal.returns-in-Ok
returns-in-Ok g c =
    let state = g.D.Device.state in
    let f = c.self.inside.front in
    let e = c.self.inside.engine.engine in
    let all = subst (λ (v : JournalValue g.row.D.Denot). IsAllReleased v.journal.engine) (sym c.self.view_is) c.requires.all in
    let every : e.committed ≡ length f.sealed = all-sealed state (record { front = f; engine = e }) c.self.invariant.0 c.recall_invariant.ensures.plain all.idle in
    let told : c.committed-committed.result ≡ e.committed = c.committed-committed.ensures in
    let sealed_is = c.into_sealed-sealed.ensures in
    let size : length (g.R.Record.transactions c.into_sealed-sealed.result) ≡ length f.sealed = ap length sealed_is in
    let count : length f.sealed ≡ c.committed-committed.result = omega arith in
    let full : c.committed-committed.result ≡ length (g.R.Record.transactions c.into_sealed-sealed.result) = omega arith in
    let disk = (state c.in-Ok.device).disk in
    let back = c.in-Ok.ensures.honest in
    let closed = c.in-Ok.ensures.closed in
    rw (← c.self.view_is) (record {
      made = record {
        agrees = c.self.invariant.0;
        sealed_is = sealed_is;
        calls = c.in-Ok.ensures.calls;
        moments = λ honest. each-closing f e _ _ c.self.invariant.0 every (c.in-Ok.ensures.moments (back honest));
        left = record {
          opens = λ honest.
              subst (λ (ts : History). OpensOver e.shape ts c.committed-committed.result (length ts) disk) (sym sealed_is)
              (subst (λ (n : ℕ). OpensOver e.shape f.sealed n (length f.sealed) disk) count (opens-closed f e disk c.self.invariant.0 (closed (back honest)).opens));
          shape = c.in-Ok.ensures.shape;
          honest_before = back;
          legal = λ honest. subst IsLegal (sym sealed_is) (legal-sealed f (c.self.invariant.1 (back honest)));
        };
      };
      committed_all = full;
      clean = λ honest image leaves. subst (λ (ts : History). IsClosed e.shape ts image) (sym sealed_is) (closed-over f e disk c.self.invariant.0 (closed (back honest)) image leaves);
      moves = log-closed state f c.self.inside.engine _ _ _ c.self.invariant.0 c.recall_invariant.ensures.plain all c.in-Ok.ensures.ok sealed_is full;
      no_fault = c.in-Ok.ensures.no_fault;
    })

-- if the device fails, everything is committed all the same
pub returns-in-Err : goal.returns-in-Err
returns-in-Err g c =
    let state = g.D.Device.state in
    let f = c.self.inside.front in
    let e = c.self.inside.engine.engine in
    let running = subst (λ (v : JournalValue g.row.D.Denot). v.journal.engine.aborted ≡ false) (sym c.self.view_is) c.requires.running in
    let all = subst (λ (v : JournalValue g.row.D.Denot). IsAllReleased v.journal.engine) (sym c.self.view_is) c.requires.all in
    let every : e.committed ≡ length f.sealed = all-sealed state (record { front = f; engine = e }) c.self.invariant.0 c.recall_invariant.ensures.plain all.idle in
    let told : c.committed-committed.result ≡ e.committed = c.committed-committed.ensures in
    let sealed_is = c.into_sealed-sealed.ensures in
    let count : length f.sealed ≡ c.committed-committed.result = omega arith in
    let disk = (state c.in-Err.device).disk in
    let back = c.in-Err.ensures.honest in
    let wrong = close-wrong state _ _ _ running c.in-Err.ensures.err in
    rw (← c.self.view_is) (record {
      made = record {
        agrees = c.self.invariant.0;
        sealed_is = sealed_is;
        calls = c.in-Err.ensures.calls;
        moments = λ honest. each-closing f e _ _ c.self.invariant.0 every (c.in-Err.ensures.moments (back honest));
        left = record {
          opens = λ honest.
              subst (λ (ts : History). OpensOver e.shape ts c.committed-committed.result (length ts) disk) (sym sealed_is)
              (subst (λ (n : ℕ). OpensOver e.shape f.sealed n (length f.sealed) disk) count (opens-closed f e disk c.self.invariant.0 (c.in-Err.ensures.moments (back honest)).now.opens));
          shape = c.in-Err.ensures.shape;
          honest_before = back;
          legal = λ honest. subst IsLegal (sym sealed_is) (legal-sealed f (c.self.invariant.1 (back honest)));
        };
      };
      why = wrong.0;
      committed_is = told;
      fault = wrong.1;
      ends = log-failed state f c.self.inside.engine _ _ _ _ running c.in-Err.ensures.err sealed_is told;
    })
