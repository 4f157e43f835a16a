use Rattle.std.proofs.Common.{ap, ◌∙◌, ◌+◌, ◌++◌, List, ℕ, drop}
use Rattle.journal_model.specs.Transaction.{copied, revoked}
use Rattle.log_ledger.specs.declared.plan.LogPlan.{LogPlan}
use Rattle.log_ledger.specs.Text.{copies_at}
use Rattle.log_ledger.proofs.Copies.{notes-copy, notes-revoke}
use Rattle.log_ledger.proofs.plan.LogPlan.make.Goals as goal
use Rattle.log_ledger.proofs.plan.LogPlan.make.Goals.{in-Copy+in_ok-push-in-Copy, in-Revoke+in_ok-push-in-Revoke}

-- one entry more is noted
pub loop-place-preserved : goal.loop-place-preserved
loop-place-preserved c =
    let entries = c.args.entries.now in
    let k = c.loop-place.place in
    let entry = c.index-entries-place.result in
    let old = c.loop-place.self in
    let now = c.loop-place.invariant in
    elim c.match-entry.branch [
      | in-Copy+in_ok-push-in-Copy w ↦
          let noted = notes-copy entries k entry c.loop-place-test.true c.index-entries-place.is w.in-Copy.field-0 old.copies.items old.revokes.items w.in-Copy.is now.copies now.revokes in
          let places = ap (λ (p : LogPlan). p.copies.items) w.self-is ∙ w.in_ok-push-in-Copy.ensures.items in
          let revokes = ap (λ (p : LogPlan). p.revokes.items) w.self-is in record {
            copies = ap (λ (ps : List ℕ). copies_at entries ps ++ copied (drop (k + 1) entries)) places ∙ noted.0;
            revokes = ap (λ (bs : List ℕ). bs ++ revoked (drop (k + 1) entries)) revokes ∙ noted.1;
          }
      | in-Revoke+in_ok-push-in-Revoke w ↦
          let noted = notes-revoke entries k entry c.loop-place-test.true c.index-entries-place.is old.copies.items old.revokes.items w.in-Revoke.is now.copies now.revokes in
          let places = ap (λ (p : LogPlan). p.copies.items) w.self-is in
          let revokes = ap (λ (p : LogPlan). p.revokes.items) w.self-is ∙ w.in_ok-push-in-Revoke.ensures.items in record {
            copies = ap (λ (ps : List ℕ). copies_at entries ps ++ copied (drop (k + 1) entries)) places ∙ noted.0;
            revokes = ap (λ (bs : List ℕ). bs ++ revoked (drop (k + 1) entries)) revokes ∙ noted.1;
          }
    ]
