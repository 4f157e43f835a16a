use Rattle.std.proofs.Common.{◌≡◌}
use Rattle.std.proofs.lemmas.Result.{IfErr-weaker}
use Rattle.journal_world.specs.Front.{reserving}
use Rattle.journal_front.specs.Front.{JoinRefused}
use Rattle.shared_journal.specs.Refusals.{IsJoinRefusal}
use Rattle.shared_journal.proofs.Refused.{joins}
use Rattle.shared_journal.proofs.Moments.{err-moment, ok-moment}
use Rattle.shared_journal.proofs.journal.Journal.try_join_after.Goals as goal

-- The step's refusals are the call's.
pub returns-clause-err : goal.returns-clause-err
returns-clause-err g c =
    let old = c.deref_mut.result.now in
    IfErr-weaker c.join_after.result
    (λ e. (e.0 ≡ c.args.credits) × JoinRefused (reserving old.journal.front c.args.credits) c.args.credits e.1
    × (c.join_after.new.self ≡ old))
    (λ e. (e.0 ≡ c.args.credits) × IsJoinRefusal e.1)
    (λ e why. (why.0, joins old.journal.front c.args.credits e.1 why.1)) c.join_after.ensures.err

pub returns-clause-joins : goal.returns-clause-joins
returns-clause-joins g c = ok-moment c.deref_mut.result.now c.join_after.new.self c.join_after.result _ c.join_after.ensures.ok

pub returns-clause-why : goal.returns-clause-why
returns-clause-why g c =
    err-moment c.deref_mut.result.now c.join_after.new.self c.join_after.result _
    (IfErr-weaker c.join_after.result _ _ (λ e why. (why.1, why.2)) c.join_after.ensures.err)
