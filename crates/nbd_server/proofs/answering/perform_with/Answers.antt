use Rattle.std.proofs.Common.{◌∙◌, ap, ap₂, refl, subst, sym, true≢false, List, ℕ}
use Rattle.byte_volume.specs.Writing.{AreNoted}
use Rattle.nbd_protocol.specs.declared.request.Request.{Request}
use Rattle.nbd_protocol.specs.Layout.{simple_reply}
use Rattle.nbd_protocol.specs.Requests.{WantsCommit}
use Rattle.nbd_server.specs.Answers.{EndsEarly, IsDone}
use Rattle.nbd_server.specs.Answers.IsPerformed.{AsEarly, AsFailed, AsOwed, AsRead, AsUnread}
use Rattle.nbd_server.specs.Causes.{ChangeFails}
use Rattle.nbd_server.specs.declared.replies.Answer.TheVariants.{Now}
use Rattle.nbd_server.proofs.answering.perform_with.Goals as goal

-- the bytes were read
pub returns-in-Ok-clause-performed : goal.returns-in-Ok-clause-performed
returns-in-Ok-clause-performed g c =
    AsRead c.in-Ok.reply (ap (λ (r : Request). r.command) (sym c.request.ensures) ∙ c.if-request-eq-READ.true) c.in-Ok.ensures.ok c.clear.ensures refl

pub returns-in-Ok-clause-noted : goal.returns-in-Ok-clause-noted
returns-in-Ok-clause-noted g c = subst (AreNoted c.args.stopped.now) (sym c.clear.ensures) tt

-- they could not be
pub returns-in-Err-clause-performed : goal.returns-in-Err-clause-performed
returns-in-Err-clause-performed g c =
    AsUnread c.in-Err.e (ap (λ (r : Request). r.command) (sym c.request.ensures) ∙ c.if-request-eq-READ.true) c.in-Err.ensures.err.1 c.clear.ensures
    (ap (λ (bytes : List ℕ). Now bytes)
    (c.refused.ensures ∙ ap₂ (λ (n : ℕ) (r : Request). simple_reply n r.cookie) c.error_of.ensures.number c.in-Err.ensures.err.0))

pub returns-in-Err-clause-noted : goal.returns-in-Err-clause-noted
returns-in-Err-clause-noted g c = subst (AreNoted c.args.stopped.now) (sym c.clear.ensures) tt

-- a write has as many bytes as it says
pub change-requires : goal.change-requires
change-requires g c = record {
  long = λ is. c.requires.long (ap (λ (r : Request). r.command) (sym c.request.ensures) ∙ is) ∙ ap (λ (r : Request). r.length) (sym c.request.ensures);
}

-- it is done, and wants a commit
pub of-requires-clause-done : goal.of-requires-clause-done
of-requires-clause-done g c =
    subst (λ (r : Request). IsDone g.D.Device.state g.D.Device.honest g.J.JournalName.name g.J.JournalName.name.shape.block_size g.J.JournalName.name.capacity r c.args.payload.now c.change.new.tickets)
    c.request.ensures (c.in-Ok-change.ensures.done c.in_default.is)

pub returns-then-wants_commit-clause-performed : goal.returns-then-wants_commit-clause-performed
returns-then-wants_commit-clause-performed g c =
    AsOwed c.of.result (λ is. c.if-request-eq-READ.false (ap (λ (r : Request). r.command) c.request.ensures ∙ is))
    (subst (λ (r : Request). IsDone g.D.Device.state g.D.Device.honest g.J.JournalName.name g.J.JournalName.name.shape.block_size g.J.JournalName.name.capacity r c.args.payload.now c.change.new.tickets)
    c.request.ensures (c.in-Ok-change.ensures.done c.in_default.is))
    (subst (λ (r : Request). WantsCommit r) c.request.ensures (c.wants_commit.ensures.0 c.if-wants_commit.true)) c.of.ensures refl

-- it ended early
pub returns-in-Some-clause-performed : goal.returns-in-Some-clause-performed
returns-in-Some-clause-performed g c =
    let some = rw c.in-Some.is at c.in-Ok-change.ensures.early in
    AsEarly (subst (λ (r : Request). EndsEarly g.D.Device.state g.D.Device.honest g.J.JournalName.name g.J.JournalName.name.shape.block_size r c.change.new.tickets) c.request.ensures
    some) (ap (λ (bytes : List ℕ). Now bytes) c.given_up.ensures)

-- it wants none
pub done-requires-clause-change : goal.done-requires-clause-change
done-requires-clause-change g c = λ is. c.if-request-eq-READ.false (ap (λ (r : Request). r.command) c.request.ensures ∙ is)

pub done-requires-clause-done : goal.done-requires-clause-done
done-requires-clause-done g c =
    subst (λ (r : Request). IsDone g.D.Device.state g.D.Device.honest g.J.JournalName.name g.J.JournalName.name.shape.block_size g.J.JournalName.name.capacity r c.args.payload.now c.change.new.tickets)
    c.request.ensures (c.in-Ok-change.ensures.done c.in_default.is)

pub done-requires-clause-at_once : goal.done-requires-clause-at_once
done-requires-clause-at_once g c =
    λ wants. true≢false (sym (c.wants_commit.ensures.1 (subst (λ (r : Request). WantsCommit r) (sym c.request.ensures) wants)) ∙ c.if-wants_commit.false)

-- it was refused
pub returns-in-Err-change-clause-performed : goal.returns-in-Err-change-clause-performed
returns-in-Err-change-clause-performed g c =
    AsFailed c.in-Err-change.e
    (subst (λ (r : Request). ChangeFails g.D.Device.state g.D.Device.honest g.J.JournalName.name g.J.JournalName.name.shape.block_size g.J.JournalName.name.capacity r c.args.payload.now c.change.new.tickets c.in-Err-change.e)
    c.request.ensures c.in-Err-change.ensures.err)
    (ap (λ (bytes : List ℕ). Now bytes) (c.refused-in-Err-change.ensures ∙ ap (λ (n : ℕ). simple_reply n c.args.asked.cookie) c.error_of-in-Err-change.ensures.number))
