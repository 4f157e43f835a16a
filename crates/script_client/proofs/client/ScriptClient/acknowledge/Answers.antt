use Rattle.std.proofs.Common.{sym, subst, ap, ap₂, ◌∙◌}
use Rattle.std.specs.Prelude.{◌≤◌, ℕ, max, Option, Some}
use Rattle.script_client.specs.Told.{ClientValue, with_told}
use Rattle.script_client.proofs.Telling.{answers}
use Rattle.script_client.proofs.client.ScriptClient.acknowledge.Goals as goal
use Rattle.script_client.proofs.client.ScriptClient.acknowledge.Goals.{in-Some, in-None}

-- the transaction is answered
pub invariant_of-self : goal.invariant_of-self
invariant_of-self g c = λ honest.
    let marked = subst (λ (v : ClientValue _). c.args.tid ≤ v.journal.journal.front.mark) (sym c.self.view_is) c.requires in
    let on = answers g.H.HomeFact.holds c.self.inside.operations.now c.self.inside.journal.journal (g.D.Device.state c.self.inside.journal.device) c.self.inside.acknowledged c.match-self.self c.args.tid
    (c.self.invariant honest) marked in
    elim c.match-self.branch [
      | in-Some w ↦ on (w.self-is ∙ ap Some (w.max.ensures ∙ ap₂ max w.other.view_is w.tid.view_is) ∙ sym (ap (with_told c.args.tid) w.in-Some.is))
      | in-None w ↦ on (w.self-is ∙ sym (ap (with_told c.args.tid) w.in-None.is))
    ]

-- and noted, and nothing else has changed
pub returns : goal.returns
returns g c =
    rw (← c.self.view_is)
    (ap (λ (s : Option ℕ). let v : ClientValue _ = record { journal = c.self.inside.journal; operations = c.self.inside.operations.now; shown = s } in v)
    (elim c.match-self.branch [
      | in-Some w ↦ w.self-is ∙ ap Some (w.max.ensures ∙ ap₂ max w.other.view_is w.tid.view_is) ∙ sym (ap (with_told c.args.tid) w.in-Some.is)
      | in-None w ↦ w.self-is ∙ sym (ap (with_told c.args.tid) w.in-None.is)
    ]))
