use Rattle.std.proofs.Common.{arith, ap, refl, ◌∙◌, ◌≡◌, ◌+◌, ◌++◌, ◌∷◌, [], length, length-append, vec_items}
use Rattle.std.proofs.lemmas.List.{append_assoc}
use Rattle.std.specs.Vec.Iter.{into_iter_items}
use Rattle.volume_service.specs.declared.tasks.TaskClient.{TaskClient}
use Rattle.volume_service.proofs.Converted.{one-more}
use Rattle.volume_service.proofs.tasks.as_clients.Goals as goal

pub loop-task-preserved : goal.loop-task-preserved
loop-task-preserved g c =
    let at = c.loop-task in
    let x = c.in-Some.task in
    let made : TaskClient g.row.T.Denot = record { task = x } in
    let steps : into_iter_items at.task-iterator ≡ x ∷ into_iter_items c.next.new.self = c.in-Some.ensures.steps.0 in
    let is : c.push.new.self.items ≡ at.clients.items ++ made ∷ [] = c.in_ok-push.ensures.items in
    let now : length c.push.new.self.items ≡ length (at.clients.items ++ made ∷ []) = ap length is in
    let sum : length (at.clients.items ++ made ∷ []) ≡ length at.clients.items + 1 = length-append at.clients.items (made ∷ []) in
    let more : length (at.yielded ++ x ∷ []) ≡ length at.yielded + 1 = length-append at.yielded (x ∷ []) in
    let long : length at.clients.items ≡ length at.yielded = omega (arith, at.invariant.0, at.clients.ok.0) in
    let whole : (at.yielded ++ x ∷ []) ++ into_iter_items c.next.new.self ≡ vec_items c.args.tasks = append_assoc at.yielded (x ∷ []) _ ∙ rw (← steps) at.invariant.1 in (
      omega (arith, at.invariant.0, c.push.new.self.ok.0, at.clients.ok.0, now, sum, more),
      whole,
      λ k a t less.
          one-more (λ (client : TaskClient g.row.T.Denot). client.task) at.clients.items c.push.new.self.items c.args.tasks.items at.yielded
          (into_iter_items c.next.new.self) made x is refl long whole (λ j b s low. at.invariant.2 j b s (omega (arith, low, at.clients.ok.0))) k a t
          (omega (arith, less, c.push.new.self.ok.0, now, sum)),
    )
