use Rattle.std.proofs.Common.{◌≡◌, List, [], map, ap, ◌∙◌, subst, sym, arith}
use Rattle.std.specs.List.{slice_get}
use Rattle.std.proofs.lemmas.Option.{none-some}
use Rattle.checkpoint.specs.declared.copies.QueuedCopy.{QueuedCopy}
use Rattle.checkpoint.specs.Pending.{IsOrdered}
use Rattle.checkpoint.specs.Steps.{IsAtLive}
use Rattle.checkpoint.specs.Copies.{CopiesValue, newest_in}
use Rattle.checkpoint.specs.PendingView.{key_of}
use Rattle.checkpoint.proofs.Kept.{kept-pending, newest-map}
use Rattle.checkpoint.proofs.pending.Pending.new.Goals as goal

-- no block has a copy
pub returns-clause-newest : goal.returns-clause-newest
returns-clause-newest c b =
    newest-map c.in_ok-new.field-0.copies b ∙ ap (λ (v : CopiesValue). newest_in v.copies b) c.in_ok-new.ensures.empty

-- they keep what pending copies keep
pub returns-clause-kept : goal.returns-clause-kept
returns-clause-kept c =
    let copies = c.in_ok-new.field-0 in
    let none : copies.copies ≡ [] = ap (λ (v : CopiesValue). v.copies) c.in_ok-new.ensures.empty in
    let room : copies.room ≡ c.args.room = ap (λ (v : CopiesValue). v.room) c.in_ok-new.ensures.empty in
    let at : IsAtLive copies.copies 0 =
    record { within = omega arith; live = λ d here. absurd (none-some d (ap (λ (cs : List QueuedCopy). slice_get cs 0) (sym none) ∙ here)) } in
    kept-pending (record { copies = copies; added = c.in_ok-with_capacity.field-0; front = 0; unwritten = 0 })
    (record {
      copies = c.in_ok-new.ensures.kept;
      ordered = subst (λ (cs : List QueuedCopy). IsOrdered (map key_of cs)) (sym none) tt;
      reserved = omega (arith, room, c.in_ok-with_capacity.ensures.capacity);
      before_front = record { dead = λ k d after below here. absurd (omega arith) };
      front = at;
      unwritten = at;
    })
