use Rattle.std.proofs.Common.{◌≡◌, ◌<◌, ◌≤◌, ◌+◌, ⊎_elim, List, ℕ, map, drop, length, sym, ap, ◌∙◌, arith, subst}
use Rattle.std.proofs.lemmas.Bool.{cases_lt}
use Rattle.std.proofs.lemmas.List.{drop-map}
use Rattle.checkpoint.specs.declared.copies.QueuedCopy.{QueuedCopy}
use Rattle.checkpoint.specs.declared.pending.Pending.TheInside.{Inside}
use Rattle.checkpoint.specs.Pending.{PendingValue}
use Rattle.checkpoint.specs.PendingView.{key_of, live_from, pending_of}
use Rattle.checkpoint.proofs.Kept.{kept-pending, live-end, live-first, live-skip}
use Rattle.checkpoint.proofs.Released.{get-within}
use Rattle.checkpoint.proofs.pending.Pending.wrote.Goals as goal

-- the fields after it
abbrev after : goal.After-self-1 → Inside
after c = record { copies = c.self.inside.copies; added = c.self.inside.added; front = c.self.inside.front; unwritten = c.skip_dead-self-inside.result }

-- one copy fewer is not written home
one-fewer : (c : goal.After-self-1) → live_from c.skip_dead-self-inside.result c.self.inside.copies.copies ≡ drop 1 (live_from c.self.inside.unwritten c.self.inside.copies.copies)
one-fewer c =
    let cs = c.self.inside.copies.copies in
    let k = c.self.inside.unwritten in
    let some : 0 < length (map key_of (live_from k cs)) = subst (λ (p : PendingValue). 0 < length p.unwritten) (sym c.self.view_is) c.requires in
    let below : k < length cs =
    ⊎_elim (λ before. before) (λ (end : length cs ≤ k). let none = ap (λ (ds : List QueuedCopy). length (map key_of ds)) (live-end k cs end) in absurd (omega (arith, none, some))) (cases_lt k (length cs)) in
    let first = get-within cs k below in
    live-skip (k + 1) c.skip_dead-self-inside.result cs c.skip_dead-self-inside.ensures.after c.skip_dead-self-inside.ensures.dead
    ∙ ap (drop 1) (sym (live-first k cs first.0 first.1 (c.self.invariant.unwritten.live first.0 first.1)))

pub returns-clause-written : goal.returns-clause-written
returns-clause-written c =
    let p = pending_of c.self.inside in
    rw (← c.self.view_is)
    (ap (λ (ks : List (ℕ × ℕ)). let q : PendingValue = record { room = p.room; newest = p.newest; queue = p.queue; unwritten = ks } in q)
    (ap (map key_of) (one-fewer c) ∙ sym (drop-map key_of 1 (live_from c.self.inside.unwritten c.self.inside.copies.copies))))

pub returns-clause-kept : goal.returns-clause-kept
returns-clause-kept c =
    let old = c.self.invariant in
    kept-pending (after c)
    (record {
      copies = old.copies;
      ordered = old.ordered;
      reserved = old.reserved;
      before_front = old.before_front;
      front = old.front;
      unwritten = c.skip_dead-self-inside.ensures.live;
    })
