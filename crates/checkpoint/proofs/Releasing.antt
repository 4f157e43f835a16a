-- How a release changes pending copies.
use Rattle.std.proofs.Common.{◌≡◌, ℕ, ◌-◌, ◌≤◌, List, map, drop, sym, ap, subst, ◌∙◌, nat_lt, arith}
use Rattle.std.specs.List.{filter}
use Rattle.checkpoint.specs.declared.copies.QueuedCopy.{QueuedCopy}
use Rattle.checkpoint.specs.declared.pending.Pending.TheInside.{Inside}
use Rattle.checkpoint.specs.Copies.{newest_in}
use Rattle.checkpoint.specs.Pending.{IsOrdered, IsReleased, unreleased}
use Rattle.checkpoint.specs.PendingView.{KeepsPending, key_of, live_from, pending_of}
use Rattle.checkpoint.specs.Steps.{AreDead, Releases}
use Rattle.checkpoint.proofs.Kept.{dead-join, live-skip, newest-map}
use Rattle.checkpoint.proofs.Ordered.{ordered-drop}
use Rattle.checkpoint.proofs.Released.{Splits, above, above-drop, above-drop_from, dead-drop, filters-swap, keys-above, newest-above, splits}

-- a release up to the bound drops the first n copies
pub record DropsFirst (old : Inside) (bound n : ℕ) (new : Inside) : Type 0 where
  pub kept : KeepsPending old
  pub releases : Releases bound old.copies.copies n
  pub room : new.copies.room ≡ old.copies.room
  pub all : new.copies.copies ≡ drop n old.copies.copies
  pub front : AreDead new.copies.copies (old.front - n) new.front
  pub unwritten : AreDead new.copies.copies (old.unwritten - n) new.unwritten
  pub after : old.unwritten - n ≤ new.unwritten

module _ (old : Inside) (bound n : ℕ) (new : Inside) (s : DropsFirst old bound n new) where
  -- the dropped copies are those of the transactions up to the bound
  parted : Splits bound n old.copies.copies
  parted = splits bound n old.copies.copies s.kept.ordered s.releases

  -- the copies that stay
  stays : new.copies.copies ≡ above bound old.copies.copies
  stays = s.all ∙ sym (above-drop bound n old.copies.copies parted)

  -- those that are not written home
  unwritten-stays : live_from new.unwritten new.copies.copies ≡ above bound (live_from old.unwritten old.copies.copies)
  unwritten-stays =
      let live : List QueuedCopy → List QueuedCopy = filter (λ c. c.live) in
      live-skip (old.unwritten - n) new.unwritten new.copies.copies s.after s.unwritten
      ∙ ap (live_from (old.unwritten - n)) s.all
      ∙ ap live (sym (above-drop_from bound n old.unwritten old.copies.copies parted))
      ∙ filters-swap (λ (c : QueuedCopy). c.live) (λ (c : QueuedCopy). nat_lt bound c.tid) (drop old.unwritten old.copies.copies)

  pub released : IsReleased (pending_of old) bound (pending_of new)
  released =
      record {
        room = s.room;
        newest = λ b.
            newest-map new.copies.copies b
            ∙ ap (λ (cs : List QueuedCopy). newest_in cs b) stays
            ∙ newest-above bound b old.copies.copies s.kept.copies.single
            ∙ ap (unreleased bound) (sym (newest-map old.copies.copies b));
        queue = ap (map key_of) stays ∙ keys-above bound old.copies.copies;
        unwritten = ap (map key_of) unwritten-stays ∙ keys-above bound (live_from old.unwritten old.copies.copies);
      }

  -- the copies stay in order
  pub released-ordered : IsOrdered (map key_of new.copies.copies)
  released-ordered = subst (λ (cs : List QueuedCopy). IsOrdered (map key_of cs)) (sym s.all) (ordered-drop n old.copies.copies s.kept.ordered)

  -- none is live before the front
  pub released-front : AreDead new.copies.copies 0 new.front
  released-front =
      let none : 0 - n ≡ 0 = omega arith in
      let front : AreDead (drop n old.copies.copies) 0 (old.front - n) =
      subst (λ (i : ℕ). AreDead (drop n old.copies.copies) i (old.front - n)) none (dead-drop n 0 old.front old.copies.copies s.kept.before_front) in
      dead-join new.copies.copies 0 (old.front - n) new.front
      (subst (λ (cs : List QueuedCopy). AreDead cs 0 (old.front - n)) (sym s.all) front)
      s.front
