use Rattle.std.proofs.Common.{ap, subst, sym, ◌∙◌, ◌-◌, ℕ}
use Rattle.log_model.specs.Opening.{layout_of, ring_of}
use Rattle.log_model.specs.Room.{IsCapacity}
use Rattle.log_model.specs.Superblock.{super_in}
use Rattle.log_epochs.specs.JournalWorld.{Begins}
use Rattle.group_commit.specs.Begun.{world_of_new}
use Rattle.shared_journal.proofs.Capacities.{fresh-unnamed}
use Rattle.shared_journal.proofs.unnamed.create.Goals as goal

-- The credit table has the journal's capacity.
pub invariant_of-result : goal.invariant_of-result
invariant_of-result g c =
    let opened = c.args.opened in
    let unnamed = c.in-Ok.ensures.ok in (
      fresh-unnamed g.D.Device.state c.in-Ok.board c.in_ok-sides.sides.journal _ opened.superblock opened.next c.in_ok-sides.ensures.fresh
          (subst (λ (n : ℕ). IsCapacity (layout_of (super_in opened.superblock)) (ring_of (super_in opened.superblock)).blocks n) (sym unnamed.0) c.capacity_on.ensures.capacity)
          (unnamed.1 ∙ ap (λ (n : ℕ). n - 1) (c.next.view_is ∙ c.next-next.ensures.next))
          c.capacity_on.ensures.named (ap (λ d. (g.D.Device.state d).shape) c.in_ok-sides.ensures.device),
      subst
          (λ (d : g.row.D.Denot). g.D.Device.honest d → Begins (world_of_new g.D.Device.state d c.in_ok-sides.sides.journal))
          (sym c.in_ok-sides.ensures.device) c.in_ok-sides.ensures.begins,
    )
