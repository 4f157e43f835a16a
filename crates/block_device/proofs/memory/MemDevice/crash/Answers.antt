use Rattle.std.proofs.Common.{◌≡◌, ◌∙◌, ℕ, [], sym, ap, subst}
use Rattle.journal_model.specs.Disk.{Cell, IsOneOf, held}
use Rattle.block_device.specs.Memory.{MemState, state_of, after_calls, blank, writes_of, crashed}
use Rattle.block_device.specs.MemInvariant.{Indexes, Forgets, Remembers, survivors}
use Rattle.journal_model.specs.declared.number.Area.{Area}
use Rattle.block_device.proofs.Crash.{crash_indexes, crash_disk, crash_leaves_held, survivors_left, left_past, left_count}
use Rattle.block_device.proofs.memory.MemDevice.crash.Goals as goal

pub invariant_of-result : goal.invariant_of-result
invariant_of-result c =
    let d = c.self.inside in
    let forgets = subst (λ cs. Forgets cs d.index c.forget.new.index) c.deref.ensures.value c.forget.ensures in
    let remembers = subst (λ cs. Remembers cs c.forget.new.index c.remember.new.index) (c.deref-2.ensures.value ∙ c.keep_survivors.ensures) c.remember.ensures in
    subst (λ cs. Indexes d.size c.remember.new.index cs 0 0 0) (sym c.keep_survivors.ensures)
    (crash_indexes c.args.keep.now d.size d.index c.forget.new.index c.remember.new.index d.calls.items d.writes d.log_flushed d.home_flushed c.self.invariant forgets remembers)

-- each block after the crash, by the device before
pub image_of : (c : goal.After-remember) (a : Area) (n : ℕ) → (after_calls c.self.inside.size c.keep_survivors.new.calls.items).disk a n ≡ record { reads = crashed c.args.keep.now c.args.self a n; others = [] }
image_of c a n =
    let d = c.self.inside in
    let Left : MemState → Type 0 = λ s. (after_calls d.size c.keep_survivors.new.calls.items).disk a n ≡ record { reads = crashed c.args.keep.now s a n; others = [] } in
    subst Left c.self.view_is
    (ap (λ cs. (after_calls d.size cs).disk a n) c.keep_survivors.ensures
    ∙ crash_disk c.args.keep.now d.size d.index d.calls.items d.writes d.log_flushed d.home_flushed c.self.invariant a n)

pub returns-clause-image : goal.returns-clause-image
returns-clause-image c a n = image_of c a n

pub returns-clause-allowed : goal.returns-clause-allowed
returns-clause-allowed c = record {
  each = λ a n.
      subst (IsOneOf (held ((state_of c.args.self).disk a n))) (sym (ap (λ (x : Cell). x.reads) (image_of c a n)))
      (crash_leaves_held c.args.keep.now c.args.self.shape.block_size a n c.args.self.calls);
}

pub returns-clause-fresh : goal.returns-clause-fresh
returns-clause-fresh c =
    let d = c.self.inside in
    ap (λ cs. (after_calls d.size cs).past) c.keep_survivors.ensures
    ∙ left_past (survivors c.args.keep.now d.log_flushed d.home_flushed d.calls.items) (blank d.size) (survivors_left c.args.keep.now d.log_flushed d.home_flushed d.calls.items)

pub returns-clause-numbers : goal.returns-clause-numbers
returns-clause-numbers c =
    let d = c.self.inside in
    ap writes_of c.keep_survivors.ensures
    ∙ left_count (survivors c.args.keep.now d.log_flushed d.home_flushed d.calls.items) 0 (survivors_left c.args.keep.now d.log_flushed d.home_flushed d.calls.items)
