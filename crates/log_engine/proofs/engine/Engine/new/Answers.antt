use Rattle.std.proofs.Common.{arith, sym, ap, ap₂, subst, ◌∙◌, ◌≡◌, List, ℕ}
use Rattle.log_model.specs.Opening.{ring_of}
use Rattle.log_model.specs.Superblock.{super_in}
use Rattle.checkpoint.specs.Pending.{PendingValue}
use Rattle.journal_world.specs.Engine.{Engine}
use Rattle.journal_world.specs.Journal.{fresh_engine}
use Rattle.journal_world.specs.Opening.{IsOpenedLog}
use Rattle.journal_world.specs.Sound.{IsPlain, Sound}
use Rattle.journal_world.proofs.Fresh.{fresh-sound}
use Rattle.log_ledger.specs.Ledger.{HasPlan, KeepsPending, engine_of}
use Rattle.log_ledger.proofs.Ledgers.{fresh-taken}
use Rattle.log_ledger.proofs.Pendings.{fresh-keeps}
use Rattle.log_engine.specs.Close.{KeepsClean}
use Rattle.log_engine.proofs.Effects.{none-noted}
use Rattle.log_engine.proofs.KeptClean.{fresh-clean}
use Rattle.log_engine.proofs.Plans.{none-planned}
use Rattle.log_engine.proofs.Fresh.{HasFields, fresh-runs, named-fields}
use Rattle.recovery.specs.Values.{IsNextNamed}
use Rattle.log_engine.proofs.engine.Engine.new.Goals as goal

pub ring_blocks-requires-clause-long : goal.ring_blocks-requires-clause-long
ring_blocks-requires-clause-long g c = (subst HasFields (sym c.superblock.ensures.block) (named-fields _ _ _ c.superblock.ensures.named)).long

pub ring_blocks-requires-clause-order : goal.ring_blocks-requires-clause-order
ring_blocks-requires-clause-order g c = (subst HasFields (sym c.superblock.ensures.block) (named-fields _ _ _ c.superblock.ensures.named)).order

pub new-requires-3-clause-some : goal.new-requires-3-clause-some
new-requires-3-clause-some g c =
    (subst HasFields (sym c.into_parts-device.ensures.superblock) (named-fields _ _ _ c.into_parts-device.ensures.named)).some

pub new-requires-3-clause-ring : goal.new-requires-3-clause-ring
new-requires-3-clause-ring g c =
    (subst HasFields (sym c.into_parts-device.ensures.superblock) (named-fields _ _ _ c.into_parts-device.ensures.named)).ring

pub new-requires-3-clause-long : goal.new-requires-3-clause-long
new-requires-3-clause-long g c =
    (subst HasFields (sym c.into_parts-device.ensures.superblock) (named-fields _ _ _ c.into_parts-device.ensures.named)).long

-- the engine of an opened log can run, and is sound
pub invariant_of-result : goal.invariant_of-result
invariant_of-result g c =
    let made = c.into_parts-device.ensures in
    let device = c.into_parts-device.result.0 in
    let state = g.D.Device.state device in
    let superblock = c.into_parts-device.result.1.items in
    let next = c.into_parts-device.result.2 in
    let is : engine_of state.shape c.new-3.result ≡ fresh_engine state.shape superblock next =
    c.new-3.ensures.engine state.shape ∙ ap (fresh_engine state.shape superblock) c.next.view_is in
    let named : IsNextNamed state.shape superblock next =
    subst (λ (d : g.row.D.Denot). IsNextNamed (g.D.Device.state d).shape superblock next) (sym made.device)
    (subst (λ (sb : List ℕ). IsNextNamed (g.D.Device.state c.args.opened.device).shape sb next) (sym made.superblock)
    (subst (λ (n : ℕ). IsNextNamed (g.D.Device.state c.args.opened.device).shape c.args.opened.superblock n) (sym made.next) made.named)) in
    let log : g.D.Device.honest device → IsOpenedLog state.shape state.disk superblock next =
    subst (λ (d : g.row.D.Denot). g.D.Device.honest d → IsOpenedLog (g.D.Device.state d).shape (g.D.Device.state d).disk superblock next) (sym made.device)
    (λ honest. subst (λ (sb : List ℕ). IsOpenedLog (g.D.Device.state c.args.opened.device).shape (g.D.Device.state c.args.opened.device).disk sb next) (sym made.superblock)
    (subst (λ (n : ℕ). IsOpenedLog (g.D.Device.state c.args.opened.device).shape (g.D.Device.state c.args.opened.device).disk c.args.opened.superblock n)
    (sym made.next) (made.log honest))) in
    let blocks : c.ring_blocks.result ≡ (ring_of (super_in superblock)).blocks =
    c.ring_blocks.ensures ∙ ap (λ (sb : List ℕ). (ring_of (super_in sb)).blocks) (c.superblock.ensures.block ∙ sym made.superblock) in
    let pending = c.in-Ok-new.ensures in
    let keeps : KeepsPending (fresh_engine state.shape superblock next) c.in-Ok-new.pending =
    fresh-keeps state.shape superblock next c.in-Ok-new.pending pending.newest pending.queue pending.unwritten (pending.room ∙ blocks) pending.kept in (
      record {
        plain = subst IsPlain (sym is) (fresh-runs state.shape superblock next named);
        taken = fresh-taken state.shape c.new-3.result (ap (λ (e : Engine). e.accepted) is) c.new-3.ensures.head (ap (λ (e : Engine). e.start) is);
        pending =
            subst (λ (p : PendingValue). KeepsPending (engine_of state.shape c.new-3.result) p) (sym c.new-3.ensures.pending)
            (subst (λ (e : Engine). KeepsPending e c.in-Ok-new.pending) (sym is) keeps);
        kept = c.new-3.ensures.kept;
      },
      c.in-Ok.ensures ∙ c.layout.ensures.size ∙ ap (λ (d : g.row.D.Denot). (g.D.Device.state d).shape.block_size) (sym made.device),
      λ honest. subst (λ (e : Engine). Sound e state.disk) (sym is) (fresh-sound state.shape state.disk superblock next (log honest)),
      λ honest. subst (λ (e : Engine). KeepsClean e state.disk) (sym is) (fresh-clean state.shape state.disk superblock next (log honest)),
      subst (λ (e : Engine). HasPlan e c.new-4.result) (sym is) (none-planned (fresh_engine state.shape superblock next) c.new-4.result (omega arith)),
      none-noted (engine_of state.shape c.new-3.result) c.new-5.result (ap (λ (e : Engine). e.accepted) is) c.new-5.ensures,
    )

pub returns-clause-ok : goal.returns-clause-ok
returns-clause-ok g c =
    let made = c.into_parts-device.ensures in
    let shape = (g.D.Device.state c.into_parts-device.result.0).shape in
    let superblock = c.into_parts-device.result.1.items in
    let next = c.into_parts-device.result.2 in (
      made.device,
      c.new-3.ensures.engine shape ∙ ap (fresh_engine shape superblock) c.next.view_is
          ∙ ap (λ (d : g.row.D.Denot). fresh_engine (g.D.Device.state d).shape superblock next) made.device
          ∙ ap₂ (fresh_engine (g.D.Device.state c.args.opened.device).shape) made.superblock made.next,
    )

pub returns-clause-plain : goal.returns-clause-plain
returns-clause-plain g c =
    let made = c.into_parts-device.ensures in
    let shape = (g.D.Device.state c.into_parts-device.result.0).shape in
    let is : engine_of shape c.new-3.result ≡ fresh_engine (g.D.Device.state c.args.opened.device).shape c.args.opened.superblock c.args.opened.next =
    c.new-3.ensures.engine shape ∙ ap (fresh_engine shape c.into_parts-device.result.1.items) c.next.view_is
    ∙ ap (λ (d : g.row.D.Denot). fresh_engine (g.D.Device.state d).shape c.into_parts-device.result.1.items c.into_parts-device.result.2) made.device
    ∙ ap₂ (fresh_engine (g.D.Device.state c.args.opened.device).shape) made.superblock made.next in
    subst IsPlain (sym is) (fresh-runs _ _ _ made.named)

pub returns-clause-log : goal.returns-clause-log
returns-clause-log g c = c.into_parts-device.ensures.log
