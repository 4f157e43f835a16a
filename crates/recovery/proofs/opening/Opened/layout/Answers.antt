use Rattle.std.proofs.Common.{◌≤◌, ℕ, List, ap, sym, subst, arith, ◌∙◌, length}
use Rattle.journal_model.specs.Layout.{IsLayout, Layout}
use Rattle.log_model.specs.Opening.{layout_of}
use Rattle.log_model.specs.Superblock.{super_in}
use Rattle.journal_world.proofs.Superblocks.{accepted-layout, accepted-size}
use Rattle.recovery.specs.Values.{OpenedValue}
use Rattle.recovery.proofs.opening.Opened.layout.Goals as goal

-- a superblock has as many bytes as a block
pub fields-requires : goal.fields-requires
fields-requires g c =
    let named = c.self.invariant.0.named.is_superblock in
    let large : 1024 ≤ (g.D.Device.state c.self.inside.device).shape.block_size =
    accepted-size (g.D.Device.state c.self.inside.device).shape c.self.inside.superblock.items named.accepted in
    let same = ap length c.deref.ensures.value in
    omega (arith, named.size)

pub returns-clause-layout : goal.returns-clause-layout
returns-clause-layout g c =
    c.layout.ensures ∙ ap layout_of c.fields.ensures ∙ ap (λ (block : List ℕ). layout_of (super_in block)) (c.deref.ensures.value ∙ ap (λ (o : OpenedValue g.row.D.Denot). o.superblock) c.self.view_is)

pub returns-clause-taken : goal.returns-clause-taken
returns-clause-taken g c =
    let accepted = accepted-layout (g.D.Device.state c.self.inside.device).shape c.self.inside.superblock.items c.self.invariant.0.named.is_superblock.accepted in
    subst IsLayout (sym (c.layout.ensures ∙ ap layout_of c.fields.ensures ∙ ap (λ (block : List ℕ). layout_of (super_in block)) c.deref.ensures.value)) accepted.0

pub returns-clause-size : goal.returns-clause-size
returns-clause-size g c =
    let accepted = accepted-layout (g.D.Device.state c.self.inside.device).shape c.self.inside.superblock.items c.self.invariant.0.named.is_superblock.accepted in
    ap (λ (l : Layout). l.block_size) (c.layout.ensures ∙ ap layout_of c.fields.ensures ∙ ap (λ (block : List ℕ). layout_of (super_in block)) c.deref.ensures.value)
    ∙ accepted.1 ∙ ap (λ (o : OpenedValue g.row.D.Denot). (g.D.Device.state o.device).shape.block_size) c.self.view_is
