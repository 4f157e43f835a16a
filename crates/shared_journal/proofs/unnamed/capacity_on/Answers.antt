use Rattle.std.proofs.Common.{arith, ap, length, subst, ◌∙◌, ◌≡◌, ◌≤◌, ◌-◌, ℕ}
use Rattle.log_model.specs.Room.{IsCapacity}
use Rattle.log_model.specs.Superblock.{Super, super_in}
use Rattle.journal_world.proofs.Superblocks.{accepted-size}
use Rattle.shared_journal.proofs.Capacities.{few-credits, some-blocks}
use Rattle.shared_journal.proofs.unnamed.capacity_on.Goals as goal

-- A superblock fills a block.
pub fields-fields-requires : goal.fields-fields-requires
fields-fields-requires g c =
    let named = c.superblock.ensures.named.named.is_superblock in
    let large : 1024 ≤ (g.D.Device.state c.args.opened.now.device).shape.block_size =
    accepted-size (g.D.Device.state c.args.opened.now.device).shape c.args.opened.now.superblock named.accepted in
    let same = ap length c.superblock.ensures.block in
    omega (arith, named.size)

-- The ring follows the superblock.
pub overflow_sub-fields-inside : goal.overflow_sub-fields-inside
overflow_sub-fields-inside g c =
    let same = c.fields.view_is ∙ c.fields-fields.ensures ∙ ap super_in c.superblock.ensures.block in
    let first : c.fields.inside.s_first ≡ (super_in c.args.opened.now.superblock).s_first = ap (λ (s : Super). s.s_first) same in
    let most : c.fields.inside.s_maxlen ≡ (super_in c.args.opened.now.superblock).s_maxlen = ap (λ (s : Super). s.s_maxlen) same in
    let some = some-blocks _ _ _ c.superblock.ensures.named in
    omega arith

-- The ring has enough blocks.
pub capacity-requires-clause-least : goal.capacity-requires-clause-least
capacity-requires-clause-least g c =
    let same = c.fields.view_is ∙ c.fields-fields.ensures ∙ ap super_in c.superblock.ensures.block in
    let first : c.fields.inside.s_first ≡ (super_in c.args.opened.now.superblock).s_first = ap (λ (s : Super). s.s_first) same in
    let most : c.fields.inside.s_maxlen ≡ (super_in c.args.opened.now.superblock).s_maxlen = ap (λ (s : Super). s.s_maxlen) same in
    let blocks : c.from.result ≡ c.fields.inside.s_maxlen - c.fields.inside.s_first = c.from.ensures in
    let some = some-blocks _ _ _ c.superblock.ensures.named in
    omega arith

-- No log has a greater capacity.
pub returns-clause-few : goal.returns-clause-few
returns-clause-few g c =
    let same = c.fields.view_is ∙ c.fields-fields.ensures ∙ ap super_in c.superblock.ensures.block in
    let blocks : c.from.result ≡ (super_in c.args.opened.now.superblock).s_maxlen - (super_in c.args.opened.now.superblock).s_first =
    c.from.ensures ∙ ap (λ (s : Super). s.s_maxlen - s.s_first) same in
    few-credits c.layout.result _ _ _ c.capacity.result c.superblock.ensures.named
    (subst (λ (n : ℕ). IsCapacity c.layout.result n c.capacity.result) blocks c.capacity.ensures)
