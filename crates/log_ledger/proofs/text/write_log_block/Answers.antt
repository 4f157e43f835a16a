use Rattle.std.proofs.Common.{arith, ap, ap₂, sym, subst, ◌∙◌, ◌<◌, ◌≡◌, length, slice_get, Some, ℕ}
use Rattle.journal_model.specs.Transaction.{copied, revoked}
use Rattle.log_model.specs.OwnText.{own_text}
use Rattle.log_model.specs.Room.{need}
use Rattle.log_model.specs.Text.{text_blocks}
use Rattle.log_model.proofs.OwnTextWhole.{length_own_text}
use Rattle.log_ring.specs.Parts.{LayoutValue, part_block}
use Rattle.log_ledger.proofs.Copies.{counted}
use Rattle.log_ledger.proofs.TextBlocks.{block-here, count-copies, count-revokes}
use Rattle.log_ledger.proofs.text.write_log_block.Goals as goal

-- there are no more copies than entries
pub new-text-requires-clause-copies : goal.new-text-requires-clause-copies
new-text-requires-clause-copies c =
    let copies = count-copies c.args.entries.now c.args.plan.now c.requires.plan in
    omega (arith, counted c.args.entries.now, c.requires.few, c.len.ensures, c.args.plan.now.copies.ok.0)

-- there are no more revokes than entries
pub new-text-requires-clause-revokes : goal.new-text-requires-clause-revokes
new-text-requires-clause-revokes c =
    let revokes = count-revokes c.args.entries.now c.args.plan.now c.requires.plan in
    omega (arith, counted c.args.entries.now, c.requires.few, c.len-2.ensures, c.args.plan.now.revokes.ok.0)

-- the layout has such a block
pub part-requires : goal.part-requires
part-requires c =
    let l = c.args.layout in
    let entries = c.args.entries.now in
    let copies : c.len.result ≡ length (copied entries) =
    omega (arith, count-copies entries c.args.plan.now c.requires.plan, c.len.ensures, c.args.plan.now.copies.ok.0) in
    let revokes : c.len-2.result ≡ length (revoked entries) =
    omega (arith, count-revokes entries c.args.plan.now c.requires.plan, c.len-2.ensures, c.args.plan.now.revokes.ok.0) in
    let count = length_own_text l c.args.uuid.now c.args.sequence entries c.requires.taken ∙ ap₂ (need l) (sym copies) (sym revokes) in
    subst (λ (v : LayoutValue). c.args.k < need v.layout v.copies v.revokes) (sym c.new-text.ensures)
    (subst (λ (n : ℕ). c.args.k < n) count c.requires.there)

-- the block is that of its part
pub returns : goal.returns
returns c =
    let l = c.args.layout in
    let entries = c.args.entries.now in
    let copies : length (copied entries) ≡ c.len.result =
    omega (arith, count-copies entries c.args.plan.now c.requires.plan, c.len.ensures, c.args.plan.now.copies.ok.0) in
    let revokes : length (revoked entries) ≡ c.len-2.result =
    omega (arith, count-revokes entries c.args.plan.now c.requires.plan, c.len-2.ensures, c.args.plan.now.revokes.ok.0) in
    let text = subst (λ (v : LayoutValue). slice_get (text_blocks (own_text v.layout c.args.uuid.now c.args.sequence entries)) c.args.k
    ≡ Some (part_block v.layout c.args.uuid.now c.args.sequence entries c.part.result)) c.new-text.ensures
    (c.part.ensures.text c.args.uuid.now c.args.sequence entries (copies ∙ sym (ap (λ (v : LayoutValue). v.copies) c.new-text.ensures))
    (revokes ∙ sym (ap (λ (v : LayoutValue). v.revokes) c.new-text.ensures))) in
    c.write_part.ensures ∙ sym (block-here _ c.args.k _ text)
