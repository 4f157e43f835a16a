use Rattle.std.proofs.Common.{rules, refl, sym, ap, subst, true, ◌∙◌, ◌<◌, ℕ, List, length, get_or}
use Rattle.journal_model.specs.declared.entry.Entry.{Entry}
use Rattle.log_model.specs.Descriptor.{descriptor_block}
use Rattle.journal_model.specs.Layout.{every_number}
use Rattle.journal_model.specs.Transaction.{copied, revoked}
use Rattle.log_model.specs.OwnText.{tags_from}
use Rattle.log_model.proofs.OwnTextEntries.{copied_below}
use Rattle.log_ring.specs.Parts.{FitsPart, part_block}
use Rattle.log_ledger.specs.Text.{IsWholeCopy}
use Rattle.log_ledger.proofs.Copies.{entry-there}
use Rattle.log_ledger.proofs.TextBlocks.{copies-of, copy-of, each-of, long-of, revokes-fit, whole-at}
use Rattle.log_ledger.proofs.text.write_part.Goals as goal

-- the revoked blocks of one revoke block fit it
pub write-requires-clause-fit : goal.write-requires-clause-fit
write-requires-clause-fit c =
    let l = c.args.layout in
    let entries = c.args.entries.now in
    let there = subst (FitsPart l (length (copied entries)) (length (revoked entries))) c.in-Revokes.is c.requires.part in
    revokes-fit entries c.args.plan.now c.requires.plan l _ _ _ _ refl c.deref.ensures.value there.1 c.requires.spelled

-- each copy of a group is one block
pub write_descriptor-requires-clause-long : goal.write_descriptor-requires-clause-long
write_descriptor-requires-clause-long c =
    long-of c.args.entries.now c.args.plan.now c.requires.plan c.args.layout _ _ _ _ refl c.deref-in-Descriptor.ensures.value c.requires.taken c.requires.whole

-- of a block that a tag can name
pub write_descriptor-requires-clause-spelled : goal.write_descriptor-requires-clause-spelled
write_descriptor-requires-clause-spelled c =
    let l = c.args.layout in
    let entries = c.args.entries.now in
    each-of entries c.args.plan.now c.requires.plan (λ x. x.0 < every_number l) _ _ _ _ refl c.deref-in-Descriptor.ensures.value
    (copied_below (every_number l) entries c.requires.spelled)

-- the place of a copy is one of an entry
pub offset_bounds-entries-place : goal.offset_bounds-entries-place
offset_bounds-entries-place c =
    let l = c.args.layout in
    let entries = c.args.entries.now in
    let within = subst (FitsPart l (length (copied entries)) (length (revoked entries))) c.in-Copy.is c.requires.part in
    let there = (whole-at entries c.args.plan.now c.requires.plan l _ _ c.requires.taken c.requires.whole within c.index-place.ensures).0 in
    search rules

pub bounds-entries-place : goal.bounds-entries-place
bounds-entries-place c =
    let l = c.args.layout in
    let entries = c.args.entries.now in
    let within = subst (FitsPart l (length (copied entries)) (length (revoked entries))) c.in-Copy.is c.requires.part in
    (whole-at entries c.args.plan.now c.requires.plan l _ _ c.requires.taken c.requires.whole within c.index-place.ensures).0

-- the entry there is a copy
pub write_copy-requires-clause-copy : goal.write_copy-requires-clause-copy
write_copy-requires-clause-copy c =
    let l = c.args.layout in
    let entries = c.args.entries.now in
    let within = subst (FitsPart l (length (copied entries)) (length (revoked entries))) c.in-Copy.is c.requires.part in
    let there = whole-at entries c.args.plan.now c.requires.plan l _ _ c.requires.taken c.requires.whole within c.index-place.ensures in
    subst (λ (n : ℕ). IsWholeCopy n (get_or entries c.index-place.result.now c.index-entries-place.result).1) (sym c.requires.size)
    (subst (λ (p : ℕ × Entry). IsWholeCopy l.block_size p.1) (sym (entry-there entries _ c.index-entries-place.result there.0)) there.1)

-- the descriptor of a group
pub returns-in-Descriptor : goal.returns-in-Descriptor
returns-in-Descriptor c =
    let l = c.args.layout in
    let entries = c.args.entries.now in
    c.write_descriptor.ensures
    ∙ ap (λ (cs : List (ℕ × List ℕ)). descriptor_block l c.args.uuid.now c.args.sequence (tags_from true cs))
    (copies-of entries c.args.plan.now c.requires.plan _ _ _ _ refl c.deref-in-Descriptor.ensures.value)
    ∙ ap (part_block l c.args.uuid.now c.args.sequence entries) (sym c.in-Descriptor.is)

-- a copy
pub returns-in-Copy : goal.returns-in-Copy
returns-in-Copy c =
    let l = c.args.layout in
    let entries = c.args.entries.now in
    let within = subst (FitsPart l (length (copied entries)) (length (revoked entries))) c.in-Copy.is c.requires.part in
    let there = whole-at entries c.args.plan.now c.requires.plan l _ _ c.requires.taken c.requires.whole within c.index-place.ensures in
    copy-of entries c.args.plan.now c.requires.plan _ _ _ _ within c.index-place.ensures there.0 c.write_copy.ensures
    ∙ ap (part_block l c.args.uuid.now c.args.sequence entries) (sym c.in-Copy.is)
