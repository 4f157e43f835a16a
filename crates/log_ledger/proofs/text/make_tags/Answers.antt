use Rattle.std.proofs.Common.{rules, arith, sym, ap, ◌∙◌, ◌+◌, ℕ, Some, get_or, length-set, nat_eq, nat_lt}
use Rattle.std.proofs.lemmas.Option.{slice_get-get_or}
use Rattle.log_ledger.specs.Text.{copies_at, copy_at}
use Rattle.log_ledger.proofs.Copies.{entry-there, length-at, long-at, map-at}
use Rattle.log_ledger.proofs.Tags.{length-tags, tag-at, tag_of, tag-made, tag-more, tags-all}
use Rattle.log_ledger.proofs.text.make_tags.Goals as goal

-- the place of a copy is one of an entry
pub offset_bounds-entries-place : goal.offset_bounds-entries-place
offset_bounds-entries-place c =
    let there = (long-at c.args.entries.now c.args.places.now c.loop-i.i 0 c.requires.long c.loop-i-test.true).0 in search rules

pub bounds-entries-place : goal.bounds-entries-place
bounds-entries-place c = (long-at c.args.entries.now c.args.places.now c.loop-i.i 0 c.requires.long c.loop-i-test.true).0

pub bounds-entries-place-in-loop-i : goal.bounds-entries-place-in-loop-i
bounds-entries-place-in-loop-i c = (long-at c.args.entries.now c.args.places.now c.loop-i.i 0 c.requires.long c.loop-i-test.true).0

pub offset_bounds-entries-place-in-loop-i : goal.offset_bounds-entries-place-in-loop-i
offset_bounds-entries-place-in-loop-i c =
    let there = (long-at c.args.entries.now c.args.places.now c.loop-i.i 0 c.requires.long c.loop-i-test.true).0 in search rules

pub bounds-entries-place-in-loop-i-2 : goal.bounds-entries-place-in-loop-i-2
bounds-entries-place-in-loop-i-2 c = (long-at c.args.entries.now c.args.places.now c.loop-i.i 0 c.requires.long c.loop-i-test.true).0

-- the entry there is a copy
pub begins_with_magic-requires : goal.begins_with_magic-requires
begins_with_magic-requires c =
    let entries = c.args.entries.now in
    let there = long-at entries c.args.places.now c.loop-i.i 0 c.requires.long c.loop-i-test.true in
    rw (entry-there entries (get_or c.args.places.now c.loop-i.i 0) c.index-entries-place-in-loop-i.result there.0) there.1

-- the tag of one more copy
pub loop-i-preserved : goal.loop-i-preserved
loop-i-preserved c =
    let entries = c.args.entries.now in
    let places = c.args.places.now in
    let k = c.loop-i.i in
    let place = get_or places k 0 in
    let there = long-at entries places k 0 c.requires.long c.loop-i-test.true in
    let copy = map-at (copy_at entries) places k place (slice_get-get_or places k 0 c.loop-i-test.true) in
    let tag = tag-at (copies_at entries places) k (copy_at entries place) copy in
    let made = tag-made entries place c.index-entries-place.result _ _ _ _ there.0 there.1 c.begins_with_magic.ensures in (
      simp length-set c.loop-i.invariant.0,
      tag-more c.loop-i.tags _ k _ (c.loop-i.invariant.0 ∙ sym (length-tags _ (copies_at entries places) ∙ length-at entries places)) c.loop-i.invariant.1
          (tag ∙ ap (λ (n : ℕ). Some (tag_of (nat_lt 0 k) (nat_eq (k + 1) n) (copy_at entries place))) (length-at entries places) ∙ made),
    )

-- all tags are there
pub returns : goal.returns
returns c =
    let copies = copies_at c.args.entries.now c.args.places.now in
    let size = length-tags _ copies ∙ length-at c.args.entries.now c.args.places.now in
    tags-all c.loop-i.tags _ c.loop-i.i (c.loop-i.invariant.0 ∙ sym size) (omega arith) c.loop-i.invariant.1
