-- The tags so far, and one more, begin the block; if no tag can follow, there are none.
use Rattle.std.proofs.Common.{◌≡◌, ◌<◌, ◌≤◌, ◌+◌, ◌-◌, ℕ, List, true, false, length, take, drop, subst, sym, ap, ◌∙◌, arith, drop-drop, get_or-set_same, length-set, length-drop}
use Rattle.std.proofs.lemmas.List.{take_more_set, take_rest}
use Rattle.std.proofs.lemmas.Result.{err_from_is_err_and}
use Rattle.log_model.specs.declared.log.Tag.{Tag}
use Rattle.journal_model.specs.Layout.{Layout, header_bytes, tag_bytes}
use Rattle.log_model.specs.Descriptor.{BeginsWithTag, uuid_behind}
use Rattle.log_format.proofs.Counts.{no_more}
use Rattle.log_format.proofs.Reading.{reads_last, reads_next, reads_short, reads_stuck}
use Rattle.log_format.proofs.descriptor.Descriptor.read.Goals as goal

-- the bytes from a place on, as the code passes them
from_place : (l : Layout) (block : List ℕ) (at : ℕ) (t : Tag) →
    BeginsWithTag l (take (length block - at) (drop at block)) t →
    BeginsWithTag l (drop at block) t
from_place l block at t begins = subst (λ bytes. BeginsWithTag l bytes t) (take_rest block at) begins

pub returns-in_err-tags : goal.returns-in_err-tags
returns-in_err-tags c =
    let p = err_from_is_err_and c.from_residual.result c.from_residual.ensures.1 in
    rw p.1 (λ ts is. reads_stuck _ _ _ _ _ ts c.loop-count.invariant.reads
    (λ t begins low. c.in_err-tags.ensures t (subst (λ bytes. BeginsWithTag c.args.layout bytes t) (sym (take_rest c.args.block.now c.loop-count.at)) begins) low)
    is.spelled is.below)

pub returns-then-tag : goal.returns-then-tag
returns-then-tag c =
    let t : Tag = c.in_ok-tags.field-0 in
    let here : c.loop-count.count < length c.loop-count.tags = omega arith in
    let stored = get_or-set_same c.loop-count.tags c.loop-count.count t c.index-tags-count.result here in
    let last : t.last ≡ true = ap (λ (u : Tag). u.last) (sym stored) ∙ c.if-tag.true in
    let begins = from_place c.args.layout c.args.block.now c.loop-count.at t c.in_ok-tags.ensures.0 in
    let done = reads_last _ _ _ _ _ t c.loop-count.invariant.reads begins c.in_ok-tags.ensures.1 last in
    let tags = take_more_set c.loop-count.tags c.loop-count.count t here in (
      rw length-set (omega arith),
      record {
        has_header = c.requires.has_header;
        spelled = rw tags done.0;
        below = rw tags done.1;
      },
    )

pub returns-then-at-block : goal.returns-then-at-block
returns-then-at-block c ts is =
    let t : Tag = c.in_ok-tags.field-0 in
    let stored = get_or-set_same c.loop-count.tags c.loop-count.count t c.index-tags-count.result (omega arith) in
    let last : t.last ≡ false = ap (λ (u : Tag). u.last) (sym stored) ∙ c.if-tag.false in
    let begins = from_place c.args.layout c.args.block.now c.loop-count.at t c.in_ok-tags.ensures.0 in
    let spelled : c.spelled_bytes.result ≡ tag_bytes c.args.layout + uuid_behind t = c.spelled_bytes.ensures ∙ ap (λ (u : Tag). tag_bytes c.args.layout + uuid_behind u) stored in
    let short : length (drop c.loop-count.at c.args.block.now) < tag_bytes c.args.layout + uuid_behind t = omega (arith, length-drop c.loop-count.at c.args.block.now) in
    reads_short _ _ _ _ _ ts t c.loop-count.invariant.reads begins last short is.spelled

pub loop-count-preserved : goal.loop-count-preserved
loop-count-preserved c =
    let t : Tag = c.in_ok-tags.field-0 in
    let here : c.loop-count.count < length c.loop-count.tags = omega arith in
    let stored = get_or-set_same c.loop-count.tags c.loop-count.count t c.index-tags-count.result here in
    let last : t.last ≡ false = ap (λ (u : Tag). u.last) (sym stored) ∙ c.if-tag.false in
    let begins = from_place c.args.layout c.args.block.now c.loop-count.at t c.in_ok-tags.ensures.0 in
    let spelled : c.spelled_bytes.result ≡ tag_bytes c.args.layout + uuid_behind t = c.spelled_bytes.ensures ∙ ap (λ (u : Tag). tag_bytes c.args.layout + uuid_behind u) stored in
    let room : tag_bytes c.args.layout + uuid_behind t ≤ length (drop c.loop-count.at c.args.block.now) = omega (arith, length-drop c.loop-count.at c.args.block.now) in
    let next = reads_next _ _ _ _ _ t c.loop-count.invariant.reads begins c.in_ok-tags.ensures.1 last room in
    record {
      passed = omega arith;
      within = omega arith;
      reads = rw (take_more_set c.loop-count.tags c.loop-count.count t here, spelled, ← drop-drop (tag_bytes c.args.layout + uuid_behind t) c.loop-count.at c.args.block.now) next;
    }

pub returns : goal.returns
returns c ts is =
    reads_stuck _ _ _ _ _ ts c.loop-count.invariant.reads
    (λ t begins low. omega (arith, no_more (c.args.layout.block_size - header_bytes) (tag_bytes c.args.layout) c.loop-count.count (omega arith) (omega (arith, c.requires.room)), begins.room, length-drop c.loop-count.at c.args.block.now))
    is.spelled is.below
