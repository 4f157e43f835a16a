-- The numbers so far, and one more, are the block's; if one is outside home, it has none.
use Rattle.std.proofs.Common.{◌≡◌, ◌<◌, ◌-◌, ◌+◌, ◌*◌, ◌/◌, ◌∷◌, [], ◌++◌, ℕ, List, length, take, arith, ap, sym, ◌∙◌}
use Rattle.std.proofs.lemmas.List.{length-take-le, take_more_set}
use Rattle.std.proofs.lemmas.List.Elements.{All-get_or, All-push}
use Rattle.journal_model.specs.Layout.{every_number, number_at}
use Rattle.log_model.specs.RevokeBlock.{numbers_in}
use Rattle.log_format.specs.Size.{count_of}
use Rattle.log_format.proofs.Counts.{count_is, count_most, inside, outside, place_fits, whole_numbers}
use Rattle.log_format.proofs.Revokes.{number_is, numbers_more}
use Rattle.log_format.proofs.revoke_block.RevokeBlock.read.Goals as goal

pub nth_number-number-requires-clause-room : goal.nth_number-number-requires-clause-room
nth_number-number-requires-clause-room c =
    let l = c.args.layout in
    let whole = whole_numbers l.number_bytes c.number_in-used.result c.requires.taken.1 (omega arith) (omega arith) in
    place_fits l.number_bytes c.loop-i.i ((c.number_in-used.result - 16) / l.number_bytes) (length c.args.block.now) c.requires.taken.1 (omega arith) (omega (arith, whole))

pub returns-then-is_outside : goal.returns-then-is_outside
returns-then-is_outside c bs is =
    let l = c.args.layout in
    let used : c.number_in-used.result ≡ number_at 12 4 c.args.block.now = c.number_in-used.ensures in
    let count = count_is l.number_bytes c.number_in-used.result (length bs) c.requires.taken.1 (used ∙ is.used) in
    let here : c.loop-i.i < length bs = omega (arith, count) in
    let number = c.nth_number-number.ensures.number in
    let same = number_is l c.args.block.now bs c.loop-i.i is.spelled here in
    let low = All-get_or (λ b. b < count_of l c.args.home_blocks) bs c.loop-i.i 0 here is.below in
    let above = outside c.args.home_blocks c.nth_number-number.result (every_number l) c.nth_number-number.ensures.below (sym c.is_outside.ensures ∙ c.if-is_outside.true) in
    omega arith

pub loop-i-preserved : goal.loop-i-preserved
loop-i-preserved c =
    let l = c.args.layout in
    let most = count_most l.number_bytes c.number_in-used.result l.block_size c.requires.taken.1 (omega arith) in
    let here : c.loop-i.i < length c.loop-i.numbers = omega (arith, most, c.requires.room) in
    let number = c.nth_number-number.ensures.number in
    let more = take_more_set c.loop-i.numbers c.loop-i.i c.nth_number-number.result here in
    record {
      spelled = more ∙ ap (λ (xs : List ℕ). xs ++ c.nth_number-number.result ∷ []) c.loop-i.invariant.spelled ∙ sym (numbers_more l c.args.block.now c.loop-i.i c.nth_number-number.result number);
      below = rw more (All-push (λ b. b < count_of l c.args.home_blocks) (take c.loop-i.i c.loop-i.numbers) c.nth_number-number.result c.loop-i.invariant.below (inside c.args.home_blocks c.nth_number-number.result (every_number l) c.nth_number-number.ensures.below (sym c.is_outside.ensures ∙ c.if-is_outside.false)));
    }

pub returns : goal.returns
returns c =
    let l = c.args.layout in
    let used : c.number_in-used.result ≡ number_at 12 4 c.args.block.now = c.number_in-used.ensures in
    let count : c.loop-i.i ≡ (c.number_in-used.result - 16) / l.number_bytes = omega arith in
    let most = count_most l.number_bytes c.number_in-used.result l.block_size c.requires.taken.1 (omega arith) in
    let whole = whole_numbers l.number_bytes c.number_in-used.result c.requires.taken.1 (omega arith) (omega arith) in
    let is : c.number_in-used.result ≡ 16 + l.number_bytes * c.loop-i.i = whole ∙ ap (λ (n : ℕ). 16 + l.number_bytes * n) (sym count) in
    let size : length (take c.loop-i.i c.loop-i.numbers) ≡ c.loop-i.i = length-take-le c.loop-i.i c.loop-i.numbers (omega (arith, most, c.requires.room)) in
    rw (← count) (
      omega (arith, most, c.requires.room),
      record {
        has_header = c.requires.has_header;
        used = rw size (sym used ∙ is);
        fits = rw size (omega (arith, is));
        spelled = c.loop-i.invariant.spelled ∙ ap (numbers_in l c.args.block.now) (sym size);
        below = c.loop-i.invariant.below;
      },
    )
