-- Each number stands after those before it, and zeros after the last.
use Rattle.std.proofs.Common.{◌≡◌, ◌<◌, ◌+◌, ◌*◌, ◌++◌, ℕ, List, length, take, arith, ap, ap₂, ◌∙◌}
use Rattle.std.specs.List.{flat_map}
use Rattle.std.proofs.lemmas.List.{take_all}
use Rattle.journal_model.specs.Layout.{big_endian, header, padded, revoke_type}
use Rattle.log_model.specs.RevokeBlock.{revoke_block}
use Rattle.log_model.proofs.OwnTextHeader.{measures, numbers_fit}
use Rattle.log_model.proofs.OwnTextNumbers.{length-big_endian}
use Rattle.log_format.proofs.Counts.{place_fits}
use Rattle.log_format.proofs.Writing.{filled, spelled_more, written_more}
use Rattle.log_format.proofs.revoke_block.RevokeBlock.write.Goals as goal

pub loop-number-preserved : goal.loop-number-preserved
loop-number-preserved c =
    let l = c.args.layout in
    let front : List ℕ = header revoke_type c.args.sequence ++ big_endian 4 (16 + l.number_bytes * length c.args.numbers.now) in
    let here : c.loop-number.number-index < length c.args.numbers.now = omega arith in
    let fits = numbers_fit l (length c.args.numbers.now) (measures l c.requires.taken) c.requires.fit.few in
    let place = place_fits l.number_bytes c.loop-number.number-index (length c.args.numbers.now) l.block_size c.requires.taken.1 here fits in
    record {
      place = omega arith;
      size = omega arith;
      written =
          written_more c.loop-number.block (front ++ flat_map (big_endian l.number_bytes) (take c.loop-number.number-index c.args.numbers.now)) (big_endian l.number_bytes c.number.inside.0) _ c.write_whole.new.bytes
          c.loop-number.at l.number_bytes (omega (arith, place)) c.loop-number.invariant.written c.write_whole.ensures (length-big_endian l.number_bytes c.number.inside.0)
          ∙ ap (λ (n : ℕ). (front ++ flat_map (big_endian l.number_bytes) (take c.loop-number.number-index c.args.numbers.now)) ++ big_endian l.number_bytes n) c.number.view_is
          ∙ spelled_more (big_endian l.number_bytes) front c.args.numbers.now c.loop-number.number-index c.number-item.result here c.number-item.is;
    }

pub returns : goal.returns
unfolding revoke_block
returns c =
    let l = c.args.layout in
    let front : List ℕ = header revoke_type c.args.sequence ++ big_endian 4 (16 + l.number_bytes * length c.args.numbers.now) in
    let fits = numbers_fit l (length c.args.numbers.now) (measures l c.requires.taken) c.requires.fit.few in
    let index : c.loop-number.number-index ≡ length c.args.numbers.now = omega arith in
    let place : c.loop-number.at ≡ 16 + l.number_bytes * length c.args.numbers.now = c.loop-number.invariant.place ∙ ap (λ (n : ℕ). 16 + l.number_bytes * n) index in
    let all : take c.loop-number.number-index c.args.numbers.now ≡ c.args.numbers.now = take_all c.loop-number.number-index c.args.numbers.now (omega arith) in
    filled c.loop-number.block _ c.fill.new.self c.loop-number.at (omega (arith, fits, place)) c.loop-number.invariant.written (c.fill.ensures.after (λ y h. h))
    ∙ ap₂ (λ (n : ℕ) (ns : List ℕ). padded n (front ++ flat_map (big_endian l.number_bytes) ns)) (c.loop-number.invariant.size ∙ c.requires.size) all
