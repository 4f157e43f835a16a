use Rattle.std.proofs.Common.{◌≡◌, ◌++◌, ℕ, List, length, take, sym, ap, ◌∙◌, arith}
use Rattle.std.specs.Prelude.{codes}
use Rattle.std.specs.Fmt.{decimal}
use Rattle.std.proofs.lemmas.List.{take_all}
use Rattle.log_model.specs.declared.log.Tag.{Tag}
use Rattle.log_dump.specs.Lines.{copies_captions, ended, placed_line, placed_lines}
use Rattle.log_dump.proofs.Placed.{copies-more, placed-one}
use Rattle.log_dump.proofs.Written.{appends-joins, appends-same}
use Rattle.log_dump.proofs.printing.write_copies.Goals as goal

pub loop-i-init : goal.loop-i-init
loop-i-init g c =
    let caption : List ℕ = codes "descriptor " ++ decimal c.args.sequence ++ codes " tags=" ++ decimal (length c.args.tags.now) in
    appends-same (g.W.Write.contents c.args.out.now) (g.W.Write.contents c.write_descriptor.new.out) _ _
    (ap (λ (p : ℕ). ended (placed_line p caption)) c.place.ensures.place ∙ sym (placed-one c.args.log.now c.args.position caption))
    c.in_ok-write_descriptor.ensures

pub loop-i-preserved : goal.loop-i-preserved
loop-i-preserved g c =
    appends-same (g.W.Write.contents c.args.out.now) (g.W.Write.contents c.write_copy.new.out) _ _
    (sym (copies-more c.args.log.now c.args.position c.args.sequence (length c.args.tags.now) c.loop-i.i c.args.tags.now c.index-tags-i.result c.place-in-loop-i.result c.loop-i-test.true c.index-tags-i.is c.place-in-loop-i.ensures.place))
    (appends-joins (g.W.Write.contents c.args.out.now) (g.W.Write.contents c.loop-i.out) (g.W.Write.contents c.write_copy.new.out) _ _ c.loop-i.invariant c.in_ok-write_copy.ensures)

pub returns : goal.returns
returns g c =
    let all : take c.loop-i.i c.args.tags.now ≡ c.args.tags.now = take_all c.loop-i.i c.args.tags.now (omega arith) in
    appends-same (g.W.Write.contents c.args.out.now) (g.W.Write.contents c.loop-i.out) _ _
    (ap (λ (ts : List Tag). placed_lines c.args.log.now c.args.position (copies_captions c.args.sequence (length c.args.tags.now) ts)) all) c.loop-i.invariant
