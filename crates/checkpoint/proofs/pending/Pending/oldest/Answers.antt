use Rattle.std.proofs.Common.{◌==◌, inl, inr, refl, sym, ap, ◌∙◌, arith, true≢false}
use Rattle.std.proofs.lemmas.Bool.{and_left, cases_lt}
use Rattle.std.proofs.lemmas.Option.{slice_get_within}
use Rattle.checkpoint.specs.declared.version.Version.{Version}
use Rattle.checkpoint.specs.Copies.{version_of}
use Rattle.checkpoint.proofs.Kept.{kept-pending, newest-at, newest-live, newest-map}
use Rattle.checkpoint.proofs.Newest.{live-block, newest-none}
use Rattle.checkpoint.proofs.Ordered.{tids-rise}
use Rattle.checkpoint.proofs.pending.Pending.oldest.Goals as goal

-- no copy is live
pub returns-then-self-len-clause-none : goal.returns-then-self-len-clause-none
returns-then-self-len-clause-none c =
    let cs = c.self.inside.copies.copies in
    rw (← c.self.view_is)
    (λ b.
    newest-map cs b
    ∙ newest-none b cs (λ j d here.
    let within = slice_get_within cs j d here in
    and_left d.live (d.block == b) (c.self.invariant.before_front.dead j d (omega arith) (omega (arith, c.len.ensures, c.if-self-len.true)) here)))

pub returns-then-self-len-clause-kept : goal.returns-then-self-len-clause-kept
returns-then-self-len-clause-kept c = rw (← c.self.view_is) (kept-pending c.self.inside c.self.invariant)

-- the first live copy is of the lowest transaction
pub returns-clause-some : goal.returns-clause-some
returns-clause-some c =
    let cs = c.self.inside.copies.copies in
    let copy = c.at.result in
    rw (← c.self.view_is)
    (record {
      pending = (
        copy.block,
        (
          version_of copy,
          newest-live c.self.inside c.self.inside.front copy c.self.invariant c.at.ensures (c.self.invariant.front.live copy c.at.ensures),
          refl,
        ),
      );
      least = λ b v newest.
          let found = newest-at cs b v (sym (newest-map cs b) ∙ newest) in
          let tid = ap (λ (w : Version). w.tid) found.version in
          elim (cases_lt found.at c.self.inside.front) [
            | inl before ↦ absurd (true≢false (sym (live-block b found.copy found.live).0 ∙ c.self.invariant.before_front.dead found.at found.copy (omega arith) before found.there))
            | inr behind ↦ omega (arith, tid, tids-rise cs c.self.inside.front found.at copy found.copy c.self.invariant.ordered behind c.at.ensures found.there)
          ];
    })

pub returns-clause-kept : goal.returns-clause-kept
returns-clause-kept c = rw (← c.self.view_is) (kept-pending c.self.inside c.self.invariant)
