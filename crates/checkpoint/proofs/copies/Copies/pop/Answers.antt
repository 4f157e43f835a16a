use Rattle.std.proofs.Common.{◌≡◌, ◌+◌, ◌++◌, ◌∷◌, List, arith, ap, subst, ◌∙◌, length, map, mod-lt}
use Rattle.std.proofs.lemmas.List.{length-map}
use Rattle.std.specs.Option.{option_to_list}
use Rattle.checkpoint.specs.declared.copies.Link.{Link}
use Rattle.checkpoint.specs.Copies.{IsSingle}
use Rattle.checkpoint.proofs.Chaining.{AreChained, chained-popped}
use Rattle.checkpoint.proofs.copies.Copies.pop.Goals as goal

-- the links but the first
pub invariant_of-self : goal.invariant_of-self
invariant_of-self c =
    let old = c.self.inside in
    let rest = c.pop_front.new.self.items in
    let all : old.links.items ≡ c.in-Some.field-0 ∷ rest = c.pop_front.ensures.items ∙ ap (λ o. option_to_list o ++ rest) c.in-Some.is in
    let long = ap length all in
    record {
      copies =
          record {
            room = omega (arith, c.self.invariant.copies.room, length-map old.links.items (λ (l : Link). l.copy), length-map rest (λ (l : Link). l.copy));
            single = (subst (λ (ls : List Link). IsSingle (map (λ (l : Link). l.copy) ls)) all c.self.invariant.copies.single).1;
          };
      reserved = omega (arith, c.self.invariant.reserved, c.pop_front.ensures.capacity);
      fits = mod-lt (old.first + 1) (omega arith);
      some = c.self.invariant.some;
      chained = chained-popped (length old.lasts.items) old.first c.in-Some.field-0 rest old.lasts.items c.self.invariant.fits
          (subst (λ (ls : List Link). AreChained (length old.lasts.items) ls old.lasts.items old.first) all c.self.invariant.chained);
    }
