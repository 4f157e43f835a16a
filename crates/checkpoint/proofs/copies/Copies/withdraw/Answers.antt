use Rattle.std.proofs.Common.{◌≡◌, List, Some, false, arith, refl, sym, ap, subst, ◌∙◌, length, map, set, slice_get, length-set}
use Rattle.std.proofs.lemmas.List.{length-map, map-set}
use Rattle.std.proofs.lemmas.Option.{slice_get_read, slice_get_within}
use Rattle.checkpoint.specs.declared.copies.Link.{Link}
use Rattle.checkpoint.specs.declared.copies.QueuedCopy.{QueuedCopy}
use Rattle.checkpoint.specs.Copies.{AreCopies, CopiesValue, IsSingle, is_live_of, withdrawn}
use Rattle.checkpoint.proofs.Chaining.{chained-withdrawn, link-at}
use Rattle.checkpoint.proofs.Newest.{newest-none, single-withdrawn, withdrawn-live, withdrawn-none, withdrawn-set}
use Rattle.checkpoint.proofs.copies.Copies.withdraw.Goals as goal

-- the links' copies
abbrev copies : List Link → List QueuedCopy
copies links = map (λ (l : Link). l.copy) links

-- what the link at a place becomes
abbrev silenced : Link → Link
silenced l = record { copy = record { tid = l.copy.tid; block = l.copy.block; place = l.copy.place; live = false }; before = l.before }

-- the live copy of the block is withdrawn
withdrawn-copies : (c : goal.After-self-1) → copies (set c.self.inside.links.items c.in-Some.place (silenced c.index-link.result.now)) ≡ map (withdrawn c.args.block) (copies c.self.inside.links.items)
withdrawn-copies c =
    let links = c.self.inside.links.items in
    let link = c.index-link.result.now in
    let found = c.in-Some.ensures.some in
    let count = ap (λ (v : CopiesValue). length v.copies) c.self.view_is in
    let below = slice_get_within c.args.self.now.copies c.in-Some.place found.0 found.1 in
    let here : slice_get links c.in-Some.place ≡ Some link = slice_get_read links (length links) c.in-Some.place link refl (omega (arith, length-map links (λ (l : Link). l.copy))) c.index-link.ensures in
    let there : slice_get (copies links) c.in-Some.place ≡ Some found.0 = ap (λ (v : CopiesValue). slice_get v.copies c.in-Some.place) c.self.view_is ∙ found.1 in
    let one : link.copy ≡ found.0 = let e : Some link.copy ≡ Some found.0 = sym (link-at links c.in-Some.place link here).0 ∙ there in cc in
    let live = ap (is_live_of c.args.block) one ∙ found.2 in
    map-set (λ (l : Link). l.copy) links c.in-Some.place (silenced link)
    ∙ withdrawn-set c.args.block (copies links) c.in-Some.place link.copy (silenced link).copy c.self.invariant.copies.single (link-at links c.in-Some.place link here).0 live (withdrawn-live c.args.block link.copy live)

-- what the copies keep
kept : (c : goal.After-self-1) → AreCopies (record { room = c.self.inside.room; copies = copies (set c.self.inside.links.items c.in-Some.place (silenced c.index-link.result.now)) })
kept c =
    let old = c.self.invariant.copies in
    let links = c.self.inside.links.items in
    record {
      room = omega (arith, old.room, length-set links c.in-Some.place (silenced c.index-link.result.now), length-map links (λ (l : Link). l.copy), length-map (set links c.in-Some.place (silenced c.index-link.result.now)) (λ (l : Link). l.copy));
      single = subst IsSingle (sym (withdrawn-copies c)) (single-withdrawn c.args.block (copies links) old.single);
    }

-- the links, with one copy withdrawn
pub invariant_of-self : goal.invariant_of-self
invariant_of-self c =
    let old = c.self.invariant in
    let links = c.self.inside.links.items in
    let link = c.index-link.result.now in
    let below = slice_get_within c.args.self.now.copies c.in-Some.place c.in-Some.ensures.some.0 c.in-Some.ensures.some.1 in
    let count = ap (λ (v : CopiesValue). length v.copies) c.self.view_is in
    let here : slice_get links c.in-Some.place ≡ Some link = slice_get_read links (length links) c.in-Some.place link refl (omega (arith, length-map links (λ (l : Link). l.copy))) c.index-link.ensures in
    record {
      copies = kept c;
      reserved = old.reserved;
      fits = old.fits;
      some = old.some;
      chained = chained-withdrawn (length c.self.inside.lasts.items) c.args.block c.in-Some.place c.self.inside.first links c.self.inside.lasts.items link (silenced link) here refl (withdrawn-copies c) old.chained;
    }

pub returns-in-Some-clause-withdrawn : goal.returns-in-Some-clause-withdrawn
returns-in-Some-clause-withdrawn c =
    rw (← c.self.view_is)
    (ap (λ (cs : List QueuedCopy). let v : CopiesValue = record { room = c.self.inside.room; copies = cs } in v) (withdrawn-copies c))

pub returns-in-Some-clause-kept : goal.returns-in-Some-clause-kept
returns-in-Some-clause-kept c = kept c

-- if no copy of the block is live, nothing changes
pub returns-in-None-clause-withdrawn : goal.returns-in-None-clause-withdrawn
returns-in-None-clause-withdrawn c =
    let old = c.args.self.now in
    ap (λ (cs : List QueuedCopy). let v : CopiesValue = record { room = old.room; copies = cs } in v)
    (sym (withdrawn-none c.args.block old.copies (newest-none c.args.block old.copies c.in-None.ensures.none)))
