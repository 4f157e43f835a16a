use Rattle.std.proofs.Common.{◌≡◌, ◌+◌, ◌%◌, ◌^◌, ◌++◌, ◌∷◌, ℕ, List, [], Some, None, true, arith, refl, sym, ap, ap₂, subst, ◌∙◌, length, map, set, length-append, slice_get, length-set}
use Rattle.std.proofs.lemmas.List.{map_push}
use Rattle.std.proofs.lemmas.Option.{slice_get_read}
use Rattle.checkpoint.specs.declared.copies.Link.{Link}
use Rattle.checkpoint.specs.declared.copies.QueuedCopy.{QueuedCopy}
use Rattle.checkpoint.specs.Copies.{AreCopies, CopiesValue, IsSingle, bucket_of, newest_in}
use Rattle.checkpoint.proofs.Chaining.{AreChained, chained-pushed}
use Rattle.checkpoint.proofs.Newest.{single-more}
use Rattle.checkpoint.proofs.copies.Copies.push.Goals as goal

-- the links' copies
abbrev copies : List Link → List QueuedCopy
copies links = map (λ (l : Link). l.copy) links

-- the copies and one more
kept : (c : goal.After-push_back_reserved) → AreCopies (record { room = c.self.inside.room; copies = copies c.push_back_reserved.new.self.items })
kept c =
    let links = c.self.inside.links.items in
    let copy : QueuedCopy = record { tid = c.args.tid; block = c.args.block; place = c.args.place; live = true } in
    let link : Link = record { copy = copy; before = c.index-before.result.now } in
    let none : newest_in (copies links) c.args.block ≡ None = ap (λ (v : CopiesValue). newest_in v.copies c.args.block) c.self.view_is ∙ c.requires.single in
    let all : copies c.push_back_reserved.new.self.items ≡ copies links ++ copy ∷ [] = ap copies c.push_back_reserved.ensures.items ∙ map_push (λ (l : Link). l.copy) links link in
    let before = ap (λ (v : CopiesValue). length v.copies) c.self.view_is in
    let room = ap (λ (v : CopiesValue). v.room) c.self.view_is in
    record {
      room = let long = ap length all in let more = length-append (copies links) (copy ∷ []) in omega (arith, c.requires.room);
      single = subst IsSingle (sym all) (single-more (copies links) copy c.self.invariant.copies.single none);
    }

-- the links and one more
pub invariant_of-self : goal.invariant_of-self
invariant_of-self c =
    let old = c.self.inside in
    let links = old.links.items in
    let copy : QueuedCopy = record { tid = c.args.tid; block = c.args.block; place = c.args.place; live = true } in
    let n = length old.lasts.items in
    let vec = old.lasts.ok in
    let deque = old.links.ok in
    let bucket : c.bucket_of-bucket.result ≡ bucket_of n copy.block =
    c.bucket_of-bucket.ensures.bucket ∙ ap (λ (m : ℕ). bucket_of m c.args.block) (c.len.ensures ∙ old.lasts.ok.0) in
    let count : c.len-2.result ≡ length links = c.len-2.ensures ∙ old.links.ok.0 in
    let within = c.bucket_of-bucket.ensures.within in
    let number = c.index-before.result.now in
    let last : slice_get old.lasts.items (bucket_of n copy.block) ≡ Some number =
    ap (slice_get old.lasts.items) (sym bucket)
    ∙ slice_get_read old.lasts.items (length old.lasts.items) c.bucket_of-bucket.result number refl (omega (arith, c.len.ensures, old.lasts.ok.0)) c.index-before.ensures in
    let made = chained-pushed n old.first number links old.lasts.items copy c.self.invariant.fits (omega (arith, c.len-2.type_inv)) last c.self.invariant.chained in
    let lasts : set old.lasts.items (bucket_of n copy.block) ((old.first + length links) % 2 ^ 64) ≡ set old.lasts.items c.bucket_of-bucket.result ((old.first + c.len-2.result) % 2 ^ 64) =
    ap₂ (λ (h k : ℕ). set old.lasts.items h ((old.first + k) % 2 ^ 64)) (sym bucket) (sym count) in
    let long = length-set old.lasts.items c.bucket_of-bucket.result ((old.first + c.len-2.result) % 2 ^ 64) in
    record {
      copies = kept c;
      reserved = omega (arith, c.self.invariant.reserved, c.push_back_reserved.ensures.capacity);
      fits = c.self.invariant.fits;
      some = omega (arith, c.self.invariant.some, long);
      chained =
          subst (λ (m : ℕ). AreChained m c.push_back_reserved.new.self.items (set old.lasts.items c.bucket_of-bucket.result ((old.first + c.len-2.result) % 2 ^ 64)) old.first) (sym long)
          (subst (λ (ls : List Link). AreChained n ls (set old.lasts.items c.bucket_of-bucket.result ((old.first + c.len-2.result) % 2 ^ 64)) old.first) (sym c.push_back_reserved.ensures.items)
          (subst (λ (numbers : List ℕ). AreChained n (links ++ record { copy = copy; before = number } ∷ []) numbers old.first) lasts made));
    }

pub returns-clause-kept : goal.returns-clause-kept
returns-clause-kept c = kept c
