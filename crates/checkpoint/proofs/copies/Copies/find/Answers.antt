use Rattle.std.proofs.Common.{◌≡◌, ℕ, List, Some, false, length, map, slice_get, arith, refl, sym, ap, subst, ◌∙◌}
use Rattle.std.proofs.lemmas.Option.{slice_get_read}
use Rattle.checkpoint.specs.declared.copies.Link.{Link}
use Rattle.checkpoint.specs.declared.copies.QueuedCopy.{QueuedCopy}
use Rattle.checkpoint.specs.Chains.{Shows, buckets_of}
use Rattle.checkpoint.specs.Copies.{CopiesValue, bucket_of, is_live_of}
use Rattle.checkpoint.proofs.Chaining.{AreChained, bucket-at, link-at, none-from, none-shown}
use Rattle.checkpoint.proofs.copies.Copies.find.Goals as goal

-- the links' copies
abbrev copies : List Link → List QueuedCopy
copies links = map (λ (l : Link). l.copy) links

-- the link before is shown, and from the place on no copy of the block is live
pub loop-place-preserved : goal.loop-place-preserved
loop-place-preserved c =
    let links = c.self.inside.links.items in
    let n = c.len-buckets.result in
    let at_copy : slice_get (copies links) c.loop-place.place ≡ Some c.at-copy.result = ap (λ (v : CopiesValue). slice_get v.copies c.loop-place.place) c.self.view_is ∙ c.at-copy.ensures in
    let shown : Shows (buckets_of n (copies links)) (bucket_of n c.args.block) c.loop-place.place c.loop-place.limit =
    subst (λ (h : ℕ). Shows (buckets_of n (copies links)) h c.loop-place.place c.loop-place.limit) c.bucket_of-bucket.ensures.bucket c.loop-place.invariant.shown in
    let link = c.index-in-loop-place.result.now in
    let long : n ≡ length c.self.inside.lasts.items = omega (arith, c.len-buckets.ensures, c.self.inside.lasts.ok.0) in
    let chained : AreChained n links c.self.inside.lasts.items c.self.inside.first =
    subst (λ (m : ℕ). AreChained m links c.self.inside.lasts.items c.self.inside.first) (sym long) c.self.invariant.chained in
    let here : slice_get links c.loop-place.place ≡ Some link = slice_get_read links (length links) c.loop-place.place link refl (omega arith) c.index-in-loop-place.ensures in
    let in_bucket : slice_get (buckets_of n (copies links)) c.loop-place.place ≡ Some c.bucket_of-bucket.result =
    bucket-at n (copies links) c.loop-place.place c.at-copy.result at_copy ∙ ap Some (sym c.bucket_of.ensures.bucket ∙ c.if-bucket_of-bucket.false) in
    let dead : is_live_of c.args.block c.at-copy.result ≡ false = sym c.is_live_of.ensures ∙ c.if-is_live_of.false in
    record {
      shown =
          subst (λ (p : ℕ). Shows (buckets_of n (copies links)) c.bucket_of-bucket.result p c.loop-place.place) (sym c.place_of-place-in-loop-place.ensures)
          (chained.befores_show c.loop-place.place c.bucket_of-bucket.result link.before in_bucket (link-at links c.loop-place.place link here).1);
      within = omega arith;
      behind = none-from n c.args.block (copies links) c.loop-place.place c.loop-place.limit shown c.loop-place.invariant.behind c.at-copy.result at_copy dead;
    }

-- no link of the block's bucket is shown
pub returns-clause-none : goal.returns-clause-none
returns-clause-none c =
    let links = c.self.inside.links.items in
    let n = c.len-buckets.result in
    let shown : Shows (buckets_of n (copies links)) (bucket_of n c.args.block) c.loop-place.place c.loop-place.limit =
    subst (λ (h : ℕ). Shows (buckets_of n (copies links)) h c.loop-place.place c.loop-place.limit) c.bucket_of-bucket.ensures.bucket c.loop-place.invariant.shown in
    rw (← c.self.view_is)
    (none-shown n c.args.block (copies links) c.loop-place.place c.loop-place.limit shown c.loop-place.invariant.behind
    (λ below there. absurd (omega arith)))

-- the link that is shown is of another bucket
pub returns-then-bucket_of-bucket-clause-none : goal.returns-then-bucket_of-bucket-clause-none
returns-then-bucket_of-bucket-clause-none c =
    let links = c.self.inside.links.items in
    let n = c.len-buckets.result in
    let at_copy : slice_get (copies links) c.loop-place.place ≡ Some c.at-copy.result = ap (λ (v : CopiesValue). slice_get v.copies c.loop-place.place) c.self.view_is ∙ c.at-copy.ensures in
    let shown : Shows (buckets_of n (copies links)) (bucket_of n c.args.block) c.loop-place.place c.loop-place.limit =
    subst (λ (h : ℕ). Shows (buckets_of n (copies links)) h c.loop-place.place c.loop-place.limit) c.bucket_of-bucket.ensures.bucket c.loop-place.invariant.shown in
    rw (← c.self.view_is)
    (none-shown n c.args.block (copies links) c.loop-place.place c.loop-place.limit shown c.loop-place.invariant.behind
    (λ below there.
    let same : Some (bucket_of n c.at-copy.result.block) ≡ Some (bucket_of n c.args.block) = sym (bucket-at n (copies links) c.loop-place.place c.at-copy.result at_copy) ∙ there in
    c.if-bucket_of-bucket.true (let e : bucket_of n c.at-copy.result.block ≡ bucket_of n c.args.block = cc in c.bucket_of.ensures.bucket ∙ e ∙ sym c.bucket_of-bucket.ensures.bucket)))
