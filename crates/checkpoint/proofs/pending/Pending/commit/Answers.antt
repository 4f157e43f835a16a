use Rattle.std.proofs.Common.{◌≡◌, ◌<◌, ◌≤◌, ◌++◌, ℕ, List, map, length, sym, ap, subst, ◌∙◌, arith, length-append}
use Rattle.std.specs.List.{AllByRecursion}
use Rattle.std.specs.List.Sorted.{IsNonDecreasingBy, IsPermutation}
use Rattle.std.proofs.lemmas.List.{length-map}
use Rattle.std.proofs.lemmas.List.Sorted.{length_permutation}
use Rattle.journal_model.specs.declared.entry.Entry.{Entry}
use Rattle.checkpoint.specs.declared.copies.QueuedCopy.{QueuedCopy}
use Rattle.checkpoint.specs.declared.pending.Pending.TheInside.{Inside}
use Rattle.checkpoint.specs.Copies.{CopiesValue, newest_in}
use Rattle.checkpoint.specs.Pending.{PendingValue}
use Rattle.checkpoint.specs.PendingView.{KeepsPending, key_of}
use Rattle.checkpoint.specs.Steps.{fresh, places_of, withdrawn_all}
use Rattle.checkpoint.proofs.Committing.{Commits, apart-listed, committed, committed-front, committed-ordered, length-withdrawn_all, none-listed, sorted-blocks}
use Rattle.checkpoint.proofs.Kept.{kept-pending}
use Rattle.checkpoint.proofs.Listed.{length-places}
use Rattle.checkpoint.proofs.pending.Pending.commit.Goals as goal

-- the sorted list has the copies among the entries
listed-from : (entries : List (ℕ × Entry)) (ls ss ps : List (ℕ × ℕ)) → ls ≡ places_of 0 entries → IsPermutation ls ss → ps ≡ ss → IsPermutation (places_of 0 entries) ps
listed-from entries ls ss ps places moved same = subst (IsPermutation (places_of 0 entries)) (sym same) (subst (λ (xs : List (ℕ × ℕ)). IsPermutation xs ss) places moved)

-- there are no fewer copies than before
no-fewer : (bs : List ℕ) (cs ws ns : List QueuedCopy) (tid : ℕ) (ps : List (ℕ × ℕ)) → ws ≡ withdrawn_all bs cs → ns ≡ ws ++ map (fresh tid) ps → length cs ≤ length ns
no-fewer bs cs ws ns tid ps stay all =
    omega (arith, ap length stay, ap length all, length-append ws (map (fresh tid) ps), length-withdrawn_all bs cs)

-- there is room for them
pub push_listed-requires-clause-room : goal.push_listed-requires-clause-room
push_listed-requires-clause-room c =
    let blocks = map (λ e. e.0) c.args.entries.now in
    let stay = ap (λ (v : CopiesValue). length v.copies) c.withdraw_touched.ensures.withdrawn ∙ length-withdrawn_all blocks c.self.inside.copies.copies in
    let room = ap (λ (v : CopiesValue). v.room) c.withdraw_touched.ensures.withdrawn in
    let come = length_permutation (places_of 0 c.args.entries.now) c.deref.result.now (listed-from c.args.entries.now c.list_copies.new.list.items c.sort_unstable.new.self.items c.deref.result.now c.list_copies.ensures.places c.sort_unstable.ensures.permutation c.deref.ensures.value) ∙ length-places 0 c.args.entries.now in
    let queue = ap (λ (p : PendingValue). length p.queue) c.self.view_is in
    let whole = ap (λ (p : PendingValue). p.room) c.self.view_is in
    omega (arith, stay, room, come, queue, whole, c.requires.room, length-map c.self.inside.copies.copies key_of)

pub push_listed-requires-clause-distinct : goal.push_listed-requires-clause-distinct
push_listed-requires-clause-distinct c = apart-listed c.args.entries.now c.deref.result.now c.requires.distinct (listed-from c.args.entries.now c.list_copies.new.list.items c.sort_unstable.new.self.items c.deref.result.now c.list_copies.ensures.places c.sort_unstable.ensures.permutation c.deref.ensures.value)

-- none that stays is of one of their blocks
pub push_listed-requires-clause-single : goal.push_listed-requires-clause-single
push_listed-requires-clause-single c k p here =
    ap (λ (v : CopiesValue). newest_in v.copies p.0) c.withdraw_touched.ensures.withdrawn
    ∙ none-listed c.args.entries.now c.self.inside.copies.copies c.deref.result.now k p (listed-from c.args.entries.now c.list_copies.new.list.items c.sort_unstable.new.self.items c.deref.result.now c.list_copies.ensures.places c.sort_unstable.ensures.permutation c.deref.ensures.value) here

-- both places lie among the copies
pub skip_dead-self-inside-requires : goal.skip_dead-self-inside-requires
skip_dead-self-inside-requires c =
    let long = no-fewer (map (λ e. e.0) c.args.entries.now) c.self.inside.copies.copies c.withdraw_touched.new.copies.copies c.push_listed.new.copies.copies c.args.tid c.deref.result.now
    (ap (λ (v : CopiesValue). v.copies) c.withdraw_touched.ensures.withdrawn) (ap (λ (v : CopiesValue). v.copies) c.push_listed.ensures.pushed) in
    omega (arith, long, c.self.invariant.front.within)

pub skip_dead-self-inside-requires-2 : goal.skip_dead-self-inside-requires-2
skip_dead-self-inside-requires-2 c =
    let long = no-fewer (map (λ e. e.0) c.args.entries.now) c.self.inside.copies.copies c.withdraw_touched.new.copies.copies c.push_listed.new.copies.copies c.args.tid c.deref.result.now
    (ap (λ (v : CopiesValue). v.copies) c.withdraw_touched.ensures.withdrawn) (ap (λ (v : CopiesValue). v.copies) c.push_listed.ensures.pushed) in
    omega (arith, long, c.self.invariant.unwritten.within)

-- the fields after it
abbrev after : goal.After-self-2-1 → Inside
after c = record { copies = c.push_listed.new.copies; added = c.sort_unstable.new.self; front = c.skip_dead-self-inside.result; unwritten = c.skip_dead-self-inside-2.result }

-- what it does to the fields
steps : (c : goal.After-self-2-1) → Commits c.self.inside c.args.entries.now c.args.tid c.deref.result.now (after c)
steps c =
    record {
      kept = c.self.invariant;
      distinct = c.requires.distinct;
      later = subst (λ (p : PendingValue). AllByRecursion (λ k. k.0 < c.args.tid) p.queue) (sym c.self.view_is) c.requires.later;
      listed = listed-from c.args.entries.now c.list_copies.new.list.items c.sort_unstable.new.self.items c.deref.result.now c.list_copies.ensures.places c.sort_unstable.ensures.permutation c.deref.ensures.value;
      sorted = subst (λ (ps : List (ℕ × ℕ)). IsNonDecreasingBy (λ p. p.0) ps) (sym c.deref.ensures.value) (sorted-blocks c.sort_unstable.new.self.items c.sort_unstable.ensures.sorted);
      room = ap (λ (v : CopiesValue). v.room) c.push_listed.ensures.pushed ∙ ap (λ (v : CopiesValue). v.room) c.withdraw_touched.ensures.withdrawn;
      all = ap (λ (v : CopiesValue). v.copies) c.push_listed.ensures.pushed ∙ ap (λ (v : CopiesValue). v.copies ++ map (fresh c.args.tid) c.deref.result.now) c.withdraw_touched.ensures.withdrawn;
      front = c.skip_dead-self-inside.ensures.dead;
      unwritten = c.skip_dead-self-inside-2.ensures.dead;
      after = c.skip_dead-self-inside-2.ensures.after;
    }

-- the fields keep what they kept
keeps : (c : goal.After-self-2-1) → KeepsPending (after c)
keeps c =
    let made = steps c in
    record {
      copies = c.push_listed.ensures.kept;
      ordered = committed-ordered c.self.inside c.args.entries.now c.args.tid c.deref.result.now (after c) made;
      reserved = omega (arith, c.self.invariant.reserved, made.room, c.list_copies.ensures.capacity, c.sort_unstable.ensures.capacity);
      before_front = committed-front c.self.inside c.args.entries.now c.args.tid c.deref.result.now (after c) made;
      front = c.skip_dead-self-inside.ensures.live;
      unwritten = c.skip_dead-self-inside-2.ensures.live;
    }

pub invariant_of-self : goal.invariant_of-self
invariant_of-self c = keeps c

pub returns-clause-committed : goal.returns-clause-committed
returns-clause-committed c = rw (← c.self.view_is) (committed c.self.inside c.args.entries.now c.args.tid c.deref.result.now (after c) (steps c))

pub returns-clause-kept : goal.returns-clause-kept
returns-clause-kept c = kept-pending (after c) (keeps c)
