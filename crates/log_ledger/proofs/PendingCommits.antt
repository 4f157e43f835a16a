-- A commit adds its copies to the pending ones, and replaces older ones.
use Rattle.std.proofs.Common.{refl, sym, ◌∙◌, ap, subst, arith, inl, inr, length-append}
use Rattle.std.specs.Prelude.{◌≡◌, ℕ, ◌+◌, ◌<◌, ◌≤◌, nat_le, not, true, false, List, length, filter, Some, slice_get, Contains}
use Rattle.std.specs.List.{AllByRecursion}
use Rattle.std.proofs.lemmas.Bool.{cases_lt}
use Rattle.std.proofs.lemmas.Bool.Decides.{nat_tests}
use Rattle.std.proofs.lemmas.List.Elements.{Contains-append_cases, Contains-append_left, Contains-append_right, filter-append}
use Rattle.std.proofs.lemmas.List.{length-map}
use Rattle.std.proofs.lemmas.List.Sorted.{Contains-permutation, IsPermutation-sym, length_permutation}
use Rattle.std.proofs.lemmas.Option.{none-some, same_Some}
use Rattle.journal_model.specs.declared.entry.Batch.{Batch}
use Rattle.journal_model.specs.declared.entry.Entry.{Entry}
use Rattle.journal_model.specs.declared.entry.Entry.TheVariants.{Copy, Revoke}
use Rattle.journal_model.specs.Layout.{Layout, IsLayout, numbers_of, tags_of}
use Rattle.journal_model.specs.Transaction.{copied, revoked}
use Rattle.log_model.specs.OwnText.{ceil_div}
use Rattle.log_model.specs.Room.{need}
use Rattle.journal_model.proofs.ListElements.{contains-filter, contains-from_filter}
use Rattle.log_model.proofs.OwnTextWhole.{length_own_text}
use Rattle.checkpoint.specs.declared.version.Version.{Version}
use Rattle.checkpoint.specs.Pending.{ArePending, IsCommitted, PendingValue, is_touched, newest_of}
use Rattle.journal_world.specs.declared.round.Round.{Round}
use Rattle.journal_world.specs.declared.round.Round.TheVariants.{Idle as NoRound, Copies, TailWrite, TailFlush}
use Rattle.journal_world.specs.declared.stage.Stage.TheVariants.{CommitFlush, Idle}
use Rattle.journal_world.specs.Checkpoint.{IsPending}
use Rattle.journal_world.specs.Engine.{Engine, due_blocks, stepped_from}
use Rattle.journal_world.specs.Sound.{IsPlain, StageAgrees, position}
use Rattle.journal_world.proofs.Kept.{HasThose, pending-before}
use Rattle.journal_world.proofs.Positions.{position-more}
use Rattle.journal_world.proofs.Texts.{due-of}
use Rattle.log_ledger.specs.Ledger.{IsPlaced, IsStillUnwritten, KeepsPending}
use Rattle.log_ledger.proofs.PendingLists.{all-kept, blocks_of, contains-at, each-recursion, fewer-kept, key-number, key-there, keys_of, none-kept, place-of, touch-cases, untouched}
use Rattle.log_ledger.proofs.PendingSame.{still-over}

-- a transaction needs a block for each copy
need-copies : (l : Layout) (c r : ℕ) → c ≤ need l c r
need-copies l c r = more c (ceil_div c (tags_of l)) (ceil_div r (numbers_of l))
  where
    -- a sum is no less than its first part
    more : (c x y : ℕ) → c ≤ c + x + y + 1
    more c x y = omega arith

-- the transaction being committed has no more copies than log blocks
copies-fit : (e : Engine) (b : Batch) → IsPlain e → slice_get e.accepted e.committed ≡ Some b → length (copied b.entries) ≤ length (due_blocks e)
copies-fit e b plain due =
    let layout : IsLayout e.layout = plain.layout.0 in
    let size : length (due_blocks e) ≡ need e.layout (length (copied b.entries)) (length (revoked b.entries)) =
    ap length (due-of e b due) ∙ length_own_text e.layout e.uuid b.tid b.entries layout in
    subst (λ (n : ℕ). length (copied b.entries) ≤ n) (sym size) (need-copies e.layout (length (copied b.entries)) (length (revoked b.entries)))

-- the entries of the transaction being committed may be committed
pub may-commit : (e : Engine) (p : PendingValue) (b : Batch) → IsPlain e → e.stage ≡ CommitFlush → slice_get e.accepted e.committed ≡ Some b →
    KeepsPending e p → AllByRecursion (λ k. k.0 < e.first + e.committed) p.queue × (length p.queue + length (copied b.entries) ≤ p.room)
may-commit e p b plain stage due keeps =
    let low : e.released ≤ e.bound = plain.order.0 in
    let high : e.bound ≤ e.committed = plain.order.1 in
    let used : length (filter (λ x. nat_le (e.first + e.released) x.0) p.queue) + position e e.released ≤ e.start =
    keeps.used e.released (omega arith) (omega arith) in
    let whole : length (filter (λ x. nat_le (e.first + e.released) x.0) p.queue) ≡ length p.queue =
    all-kept (λ x. nat_le (e.first + e.released) x.0) p.queue (λ x has. at-least (e.first + e.released) x.0 (keeps.numbers x.0 x.1 has).0) in
    let tail : e.tail ≡ position e e.released = plain.tail in
    let room : e.start + length (due_blocks e) ≤ e.tail + e.ring.blocks = plain.room in
    let size : p.room ≡ e.ring.blocks = keeps.room in
    let fit : length (copied b.entries) ≤ length (due_blocks e) = copies-fit e b plain due in
    (each-recursion (λ k. k.0 < e.first + e.committed) p.queue (λ k has. (keeps.numbers k.0 k.1 has).1), omega arith)
  where
    -- the test of numbers passes those that are no less
    at-least : (m n : ℕ) → m ≤ n → nat_le m n ≡ true
    at-least m n fits = grind (arith, nat_tests)

module _ (e : Engine) (b : Batch) (plain : IsPlain e) (due : slice_get e.accepted e.committed ≡ Some b) where
  -- a pending copy of an untouched block stays pending
  pending-still : (i c : ℕ) (v : List ℕ) → (Contains (blocks_of b.entries) c → ⊥) → IsPending e i c v → IsPending (stepped_from e CommitFlush) i c v
  pending-still i c v none pending = record {
    newest = record {
      copy = record {
        batch = pending.newest.copy.batch;
        committed = let below : i < e.committed = pending.newest.copy.committed in omega arith;
        stands = pending.newest.copy.stands;
        copy = pending.newest.copy.copy;
      };
      last =
          λ j later behind below stands has.
          elim (cases_lt j e.committed) [
            | inl before ↦ pending.newest.last j later behind before stands has
            | inr above ↦
                let last : j ≡ e.committed = omega arith in
                let same : later ≡ b = same_Some later b (sym stands ∙ ap (slice_get e.accepted) last ∙ due) in
                none (subst (λ (x : Batch). Contains (blocks_of x.entries) c) same has)
          ];
    };
    unreleased = pending.unreleased;
  }

  -- what is pending then was pending before, unless the transaction copies it
  pending-since : (i c : ℕ) (v : List ℕ) → i < e.committed → IsPending (stepped_from e CommitFlush) i c v → IsPending e i c v
  pending-since i c v below pending =
      let those : HasThose e e.accepted (e.committed + 1) = record { same = λ j high. refl; more = omega arith } in
      pending-before e e.accepted (e.committed + 1) (e.start + length (due_blocks e)) Idle e.aborted those i c v below pending

  -- its block is untouched
  not-touched : (i c : ℕ) (v : List ℕ) → i < e.committed → IsPending (stepped_from e CommitFlush) i c v → Contains (blocks_of b.entries) c → ⊥
  not-touched i c v below pending has = pending.newest.last e.committed b below (omega arith) due has

  -- a copy of the transaction is pending
  pending-new : (k c : ℕ) (v : List ℕ) → slice_get b.entries k ≡ Some (c, Copy v) → IsPending (stepped_from e CommitFlush) e.committed c v
  pending-new k c v stands = record {
    newest = record {
      copy = record { batch = b; committed = omega arith; stands = due; copy = contains-at b.entries k (c, Copy v) stands };
      last = λ j later behind below there has. absurd (omega arith);
    };
    unreleased =
        let low : e.released ≤ e.bound = plain.order.0 in
        let high : e.bound ≤ e.committed = plain.order.1 in
        omega arith;
  }

  -- a pending copy of no older transaction is one of its copies
  new-copy : (i c : ℕ) (v : List ℕ) → e.committed ≤ i → IsPending (stepped_from e CommitFlush) i c v →
      (i ≡ e.committed) × (k : ℕ) × (slice_get b.entries k ≡ Some (c, Copy v))
  new-copy i c v above pending =
      let below : i < e.committed + 1 = pending.newest.copy.committed in
      let last : e.committed ≡ i = omega arith in
      let same : pending.newest.copy.batch ≡ b =
      same_Some pending.newest.copy.batch b (sym pending.newest.copy.stands ∙ ap (slice_get e.accepted) (sym last) ∙ due) in
      let found = place-of b.entries (c, Copy v) (subst (λ (x : Batch). Contains x.entries (c, Copy v)) same pending.newest.copy.copy) in
      (sym last, found.0, found.1)

  -- a copy that stays pending stands where it stood
  placed-still : (i c k : ℕ) → (Contains (blocks_of b.entries) c → ⊥) → IsPlaced e i c k → IsPlaced (stepped_from e CommitFlush) i c k
  placed-still i c k none placed = record {
    bytes = placed.bytes;
    pending = pending-still i c placed.bytes none placed.pending;
    batch = placed.batch;
    stands = placed.stands;
    entry = placed.entry;
  }

  module _ (p q : PendingValue) (keeps : KeepsPending e p) (commits : IsCommitted p b.entries (e.first + e.committed) q) where
    -- the copy of a touched block is the transaction's own
    own-known : (k c : ℕ) (x : Entry) (v : Version) → slice_get b.entries k ≡ Some (c, x) → newest_of q c ≡ Some v →
        (i : ℕ) × (v.tid ≡ e.first + i) × IsPlaced (stepped_from e CommitFlush) i c v.place
    own-known k c (Copy w) v stands here =
        let own : Version = record { tid = e.first + e.committed; place = k } in
        let same : own ≡ v = same_Some own v (sym (commits.copies k c w stands) ∙ here) in
        subst (λ (u : Version). (i : ℕ) × (u.tid ≡ e.first + i) × IsPlaced (stepped_from e CommitFlush) i c u.place) same
        (e.committed, refl, record { bytes = w; pending = pending-new k c w stands; batch = b; stands = due; entry = stands })
    own-known k c Revoke v stands here = absurd (none-some v (sym (commits.revokes k c stands) ∙ here))

    -- the others are known as before
    each-known : (c : ℕ) (v : Version) → newest_of q c ≡ Some v → (i : ℕ) × (v.tid ≡ e.first + i) × IsPlaced (stepped_from e CommitFlush) i c v.place
    each-known c v here =
        elim (touch-cases b.entries c) [
          | inl own ↦ own-known own.0 c own.1 v own.2 here
          | inr none ↦
              let found = keeps.placed c v (sym (commits.others c (untouched b.entries c none)) ∙ here) in
              (found.0, found.1, placed-still found.0 c v.place none found.2)
        ]

    -- each pending copy is kept
    all-known : (i c : ℕ) (v : List ℕ) → IsPending (stepped_from e CommitFlush) i c v → (u : Version) × (newest_of q c ≡ Some u) × (u.tid ≡ e.first + i)
    all-known i c v pending =
        elim (cases_lt i e.committed) [
          | inl below ↦
              let found = keeps.all i c v (pending-since i c v below pending) in
              (found.0, commits.others c (untouched b.entries c (not-touched i c v below pending)) ∙ found.1, found.2)
          | inr above ↦
              let own = new-copy i c v above pending in
              (record { tid = e.first + e.committed; place = own.1 }, commits.copies own.1 c v own.2, ap (λ (n : ℕ). e.first + n) (sym own.0))
        ]

    -- an added key has the transaction's number
    added-number : (t c : ℕ) → Contains commits.added (t, c) → t ≡ e.first + e.committed
    added-number t c has =
        let keys = keys_of (e.first + e.committed) (copied b.entries) in
        key-number (e.first + e.committed) t c (copied b.entries)
        (Contains-permutation commits.added keys (t, c) (IsPermutation-sym keys commits.added commits.keys) has)

    -- each copy's key is added
    added-all : (k c : ℕ) (v : List ℕ) → slice_get b.entries k ≡ Some (c, Copy v) → Contains commits.added (e.first + e.committed, c)
    added-all k c v stands =
        Contains-permutation (keys_of (e.first + e.committed) (copied b.entries)) commits.added (e.first + e.committed, c) commits.keys
        (key-there (e.first + e.committed) c k v b.entries stands)

    -- as many keys are added as there are copies
    added-count : length commits.added ≡ length (copied b.entries)
    added-count =
        length_permutation (keys_of (e.first + e.committed) (copied b.entries)) commits.added commits.keys
        ∙ length-map (copied b.entries) (λ (c : ℕ × List ℕ). let k : ℕ × ℕ = (e.first + e.committed, c.0) in k)

    -- an unwritten copy is still to be written
    still-only : (i c : ℕ) → Contains q.unwritten (e.first + i, c) → IsStillUnwritten e e.round i c
    still-only i c has =
        elim (Contains-append_cases (filter (λ x. not (is_touched b.entries x.1)) p.unwritten) commits.added (e.first + i, c)
        (subst (λ xs. Contains xs (e.first + i, c)) commits.unwritten has)) [
          | inl old ↦ keeps.unwritten_only i c (contains-from_filter (λ x. not (is_touched b.entries x.1)) p.unwritten (e.first + i, c) old)
          | inr own ↦
              let number : e.first + i ≡ e.first + e.committed = added-number (e.first + i) c own in
              let high : e.bound ≤ e.committed = plain.order.1 in
              still-later e.round i c (omega arith)
        ]
      where
        -- a copy that no round has reached is still to be written
        still-later : (round : Round) (i c : ℕ) → e.bound ≤ i → IsStillUnwritten e round i c
        still-later NoRound i c above = tt
        still-later (Copies transaction block) i c above = inl above
        still-later TailWrite i c above = above
        still-later TailFlush i c above = above

    -- each copy still to be written is unwritten
    still-all : (i c : ℕ) (v : List ℕ) → IsPending (stepped_from e CommitFlush) i c v → IsStillUnwritten e e.round i c →
        Contains q.unwritten (e.first + i, c)
    still-all i c v pending still =
        subst (λ xs. Contains xs (e.first + i, c)) (sym commits.unwritten)
        (elim (cases_lt i e.committed) [
          | inl below ↦
              Contains-append_left (filter (λ x. not (is_touched b.entries x.1)) p.unwritten) commits.added (e.first + i, c)
              (contains-filter (λ x. not (is_touched b.entries x.1)) p.unwritten (e.first + i, c)
              (keeps.unwritten_all i c v (pending-since i c v below pending) still)
              (ap not (untouched b.entries c (not-touched i c v below pending))))
          | inr above ↦
              let own = new-copy i c v above pending in
              Contains-append_right (filter (λ x. not (is_touched b.entries x.1)) p.unwritten) commits.added (e.first + i, c)
              (subst (λ (n : ℕ). Contains commits.added (e.first + n, c)) (sym own.0) (added-all own.1 c v own.2))
        ])

    -- the numbers of the queued copies
    queued-numbers : (t c : ℕ) → Contains q.queue (t, c) → (e.first + e.released ≤ t) × (t < e.first + (e.committed + 1))
    queued-numbers t c has =
        elim (Contains-append_cases p.queue commits.added (t, c) (subst (λ xs. Contains xs (t, c)) commits.queue has)) [
          | inl old ↦
              let low : e.first + e.released ≤ t = (keeps.numbers t c old).0 in
              let high : t < e.first + e.committed = (keeps.numbers t c old).1 in
              (low, omega arith)
          | inr own ↦
              let number : t ≡ e.first + e.committed = added-number t c own in
              let low : e.released ≤ e.bound = plain.order.0 in
              let high : e.bound ≤ e.committed = plain.order.1 in
              (omega arith, omega arith)
        ]

    -- how many copies are queued from a transaction on
    queued-more : (i : ℕ) → length (filter (λ x. nat_le (e.first + i) x.0) q.queue)
        ≡ length (filter (λ x. nat_le (e.first + i) x.0) p.queue) + length (filter (λ x. nat_le (e.first + i) x.0) commits.added)
    queued-more i =
        ap (λ xs. length (filter (λ x. nat_le (e.first + i) x.0) xs)) commits.queue
        ∙ ap length (filter-append (λ x. nat_le (e.first + i) x.0) p.queue commits.added)
        ∙ length-append (filter (λ x. nat_le (e.first + i) x.0) p.queue) (filter (λ x. nat_le (e.first + i) x.0) commits.added)

    -- they take no more than the log blocks from there on
    queued-used : length e.accepted ≡ e.committed + 1 → (i : ℕ) → e.released ≤ i → i ≤ e.committed + 1 →
        length (filter (λ x. nat_le (e.first + i) x.0) q.queue) + position e i ≤ e.start + length (due_blocks e)
    queued-used one i low high =
        let more : length (filter (λ x. nat_le (e.first + i) x.0) q.queue)
        ≡ length (filter (λ x. nat_le (e.first + i) x.0) p.queue) + length (filter (λ x. nat_le (e.first + i) x.0) commits.added) =
        queued-more i in
        elim (cases_lt i (e.committed + 1)) [
          | inl below ↦
              let used : length (filter (λ x. nat_le (e.first + i) x.0) p.queue) + position e i ≤ e.start = keeps.used i low (omega arith) in
              let few : length (filter (λ x. nat_le (e.first + i) x.0) commits.added) ≤ length commits.added =
              fewer-kept (λ x. nat_le (e.first + i) x.0) commits.added in
              let count : length commits.added ≡ length (copied b.entries) = added-count in
              let fit : length (copied b.entries) ≤ length (due_blocks e) = copies-fit e b plain due in
              omega arith
          | inr above ↦
              let last : e.committed + 1 ≡ i = omega arith in
              let all : length (filter (λ x. nat_le (e.first + i) x.0) q.queue) ≡ 0 =
              none-kept (λ x. nat_le (e.first + i) x.0) q.queue
              (λ x has. below-it (e.first + i) x.0 (let n = (queued-numbers x.0 x.1 has).1 in omega arith)) in
              let end : position e (e.committed + 1) ≡ e.start + length (due_blocks e) = position-more e plain.start (omega arith) in
              let same : position e (e.committed + 1) ≡ position e i = ap (position e) last in
              omega arith
        ]
      where
        -- the test of numbers does not pass one below
        below-it : (m n : ℕ) → n < m → nat_le m n ≡ false
        below-it m n less = grind (arith, nat_tests)

-- at a commit's last step one more is accepted than is committed
flush-one : (e : Engine) → IsPlain e → e.stage ≡ CommitFlush → length e.accepted ≡ e.committed + 1
flush-one e plain stage = (subst (StageAgrees e) stage plain.stage).0

-- the last step of a commit keeps the pending copies
pub done-keeps : (e : Engine) (p q : PendingValue) (b : Batch) → IsPlain e → e.stage ≡ CommitFlush → slice_get e.accepted e.committed ≡ Some b →
    KeepsPending e p → IsCommitted p b.entries (e.first + e.committed) q → ArePending q → KeepsPending (stepped_from e CommitFlush) q
done-keeps e p q b plain stage due keeps commits kept = record {
  kept = kept;
  room = commits.room ∙ keeps.room;
  placed = each-known e b plain due p q keeps commits;
  all = all-known e b plain due p q keeps commits;
  unwritten_only = λ i c has. still-over e (stepped_from e CommitFlush) e.round i c refl (still-only e b plain due p q keeps commits i c has);
  unwritten_all =
      λ i c v pending still.
      still-all e b plain due p q keeps commits i c v pending (still-over (stepped_from e CommitFlush) e e.round i c refl still);
  numbers = queued-numbers e b plain due p q keeps commits;
  used = queued-used e b plain due p q keeps commits (flush-one e plain stage);
}
