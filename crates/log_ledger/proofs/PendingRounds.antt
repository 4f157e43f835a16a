-- A checkpoint round writes the pending copies home in order, and releases them.
use Rattle.std.proofs.Common.{refl, sym, ◌∙◌, ap, subst, arith, inl, inr}
use Rattle.std.specs.Prelude.{◌≡◌, ◌⊎◌, ℕ, ◌+◌, ◌-◌, ◌<◌, ◌≤◌, nat_le, nat_lt, true, List, ◌∷◌, length, drop, filter}
use Rattle.std.specs.Prelude.{Option, Some, None, slice_get, Contains}
use Rattle.std.proofs.lemmas.Bool.{cases_lt}
use Rattle.std.proofs.lemmas.Bool.Decides.{nat_tests}
use Rattle.std.proofs.lemmas.Option.{cond_some, none-some}
use Rattle.journal_model.specs.declared.entry.Batch.{Batch}
use Rattle.journal_model.proofs.ListElements.{contains-cases, contains-filter, contains-from_filter, contains-none, option-known}
use Rattle.checkpoint.specs.declared.version.HomeCopy.{HomeCopy}
use Rattle.checkpoint.specs.declared.version.Version.{Version}
use Rattle.checkpoint.specs.Pending.{ArePending, Before, IsOrdered, IsReleased, PendingValue, newest_of, unreleased}
use Rattle.journal_world.specs.declared.round.Round.{Round}
use Rattle.journal_world.specs.declared.round.Round.TheVariants.{Idle as NoRound, Copies, TailWrite, TailFlush}
use Rattle.journal_world.specs.Checkpoint.{IsFrom, IsNextCopy, IsPending, IsUnwritten}
use Rattle.journal_world.specs.Engine.{Engine}
use Rattle.journal_world.specs.Sound.{IsPlain, RoundAgrees, position}
use Rattle.journal_world.proofs.Pending.{newest-of, pending-of}
use Rattle.log_ledger.specs.Ledger.{IsPlaced, IsStillUnwritten, KeepsPending}
use Rattle.log_ledger.proofs.PendingLists.{begins-first, empty-first, fewer-twice, first-before, kept-passes}

-- one copy comes before another of the same numbers, counted from the opening
from-before : (first i b j c : ℕ) → Before (first + i, b) (first + j, c) → (i < j) ⊎ ((i ≡ j) × (b < c))
from-before first i b j c (inl less) = inl (omega arith)
from-before first i b j c (inr same) = let number = same.0 in inr (omega arith, same.1)

-- then the later one is after the other
from-later : (i b j c : ℕ) → (i < j) ⊎ ((i ≡ j) × (b < c)) → IsFrom i (b + 1) j c
from-later i b j c (inl less) = inl less
from-later i b j c (inr same) = let less = same.1 in inr (same.0, omega arith)

-- what is after a copy is from it on
from-here : (i b j c : ℕ) → IsFrom i (b + 1) j c → IsFrom i b j c
from-here i b j c (inl less) = inl less
from-here i b j c (inr same) = let least = same.1 in inr (same.0, omega arith)

-- each copy is from itself on
from-itself : (i b j c : ℕ) → i ≡ j → b ≡ c → IsFrom i b j c
from-itself i b j c number block = inr (number, omega arith)

-- no copy is after itself
not-behind : (i b j c : ℕ) → i ≡ j → b ≡ c → IsFrom i (b + 1) j c → ⊥
not-behind i b j c number block (inl less) = omega arith
not-behind i b j c number block (inr same) = let least = same.1 in omega arith

-- the order of copies is transitive
from-over : (i b j c k d : ℕ) → IsFrom i b j c → IsFrom j c k d → IsFrom i b k d
from-over i b j c k d (inl less) (inl next) = inl (omega arith)
from-over i b j c k d (inl less) (inr next) = let same = next.0 in inl (omega arith)
from-over i b j c k d (inr same) (inl next) = let number = same.0 in inl (omega arith)
from-over i b j c k d (inr same) (inr next) =
    let number = same.0 in let other = next.0 in let least = same.1 in let more = next.1 in inr (omega arith, omega arith)

-- equal copies have one number and one block
same-copy : (first i b : ℕ) (x : ℕ × ℕ) → x ≡ (first + i, b) → (x.0 ≡ first + i) × (x.1 ≡ b)
same-copy first i b x same = (ap (λ (y : ℕ × ℕ). y.0) same, ap (λ (y : ℕ × ℕ). y.1) same)

module _ (e : Engine) (transaction block : ℕ) (round : e.round ≡ Copies transaction block) where
  -- an unwritten copy is still to be written, by this round or a later one
  still-in : (p : PendingValue) → KeepsPending e p → (i b : ℕ) → Contains p.unwritten (e.first + i, b) →
      (e.bound ≤ i) ⊎ IsFrom transaction block i b
  still-in p keeps i b has = subst (λ (r : Round). IsStillUnwritten e r i b) round (keeps.unwritten_only i b has)

  -- each of these is unwritten
  not-written : (p : PendingValue) → KeepsPending e p → (i b : ℕ) (v : List ℕ) → IsPending e i b v → (e.bound ≤ i) ⊎ IsFrom transaction block i b →
      Contains p.unwritten (e.first + i, b)
  not-written p keeps i b v pending still =
      keeps.unwritten_all i b v pending (subst (λ (r : Round). IsStillUnwritten e r i b) (sym round) still)

  -- the round releases some transaction
  bound-some : IsPlain e → e.released < e.bound
  bound-some plain = subst (RoundAgrees e) round plain.round

-- the first unwritten copy is the round's next one
pub next-copy : (e : Engine) (p : PendingValue) (transaction block : ℕ) (copy : HomeCopy) → IsPlain e →
    e.round ≡ Copies transaction block → KeepsPending e p → slice_get p.unwritten 0 ≡ Some (copy.version.tid, copy.block) →
    copy.version.tid ≤ e.first + e.bound - 1 → newest_of p copy.block ≡ Some copy.version →
    (i : ℕ) × (v : List ℕ) × (copy.version.tid ≡ e.first + i) × IsNextCopy e transaction block i copy.block v
next-copy e p transaction block copy plain round keeps stands low here =
    let found = keeps.placed copy.block copy.version here in
    let i : ℕ = found.0 in
    let number : copy.version.tid ≡ e.first + i = found.1 in
    let some : e.released < e.bound = bound-some e transaction block round plain in
    let due : i < e.bound = omega arith in
    let rest : List (ℕ × ℕ) = drop 1 p.unwritten in
    let first : p.unwritten ≡ (e.first + i, copy.block) ∷ rest =
    begins-first p.unwritten (copy.version.tid, copy.block) stands ∙ ap (λ (n : ℕ). (n, copy.block) ∷ rest) number in (
      i,
      found.2.bytes,
      number,
      record {
        unwritten = record {
          pending = found.2.pending;
          due = due;
          from = from-due i due
              (still-in e transaction block round p keeps i copy.block
              (subst (λ xs. Contains xs (e.first + i, copy.block)) (sym first) (contains-here (e.first + i, copy.block) rest)));
        };
        first =
            λ j c w waits.
            each i j c first
            (subst (λ xs. Contains xs (e.first + j, c)) first (not-written e transaction block round p keeps j c w waits.pending (inr waits.from)));
      },
    )
  where
    -- the first is an element
    contains-here : (x : ℕ × ℕ) (xs : List (ℕ × ℕ)) → Contains (x ∷ xs) x
    contains-here x xs = (0, omega arith, refl)

    -- a copy of the round's transactions is of no later round
    from-due : (i : ℕ) → i < e.bound → (e.bound ≤ i) ⊎ IsFrom transaction block i copy.block → IsFrom transaction block i copy.block
    from-due i due (inl above) = absurd (omega arith)
    from-due i due (inr from) = from

    -- each unwritten copy is the first, or after it
    each : (i j c : ℕ) → p.unwritten ≡ (e.first + i, copy.block) ∷ drop 1 p.unwritten → Contains ((e.first + i, copy.block) ∷ drop 1 p.unwritten) (e.first + j, c) →
        IsFrom i copy.block j c
    each i j c first has =
        elim (contains-cases (e.first + i, copy.block) (drop 1 p.unwritten) (e.first + j, c) has) [
          | inl same ↦
              let both = same-copy e.first j c (e.first + i, copy.block) same in
              let number = both.0 in
              from-itself i copy.block j c (omega arith) both.1
          | inr behind ↦
              from-here i copy.block j c
              (from-later i copy.block j c
              (from-before e.first i copy.block j c
              (first-before (e.first + i, copy.block) (e.first + j, c) (drop 1 p.unwritten) (subst IsOrdered first keeps.kept.ordered_unwritten) behind)))
        ]

-- no unwritten copy is below the first
none-below : (bound : ℕ) (p : PendingValue) (t b : ℕ) → ArePending p → ((s c : ℕ) → slice_get p.unwritten 0 ≡ Some (s, c) → bound < s) →
    Contains p.unwritten (t, b) → bound < t
none-below bound p t b kept none has =
    elim (option-known (slice_get p.unwritten 0)) [
      | inl absent ↦ absurd (contains-none (t, b) (subst (λ xs. Contains xs (t, b)) (empty-first p.unwritten absent) has))
      | inr (x, stands) ↦
          let list : p.unwritten ≡ x ∷ drop 1 p.unwritten = begins-first p.unwritten x stands in
          let above : bound < x.0 = none x.0 x.1 stands in
          elim (contains-cases x (drop 1 p.unwritten) (t, b) (subst (λ xs. Contains xs (t, b)) list has)) [
            | inl same ↦ let number : x.0 ≡ t = ap (λ (y : ℕ × ℕ). y.0) same in omega arith
            | inr behind ↦ above-first x (first-before x (t, b) (drop 1 p.unwritten) (subst IsOrdered list kept.ordered_unwritten) behind) above
          ]
    ]
  where
    above-first : (x : ℕ × ℕ) → Before x (t, b) → bound < x.0 → bound < t
    above-first x (inl less) above = omega arith
    above-first x (inr same) above = let number = same.0 in omega arith

-- if there is no first, no copy is left
pub none-left : (e : Engine) (p : PendingValue) (transaction block : ℕ) → IsPlain e → e.round ≡ Copies transaction block → KeepsPending e p →
    ((t b : ℕ) → slice_get p.unwritten 0 ≡ Some (t, b) → e.first + e.bound - 1 < t) → (i b : ℕ) (v : List ℕ) → IsUnwritten e transaction block i b v → ⊥
none-left e p transaction block plain round keeps next i b v waits =
    let has : Contains p.unwritten (e.first + i, b) = not-written e transaction block round p keeps i b v waits.pending (inr waits.from) in
    let above : e.first + e.bound - 1 < e.first + i = none-below (e.first + e.bound - 1) p (e.first + i) b keeps.kept next has in
    let due : i < e.bound = waits.due in
    omega arith

-- an engine with as many committed and released has the same pending copies
placed-of : (e f : Engine) (i b k : ℕ) → f.accepted ≡ e.accepted → f.committed ≡ e.committed → f.released ≡ e.released →
    IsPlaced e i b k → IsPlaced f i b k
placed-of e f i b k accepted committed released placed = record {
  bytes = placed.bytes;
  pending = pending-of e f i b placed.bytes accepted committed released placed.pending;
  batch = placed.batch;
  stands = ap (λ (bs : List Batch). slice_get bs i) accepted ∙ placed.stands;
  entry = placed.entry;
}

-- a copy written home is not written again
pub wrote-keeps : (e : Engine) (p q : PendingValue) (transaction block i b : ℕ) (v : List ℕ) → IsPlain e →
    e.round ≡ Copies transaction block → KeepsPending e p → IsNextCopy e transaction block i b v →
    slice_get p.unwritten 0 ≡ Some (e.first + i, b) → q ≡ record p { unwritten = drop 1 p.unwritten } → ArePending q → KeepsPending (record e { round = Copies i (b + 1) }) q
wrote-keeps e p q transaction block i b v plain round keeps next stands wrote kept = record {
  kept = kept;
  room = ap (λ (x : PendingValue). x.room) wrote ∙ keeps.room;
  placed =
      λ c u here.
      let found = keeps.placed c u (sym (newest-is c) ∙ here) in
      (found.0, found.1, placed-of e (record e { round = Copies i (b + 1) }) found.0 c u.place refl refl refl found.2);
  all =
      λ j c w pending.
      let found = keeps.all j c w (pending-of (record e { round = Copies i (b + 1) }) e j c w refl refl refl pending) in
      (found.0, newest-is c ∙ found.1, found.2);
  unwritten_only = λ j c has. inr (behind-it j c (subst (λ xs. Contains xs (e.first + j, c)) left has));
  unwritten_all =
      λ j c w pending still.
      let was : Contains p.unwritten (e.first + j, c) =
      not-written e transaction block round p keeps j c w (pending-of (record e { round = Copies i (b + 1) }) e j c w refl refl refl pending)
      (still-before j c still) in
      elim (contains-cases (e.first + i, b) rest (e.first + j, c) (subst (λ xs. Contains xs (e.first + j, c)) list was)) [
        | inl same ↦
            let both = same-copy e.first j c (e.first + i, b) same in
            let number = both.0 in
            absurd (not-first j c (omega arith) both.1 still)
        | inr behind ↦ subst (λ xs. Contains xs (e.first + j, c)) (sym left) behind
      ];
  numbers = λ t c has. keeps.numbers t c (subst (λ xs. Contains xs (t, c)) queue-is has);
  used =
      λ j low high.
      subst (λ xs. length (filter (λ x. nat_le (e.first + j) x.0) xs) + position e j ≤ e.start) (sym queue-is) (keeps.used j low high);
}
  where
    -- all but the first are left
    rest : List (ℕ × ℕ)
    rest = drop 1 p.unwritten

    list : p.unwritten ≡ (e.first + i, b) ∷ rest
    list = begins-first p.unwritten (e.first + i, b) stands

    left : q.unwritten ≡ rest
    left = ap (λ (x : PendingValue). x.unwritten) wrote

    -- the newest copies are the same
    newest-is : (c : ℕ) → newest_of q c ≡ newest_of p c
    newest-is c = ap (λ (x : PendingValue). newest_of x c) wrote

    -- and those that are queued
    queue-is : q.queue ≡ p.queue
    queue-is = ap (λ (x : PendingValue). x.queue) wrote

    -- the rest is after the copy
    behind-it : (j c : ℕ) → Contains rest (e.first + j, c) → IsFrom i (b + 1) j c
    behind-it j c has =
        from-later i b j c
        (from-before e.first i b j c (first-before (e.first + i, b) (e.first + j, c) rest (subst IsOrdered list keeps.kept.ordered_unwritten) has))

    -- what is after the copy was from where the round was
    still-before : (j c : ℕ) → (e.bound ≤ j) ⊎ IsFrom i (b + 1) j c → (e.bound ≤ j) ⊎ IsFrom transaction block j c
    still-before j c (inl above) = inl above
    still-before j c (inr from) = inr (from-over transaction block i b j c next.unwritten.from (from-here i b j c from))

    -- it is not the copy itself
    not-first : (j c : ℕ) → i ≡ j → b ≡ c → (e.bound ≤ j) ⊎ IsFrom i (b + 1) j c → ⊥
    not-first j c number same (inl above) = let due : i < e.bound = next.unwritten.due in omega arith
    not-first j c number same (inr from) = not-behind i b j c number same from

-- after the flush of home the round has no copy left to write
pub flushed-keeps : (e : Engine) (p : PendingValue) (transaction block : ℕ) → IsPlain e → e.round ≡ Copies transaction block → KeepsPending e p →
    ((i b : ℕ) (v : List ℕ) → IsUnwritten e transaction block i b v → ⊥) → KeepsPending (record e { round = TailWrite }) p
flushed-keeps e p transaction block plain round keeps none = record {
  kept = keeps.kept;
  room = keeps.room;
  placed =
      λ c u here.
      let found = keeps.placed c u here in
      (found.0, found.1, placed-of e (record e { round = TailWrite }) found.0 c u.place refl refl refl found.2);
  all = λ j c w pending. keeps.all j c w (pending-of (record e { round = TailWrite }) e j c w refl refl refl pending);
  unwritten_only =
      λ i b has.
      elim (still-in e transaction block round p keeps i b has) [
        | inl above ↦ above
        | inr from ↦
            elim (cases_lt i e.bound) [
              | inl due ↦
                  let found = waiting-pending i b has in
                  absurd (none i b found.0 (record { pending = found.1; due = due; from = from }))
              | inr above ↦ above
            ]
      ];
  unwritten_all =
      λ i b v pending above.
      not-written e transaction block round p keeps i b v (pending-of (record e { round = TailWrite }) e i b v refl refl refl pending) (inl above);
  numbers = keeps.numbers;
  used = keeps.used;
}
  where
    -- an unwritten copy is pending
    waiting-pending : (i b : ℕ) → Contains p.unwritten (e.first + i, b) → (v : List ℕ) × IsPending e i b v
    waiting-pending i b has =
        let here = keeps.kept.pending (e.first + i) b has in
        let found = keeps.placed b here.0 here.1 in
        let tid : here.0.tid ≡ e.first + i = here.2 in
        let number : here.0.tid ≡ e.first + found.0 = found.1 in
        let same : found.0 ≡ i = omega arith in
        (found.2.bytes, subst (λ (j : ℕ). IsPending e j b found.2.bytes) same found.2.pending)

-- an unreleased newest copy was the newest before, and is after the bound
unreleased-some : (bound : ℕ) (o : Option Version) (v : Version) → unreleased bound o ≡ Some v → (o ≡ Some v) × (bound < v.tid)
unreleased-some bound None v same = absurd (none-some v same)
unreleased-some bound (Some u) v same =
    let parts = cond_some (nat_lt bound u.tid) u v same in
    let test : nat_lt bound u.tid ≡ true = parts.0 in
    let number : u.tid ≡ v.tid = ap (λ (w : Version). w.tid) parts.1 in
    let above : bound < u.tid = grind (arith, nat_tests) in
    (ap Some parts.1, omega arith)

-- a copy of such a transaction stays
unreleased-above : (bound : ℕ) (v : Version) → bound < v.tid → unreleased bound (Some v) ≡ Some v
unreleased-above bound v above = let test : nat_lt bound v.tid ≡ true = grind (arith, nat_tests) in rw test refl

-- the engine at the end of its round
abbrev released_by : Engine → Engine
released_by e = record e { released = e.bound; tail = e.bound_position; round = NoRound }

-- what is pending then was pending before
pending-unreleased : (e : Engine) (i b : ℕ) (v : List ℕ) → IsPlain e → IsPending (released_by e) i b v → IsPending e i b v
pending-unreleased e i b v plain pending = record {
  newest = newest-of (released_by e) e i b v refl refl pending.newest;
  unreleased =
      let low : e.released ≤ e.bound = plain.order.0 in
      let least : e.bound ≤ i = pending.unreleased in
      omega arith;
}

-- a pending copy of no released transaction stays, at its place
placed-unreleased : (e : Engine) (i b k : ℕ) → e.bound ≤ i → IsPlaced e i b k → IsPlaced (released_by e) i b k
placed-unreleased e i b k above placed = record {
  bytes = placed.bytes;
  pending = record { newest = newest-of e (released_by e) i b placed.bytes refl refl placed.pending.newest; unreleased = above };
  batch = placed.batch;
  stands = placed.stands;
  entry = placed.entry;
}

-- copies of released transactions are no longer pending
pub released-keeps : (e : Engine) (p q : PendingValue) → IsPlain e → e.round ≡ TailFlush → KeepsPending e p →
    IsReleased p (e.first + e.bound - 1) q → ArePending q →
    KeepsPending (record e { released = e.bound; tail = e.bound_position; round = NoRound }) q
released-keeps e p q plain round keeps releases kept = record {
  kept = kept;
  room = releases.room ∙ keeps.room;
  placed =
      λ b v here.
      let was = unreleased-some (e.first + e.bound - 1) (newest_of p b) v (sym (releases.newest b) ∙ here) in
      let above : e.first + e.bound - 1 < v.tid = was.1 in
      let found = keeps.placed b v was.0 in
      let number : v.tid ≡ e.first + found.0 = found.1 in
      (found.0, number, placed-unreleased e found.0 b v.place (omega arith) found.2);
  all =
      λ i b bytes pending.
      let found = keeps.all i b bytes (pending-unreleased e i b bytes plain pending) in
      let number : found.0.tid ≡ e.first + i = found.2 in
      let least : e.bound ≤ i = pending.unreleased in (
        found.0,
        releases.newest b ∙ ap (unreleased (e.first + e.bound - 1)) found.1
            ∙ unreleased-above (e.first + e.bound - 1) found.0 (past i found.0.tid least number),
        number,
      );
  unwritten_only = λ i b has. tt;
  unwritten_all =
      λ i b bytes pending still.
      let least : e.bound ≤ i = pending.unreleased in
      subst (λ xs. Contains xs (e.first + i, b)) (sym releases.unwritten)
      (contains-filter (λ x. nat_lt (e.first + e.bound - 1) x.0) p.unwritten (e.first + i, b)
      (keeps.unwritten_all i b bytes (pending-unreleased e i b bytes plain pending)
      (subst (λ (r : Round). IsStillUnwritten e r i b) (sym round) least))
      (less-passes (e.first + e.bound - 1) (e.first + i) (past i (e.first + i) least refl)));
  numbers =
      λ t b has.
      let there : Contains (filter (λ x. nat_lt (e.first + e.bound - 1) x.0) p.queue) (t, b) =
      subst (λ xs. Contains xs (t, b)) releases.queue has in
      let was = keeps.numbers t b (contains-from_filter (λ x. nat_lt (e.first + e.bound - 1) x.0) p.queue (t, b) there) in
      let passes : nat_lt (e.first + e.bound - 1) t ≡ true = kept-passes (λ x. nat_lt (e.first + e.bound - 1) x.0) p.queue (t, b) there in
      let above : e.first + e.bound - 1 < t = passes-less (e.first + e.bound - 1) t passes in
      (omega arith, was.1);
  used =
      λ i low high.
      let order : e.released ≤ e.bound = plain.order.0 in
      let used : length (filter (λ x. nat_le (e.first + i) x.0) p.queue) + position e i ≤ e.start = keeps.used i (omega arith) high in
      let few : length (filter (λ x. nat_le (e.first + i) x.0) (filter (λ x. nat_lt (e.first + e.bound - 1) x.0) p.queue))
      ≤ length (filter (λ x. nat_le (e.first + i) x.0) p.queue) =
      fewer-twice (λ x. nat_le (e.first + i) x.0) (λ x. nat_lt (e.first + e.bound - 1) x.0) p.queue in
      subst (λ xs. length (filter (λ x. nat_le (e.first + i) x.0) xs) + position e i ≤ e.start) (sym releases.queue) (omega arith);
}
  where
    -- the round releases some transaction
    some : e.released < e.bound
    some = subst (RoundAgrees e) round plain.round

    -- the test of numbers passes just those that are above
    less-passes : (m n : ℕ) → m < n → nat_lt m n ≡ true
    less-passes m n less = grind (arith, nat_tests)

    passes-less : (m n : ℕ) → nat_lt m n ≡ true → m < n
    passes-less m n passes = grind (arith, nat_tests)

    -- a transaction from the bound on has a number after the released ones
    past : (i t : ℕ) → e.bound ≤ i → t ≡ e.first + i → e.first + e.bound - 1 < t
    past i t least number = let rounds : e.released < e.bound = some in omega arith
