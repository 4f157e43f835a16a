-- The engine stays sound over the writes of a round's copies home and their flush, also failed ones.
use Rattle.std.proofs.Common.{refl, sym, ◌∙◌, ap, subst, arith, inl, inr}
use Rattle.std.specs.Prelude.{◌≡◌, ℕ, ◌+◌, ◌<◌, ◌≤◌, ◌==◌, ◌&&◌, Bool, true, false, if◌then◌else◌, List}
use Rattle.std.proofs.lemmas.Bool.{cases_eq, cases_lt}
use Rattle.std.proofs.lemmas.Bool.Decides.{nat_tests}
use Rattle.journal_model.specs.declared.number.Area.TheVariants.{Log, Home}
use Rattle.log_model.specs.Chain.{ring_place}
use Rattle.journal_model.specs.Disk.{Cell, Disk, IsOneOf, flushed, held, written}
use Rattle.journal_world.specs.declared.round.Round.{Round}
use Rattle.journal_world.specs.declared.round.Round.TheVariants.{Copies, TailWrite}
use Rattle.journal_world.specs.Call.{IsAfterFault}
use Rattle.journal_world.specs.Call.IsAfterFault.{Undone, Whole, HandedOver}
use Rattle.journal_world.specs.Call.Call.{Write}
use Rattle.journal_world.specs.Checkpoint.{IsFrom, IsNextCopy, IsPending, IsUnwritten}
use Rattle.journal_world.specs.Engine.{Engine}
use Rattle.journal_world.specs.Sound.{HomeHas, IsPlain, NamesTail, NamesStarted, RoundAgrees, RoundHolds, Sound, durable_cell}
use Rattle.journal_world.proofs.Pending.{newest-bytes, newest-of, newest-one, pending-of}
use Rattle.journal_world.proofs.Rounded.{IsRoundChange, cell-kept, rounded-sound}
use Rattle.journal_world.proofs.Rounds.{going, going-change, home-kept, may-kept, none-moved, some-committed}

-- a write of home block b, which may have failed, changes no other block
pub record IsHomeWrite (old new : Disk) (b : ℕ) : Type 0 where
  pub log : (n : ℕ) → new Log n ≡ old Log n
  pub others : (m : ℕ) → (m ≡ b → ⊥) → new Home m ≡ old Home m

-- what is put at one block is put at no other
pub put-other : (b m : ℕ) (x y : Cell) → (m ≡ b → ⊥) → (if true && (m == b) then x else y) ≡ y
put-other b m x y other = let apart : (m == b) ≡ false = grind (arith, nat_tests) in rw apart

-- what is put at a block stands there
pub put-there : (b m : ℕ) (x y : Cell) → m ≡ b → (if true && (m == b) then x else y) ≡ x
put-there b m x y there = let same : (m == b) ≡ true = grind (arith, nat_tests) in rw same

-- a write that succeeded is one
pub home-written : (disk : Disk) (b : ℕ) (v : List ℕ) → IsHomeWrite disk (written disk Home b v) b
home-written disk b v = record { log = λ n. refl; others = λ m other. put-other b m _ (disk Home m) other }

-- the engine's change when a round goes on among its copies, or to the superblock
pub copies-change : (e : Engine) (transaction block : ℕ) (new : Round) (a : Bool) → IsPlain e → e.round ≡ Copies transaction block →
    (NamesTail e e.superblock → NamesStarted (going e new a) new e.superblock) → (e.released < e.bound → RoundAgrees (going e new a) new) →
    IsRoundChange e (going e new a)
copies-change e transaction block new a plain at names agrees =
    let more : e.released < e.bound = subst (RoundAgrees e) at plain.round in
    going-change e (Copies transaction block) new a plain (some-committed e plain more) at names (agrees more)

-- the engine stays sound over the write of a pending copy
pub copy-sound : (e : Engine) (disk after : Disk) (transaction block i b : ℕ) (v : List ℕ) (next place : ℕ) (a : Bool) → Sound e disk →
    e.round ≡ Copies transaction block → IsPending e i b v → IsHomeWrite disk after b →
    RoundHolds (going e (Copies next place) a) after (Copies next place) → Sound (going e (Copies next place) a) after
copy-sound e disk after transaction block i b v next place a sound at pending write holds =
    let f : Engine = going e (Copies next place) a in
    let more : e.released < e.bound = subst (RoundAgrees e) at sound.plain.round in
    let some : 0 < e.committed = some-committed e sound.plain more in
    rounded-sound e f disk after sound (record {
      some = some;
      change = copies-change e transaction block (Copies next place) a sound.plain at (λ names. names) (λ more. more);
      ring = record { each = λ k. cell-kept _ _ (write.log (ring_place e.ring k)) };
      superblock =
          λ w one.
          may-kept e f w (λ names. names) (λ moves names. absurd (none-moved e transaction block at moves))
          (sound.superblock w (subst (λ (c : Cell). IsOneOf (held c) w) (write.log 0) one));
      freed = λ k w low out within one. absurd (omega arith);
      home =
          λ j c w newest below.
          let was = newest-of f e j c w refl refl newest in
          let least : e.released ≤ i = pending.unreleased in
          write.others c
          (λ same.
          let one : i ≡ j = newest-one e i j b v w pending.newest (newest-of f e j b w refl refl (rw (← same) newest)) in
          omega arith)
          ∙ sound.home j c w was below;
      round = holds;
    })

-- a copy of another block, from (i, b) on, is still to come once b is written
behind-next : (i b j c : ℕ) → (c ≡ b → ⊥) → IsFrom i b j c → IsFrom i (b + 1) j c
behind-next i b j c other (inl later) = inl later
behind-next i b j c other (inr here) =
    let least : b ≤ c = here.1 in
    inr (
      here.0,
      elim (cases_lt b c) [
        | inl above ↦ omega arith
        | inr same ↦ absurd (other (omega arith))
      ],
    )

-- a copy of another block written earlier is not still to be written
before-next : (e : Engine) (transaction block i b j c : ℕ) (v w : List ℕ) → IsNextCopy e transaction block i b v → IsPending e j c w → j < e.bound →
    (c ≡ b → ⊥) → (IsFrom i (b + 1) j c → ⊥) → IsFrom transaction block j c → ⊥
before-next e transaction block i b j c v w next pending due other before from =
    before (behind-next i b j c other (next.first j c w (record { pending = pending; due = due; from = from })))

-- with the copy written, the round has written all up to it
copied-holds : (e : Engine) (disk : Disk) (transaction block i b : ℕ) (v : List ℕ) → Sound e disk → e.round ≡ Copies transaction block →
    IsNextCopy e transaction block i b v → RoundHolds (going e (Copies i (b + 1)) e.aborted) (written disk Home b v) (Copies i (b + 1))
copied-holds e disk transaction block i b v sound at next j c w pending due before =
    let f : Engine = going e (Copies i (b + 1)) e.aborted in
    let was : IsPending e j c w = pending-of f e j c w refl refl refl pending in
    let held : RoundHolds e disk (Copies transaction block) = subst (RoundHolds e disk) at sound.round in
    elim (cases_eq c b) [
      | inl same ↦
          ap (λ (x : Cell). x.reads) (put-there b c _ (disk Home c) same)
          ∙ newest-bytes e i j b v w sound.plain next.unwritten.pending.newest (subst (λ d. IsPending e j d w) same was).newest
      | inr other ↦
          ap (λ (x : Cell). x.reads) (put-other b c _ (disk Home c) other)
          ∙ held j c w was due (before-next e transaction block i b j c v w next was due other before)
    ]

-- if the write fails, the copies written earlier read as they did
uncopied-holds : (e : Engine) (disk after : Disk) (transaction block i b : ℕ) (v : List ℕ) (a : Bool) → Sound e disk → e.round ≡ Copies transaction block →
    IsUnwritten e transaction block i b v → IsHomeWrite disk after b → RoundHolds (going e (Copies transaction block) a) after (Copies transaction block)
uncopied-holds e disk after transaction block i b v a sound at unwritten write j c w pending due before =
    let f : Engine = going e (Copies transaction block) a in
    let was : IsPending e j c w = pending-of f e j c w refl refl refl pending in
    let held : RoundHolds e disk (Copies transaction block) = subst (RoundHolds e disk) at sound.round in
    let other : c ≡ b → ⊥ =
    λ same.
    let one : i ≡ j = newest-one e i j b v w unwritten.pending.newest (subst (λ d. IsPending e j d w) same was).newest in
    before (subst (λ n. IsFrom transaction block n c) one (subst (λ d. IsFrom transaction block i d) (sym same) unwritten.from)) in
    ap (λ (x : Cell). x.reads) (write.others c other) ∙ held j c w was due before

-- the engine stays sound over the write of the next copy
pub copied-sound : (e : Engine) (disk : Disk) (transaction block i b : ℕ) (v : List ℕ) → Sound e disk → e.round ≡ Copies transaction block →
    IsNextCopy e transaction block i b v → Sound (going e (Copies i (b + 1)) e.aborted) (written disk Home b v)
copied-sound e disk transaction block i b v sound at next =
    copy-sound e disk (written disk Home b v) transaction block i b v i (b + 1) e.aborted sound at next.unwritten.pending (home-written disk b v)
    (copied-holds e disk transaction block i b v sound at next)

-- a failed write at home is a home write
pub home-fault : (old new : Disk) (b : ℕ) (v : List ℕ) → IsAfterFault (Write Home b v) old new → IsHomeWrite old new b
home-fault old new b v (Undone call x y same) =
    subst (λ (d : Disk). IsHomeWrite old d b) (sym same) (record { log = λ n. refl; others = λ m other. refl })
home-fault old new b v (Whole a m w x y same) = subst (λ (d : Disk). IsHomeWrite old d b) (sym same) (home-written old b v)
home-fault old new b v (HandedOver a m w x y same) =
    subst (λ (d : Disk). IsHomeWrite old d b) (sym same)
    (record { log = λ n. refl; others = λ m other. put-other b m _ (old Home m) other })

-- the engine stays sound if the write of the next copy fails
pub copy-fails : (e : Engine) (disk after : Disk) (transaction block i b : ℕ) (v : List ℕ) (a : Bool) → Sound e disk → e.round ≡ Copies transaction block →
    IsNextCopy e transaction block i b v → IsAfterFault (Write Home b v) disk after → Sound (going e (Copies transaction block) a) after
copy-fails e disk after transaction block i b v a sound at next fault =
    let write : IsHomeWrite disk after b = home-fault disk after b v fault in
    copy-sound e disk after transaction block i b v transaction block a sound at next.unwritten.pending write
    (uncopied-holds e disk after transaction block i b v a sound at next.unwritten write)

-- once no copy is left and home is flushed, all the round's copies are durable there
all-durable : (e : Engine) (disk : Disk) (transaction block : ℕ) → Sound e disk → e.round ≡ Copies transaction block →
    ((i b : ℕ) (v : List ℕ) → IsUnwritten e transaction block i b v → ⊥) → HomeHas e (flushed disk Home) e.bound
all-durable e disk transaction block sound at none i b v newest below =
    let held : RoundHolds e disk (Copies transaction block) = subst (RoundHolds e disk) at sound.round in
    elim (cases_lt i e.released) [
      | inl released ↦ ap (λ (c : Cell). durable_cell c.reads) (sound.home i b v newest released)
      | inr later ↦
          let pending : IsPending e i b v = record { newest = newest; unreleased = omega arith } in
          ap durable_cell (held i b v pending below (λ from. none i b v (record { pending = pending; due = below; from = from })))
    ]

-- the engine stays sound over the flush of home
pub home_flush-sound : (e : Engine) (disk : Disk) (transaction block : ℕ) → Sound e disk → e.round ≡ Copies transaction block →
    ((i b : ℕ) (v : List ℕ) → IsUnwritten e transaction block i b v → ⊥) → Sound (going e TailWrite e.aborted) (flushed disk Home)
home_flush-sound e disk transaction block sound at none =
    let f : Engine = going e TailWrite e.aborted in
    let more : e.released < e.bound = subst (RoundAgrees e) at sound.plain.round in
    let some : 0 < e.committed = some-committed e sound.plain more in
    rounded-sound e f disk (flushed disk Home) sound (record {
      some = some;
      change = copies-change e transaction block TailWrite e.aborted sound.plain at (λ names. names) (λ more. more);
      ring = record { each = λ k. cell-kept _ _ refl };
      superblock = λ v one. may-kept e f v (λ names. names) (λ moves names. absurd (none-moved e transaction block at moves)) (sound.superblock v one);
      freed = λ k v low out within one. absurd (omega arith);
      home =
          home-kept e f disk (flushed disk Home) e.released (λ b v durable. ap (λ (c : Cell). durable_cell c.reads) durable) sound.home;
      round = home-kept e f (flushed disk Home) (flushed disk Home) e.bound (λ b v durable. durable) (all-durable e disk transaction block sound at none);
    })
