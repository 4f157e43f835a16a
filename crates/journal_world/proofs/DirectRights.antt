-- A block that an engine leaves to home may be written directly.
use Rattle.std.proofs.Common.{refl, sym, ◌∙◌, ap, subst, arith, inl, inr, ⊎_elim}
use Rattle.std.specs.Prelude.{◌≡◌, slice_get, ℕ, ◌+◌, ◌-◌, ◌≤◌, List, [], ◌∷◌, length, take, drop, Option, Some, None}
use Rattle.std.proofs.lemmas.Bool.{cases_lt}
use Rattle.std.proofs.lemmas.List.{length-take, take-append-le}
use Rattle.std.proofs.lemmas.Option.{slice_get_within}
use Rattle.journal_model.proofs.ListElements.{option-known}
use Rattle.journal_model.specs.declared.entry.Content.{Content}
use Rattle.journal_model.specs.declared.entry.Content.TheVariants.{Copy as CopyContent, Direct}
use Rattle.journal_model.specs.declared.entry.Entry.{Entry}
use Rattle.journal_model.specs.declared.entry.Entry.TheVariants.{Copy, Revoke}
use Rattle.journal_model.specs.declared.number.Area.TheVariants.{Home}
use Rattle.journal_model.specs.Disk.{Disk, IsOneOf}
use Rattle.log_model.specs.HomeChange.{HomeAddsOnly, IsDirectWrite}
use Rattle.journal_model.specs.Reading.{HasDirectRight}
use Rattle.journal_model.specs.Transaction.{History, after, content_of, last_effect}
use Rattle.journal_world.specs.Call.{Call, after_success}
use Rattle.journal_world.specs.Call.Call.{Write, Flush}
use Rattle.journal_world.specs.Direct.{DirectFaults, DirectSteps, DirectsHome, IsLeftToHome}
use Rattle.journal_world.specs.Engine.{AreBatchesOf, Engine}
use Rattle.journal_world.specs.Front.{Front, IsUntouched, finished_count, transactions}
use Rattle.journal_world.proofs.DirectCalls.{direct-adds, direct-fault-adds}
use Rattle.journal_world.proofs.HomeCopies.{newest-after}
use Rattle.journal_world.proofs.HomeRights.{HomeRight, IsOwn, abort-right, right-on}
use Rattle.journal_world.proofs.Lasts.{IsLastIn, entry-block, last-in, newest-left, none-in}
use Rattle.journal_world.proofs.Batches.{batches-take}
use Rattle.journal_world.proofs.Suffixes.{batches-drop, get-drop, get-take}

-- a block whose last effect is no copy is left to home
none-copied : (o : Option Entry) → ((v : List ℕ) → o ≡ Some (Copy v) → ⊥) → content_of o ≡ Direct
none-copied None none = refl
none-copied (Some Revoke) none = refl
none-copied (Some (Copy v)) none = absurd (none v refl)

-- if as many are committed, the first n transactions leave it to home
pub left-direct : (e : Engine) (ts : History) (n b : ℕ) → e.committed ≤ n → AreBatchesOf ts e.accepted → IsLeftToHome e b → after ts n b ≡ Direct
left-direct e ts n b least are left = none-copied (last_effect b (take n ts)) (λ v made.
    let sum : n ≡ e.committed + (n - e.committed) = omega arith in
    let (i, l) = last-in b (take n ts) (take n e.accepted) (Copy v) (batches-take n ts e.accepted are) made in
    elim (cases_lt i e.committed) [
      | inl below ↦
          let last : IsLastIn (take (e.committed + (n - e.committed)) e.accepted) b i (Copy v) =
          subst (λ (k : ℕ). IsLastIn (take k e.accepted) b i (Copy v)) sum l in
          left.none_newest i v (newest-left e e.committed (n - e.committed) ts are b i v (omega arith) (omega arith) below last)
      | inr due ↦
          let within = slice_get_within (take n e.accepted) i l.batch l.stands in
          let size = length-take n e.accepted in
          let stands : slice_get e.accepted i ≡ Some l.batch = sym (get-take n e.accepted i (omega arith)) ∙ l.stands in
          left.none_due i l.batch (omega arith) stands (entry-block l.batch.entries b (Copy v) l.entry)
    ])

-- the later transactions have no effect on it
left-untouched : (e : Engine) (ts : History) (b : ℕ) → AreBatchesOf ts e.accepted → IsLeftToHome e b → last_effect b (drop e.committed ts) ≡ None
left-untouched e ts b are left =
    elim (option-known (last_effect b (drop e.committed ts))) [
      | inl none ↦ none
      | inr (f, some) ↦
          let (i, l) = last-in b (drop e.committed ts) (drop e.committed e.accepted) f (batches-drop e.committed ts e.accepted are) some in
          absurd (left.none_due (e.committed + i) l.batch (omega arith) (sym (get-drop e.committed e.accepted i) ∙ l.stands) (entry-block l.batch.entries b f l.entry))
    ]

-- it may be written directly, by the engine's transactions
pub left-right : (e : Engine) (ts : History) (b : ℕ) → AreBatchesOf ts e.accepted → IsLeftToHome e b → HasDirectRight ts e.committed e.committed b
left-right e ts b are left = record { home = left-direct e ts e.committed b (omega arith) are left; untouched = left-untouched e ts b are left }

-- a block that the transactions copy is not left to home
copy-apart : (c : Content) (v : List ℕ) → c ≡ CopyContent v → c ≡ Direct → ⊥
copy-apart c v copy direct = apart v (sym copy ∙ direct)
  where
    apart : (v : List ℕ) → CopyContent v ≡ Direct → ⊥
    apart v same = cc

-- the engine leaves a block to home if the transactions give the right to it
right-left : (e : Engine) (ts : History) (b : ℕ) → AreBatchesOf ts e.accepted → HasDirectRight ts e.committed e.committed b → IsLeftToHome e b
right-left e ts b are right = record {
  none_newest = λ i v newest. copy-apart (after ts e.committed b) v (newest-after e ts i b v are newest) right.home;
  none_due = λ j due least stands has.
      let place : e.committed + (j - e.committed) ≡ j = omega arith in
      none-in b (drop e.committed ts) (drop e.committed e.accepted) (batches-drop e.committed ts e.accepted are) right.untouched (j - e.committed) due
      (get-drop e.committed e.accepted (j - e.committed) ∙ ap (slice_get e.accepted) place ∙ stands) has;
}

-- a block is left to home exactly when it may be written directly
pub left-or_right : (e : Engine) (ts : History) (b : ℕ) → AreBatchesOf ts e.accepted →
    (IsLeftToHome e b → HasDirectRight ts e.committed e.committed b) × (HasDirectRight ts e.committed e.committed b → IsLeftToHome e b)
left-or_right e ts b are = (λ left. left-right e ts b are left, λ right. right-left e ts b are right)

-- it may be written directly, by the front's transactions
pub front-right : (f : Front) (e : Engine) (b : ℕ) → AreBatchesOf f.sealed e.accepted → e.committed ≤ length f.sealed → IsUntouched f b → IsLeftToHome e b →
    HasDirectRight (transactions f) e.committed (finished_count f) b
front-right f e b are within untouched left = record {
  home =
      ap (λ (ts : History). content_of (last_effect b ts)) (take-append-le e.committed f.sealed (f.running ∷ []) within)
      ∙ left-direct e f.sealed e.committed b (omega arith) are left;
  untouched = untouched;
}

-- one write has one block and its bytes
pub same-write : (b c : ℕ) (v w : List ℕ) → Write Home b v ≡ Write Home c w → (c ≡ b) × (w ≡ v)
same-write b c v w same = (cc, cc)

-- a direct write that succeeds changes home by itself alone
pub direct-home : (old new : Engine) (disk after : Disk) (b : ℕ) (v : List ℕ) → DirectSteps old disk (Write Home b v) new after → DirectsHome old b v disk after
direct-home old new disk after b v step = record {
  adds = λ ts are.
      subst (HomeAddsOnly (IsDirectWrite ts old.committed old.committed b v) disk) (sym step.disk_is)
      (direct-adds (IsDirectWrite ts old.committed old.committed b v) old disk (Write Home b v)
      (λ c w same left. let is = same-write b c v w same in (left-right old ts b are (subst (IsLeftToHome old) is.0 left), is.0, is.1)) step.due);
}

-- so does one that fails
pub direct-fault-home : (old new : Engine) (disk after : Disk) (b : ℕ) (v : List ℕ) → DirectFaults old disk (Write Home b v) new after →
    DirectsHome old b v disk after
direct-fault-home old new disk after b v fault = record {
  adds = λ ts are.
      direct-fault-adds (IsDirectWrite ts old.committed old.committed b v) old disk after (Write Home b v)
      (λ c w same left. let is = same-write b c v w same in (left-right old ts b are (subst (IsLeftToHome old) is.0 left), is.0, is.1)) fault.due fault.disk_is;
}

-- a direct write that the front allows has the right to its block
pub written-rightly : (f : Front) (e : Engine) (b : ℕ) (v : List ℕ) → AreBatchesOf f.sealed e.accepted → e.committed ≤ length f.sealed → IsUntouched f b →
    (c : ℕ) (w : List ℕ) → Write Home b v ≡ Write Home c w → IsLeftToHome e c → IsDirectWrite (transactions f) e.committed (finished_count f) b v c w
written-rightly f e b v are within untouched c w same left =
    let is = same-write b c v w same in (front-right f e b are within untouched (subst (IsLeftToHome e) is.0 left), is.0, is.1)

-- a list of direct writes with those of a call
pub record HasDirects (directs more : List (ℕ × List ℕ)) (call : Call) : Type 0 where
  pub before : (b : ℕ) (v : List ℕ) → IsOneOf directs (b, v) → IsOneOf more (b, v)
  pub this : (b : ℕ) (v : List ℕ) → call ≡ Write Home b v → IsOneOf more (b, v)

-- a write adds itself to the list
pub write-directs : (directs : List (ℕ × List ℕ)) (b : ℕ) (v : List ℕ) → HasDirects directs ((b, v) ∷ directs) (Write Home b v)
write-directs directs b v = record {
  before = λ c w one. inr one;
  this = λ c w same. let is = same-write b c v w same in inl (ap (λ (n : ℕ). (n, w)) is.0 ∙ ap (λ (u : List ℕ). (b, u)) is.1);
}

-- a flush adds nothing to it
pub flush-directs : (directs : List (ℕ × List ℕ)) → HasDirects directs directs (Flush Home)
flush-directs directs = record { before = λ b v one. one; this = λ b v same. absurd (apart b v same) }
  where
    apart : (b : ℕ) (v : List ℕ) → Flush Home ≡ Write Home b v → ⊥
    apart b v same = cc

-- home keeps permitted values over a direct call that succeeds
pub direct-right : (opening : Disk) (directs more : List (ℕ × List ℕ)) (old new : Engine) (disk after : Disk) (call : Call) → HasDirects directs more call →
    DirectSteps old disk call new after → HomeRight opening directs old disk → HomeRight opening more new after
direct-right opening directs more old new disk after call has step right =
    subst (λ (e : Engine). HomeRight opening more e after) (sym step.engine)
    (subst (HomeRight opening more old) (sym step.disk_is)
    (right-on opening directs more old old disk (after_success call disk) (λ b v own. ⊎_elim (λ direct. inl (has.before b v direct)) (λ copy. inr copy) own)
    (direct-adds (IsOwn more old) old disk call (λ b v same left. inl (has.this b v same)) step.due) right))

-- home keeps permitted values over a direct call that fails
pub direct-fault-right : (opening : Disk) (directs more : List (ℕ × List ℕ)) (old new : Engine) (disk after : Disk) (call : Call) → HasDirects directs more call →
    DirectFaults old disk call new after → HomeRight opening directs old disk → HomeRight opening more new after
direct-fault-right opening directs more old new disk after call has fault right =
    subst (λ (e : Engine). HomeRight opening more e after) (sym fault.engine)
    (abort-right opening more old after
    (right-on opening directs more old old disk after (λ b v own. ⊎_elim (λ direct. inl (has.before b v direct)) (λ copy. inr copy) own)
    (direct-fault-adds (IsOwn more old) old disk after call (λ b v same left. inl (has.this b v same)) fault.due fault.disk_is) right))
