-- Each moment while a log is made: zeros are written, then made durable, then the superblock is written.
use Rattle.std.proofs.Common.{refl, sym, ◌∙◌, ap, subst, arith, inl, inr, ⊎_elim, false, true}
use Rattle.std.specs.Prelude.{◌≡◌, ◌⊎◌, ℕ, ◌<◌, ◌==◌, Bool, List, ◌∷◌, replicate}
use Rattle.std.proofs.lemmas.Bool.{cases_eq}
use Rattle.std.proofs.lemmas.Bool.Decides.{nat_tests}
use Rattle.journal_model.specs.declared.number.Area.TheVariants.{Log}
use Rattle.journal_model.specs.Disk.{Cell, Disk, IsOneOf, Shape, flushed, handed_over, held, with_cell, written}
use Rattle.log_model.specs.Superblock.{formatted_super}
use Rattle.block_device.specs.State.{DeviceState, EachMoment, Moves, Stays, Writes}
use Rattle.block_device.specs.State.Writes.{HandedOver, Undone, Whole}
use Rattle.block_device.proofs.Moments.{each-joins, each-moves, each-stays}
use Rattle.journal_world.proofs.Elements.{all-weaker}
use Rattle.journal_world.specs.Sound.{durable_cell}
use Rattle.recovery.specs.Making.{HoldsOrOld, IsMakingMoment, IsZeroingMoment}
use Rattle.recovery.specs.Opening.{HasZeros}

own-cell : (disk : Disk) (n : ℕ) (cell : Cell) → with_cell disk Log n cell Log n ≡ cell
own-cell disk n cell = let same : (n == n) ≡ true = grind (arith, nat_tests) in rw same refl

other-cell : (disk : Disk) (n m : ℕ) (cell : Cell) → (m ≡ n → ⊥) → with_cell disk Log n cell Log m ≡ disk Log m
other-cell disk n m cell other = let apart : (m == n) ≡ false = grind (arith, nat_tests) in rw apart refl

-- what a write leaves of its block, failed or not
written-holds : (bytes : List ℕ) (old : Cell) → HoldsOrOld bytes old (record { reads = bytes; others = held old })
written-holds bytes old = λ v one. ⊎_elim (λ e. inr e) (λ later. inl later) one

given-holds : (bytes : List ℕ) (old : Cell) → HoldsOrOld bytes old (record { reads = old.reads; others = bytes ∷ old.others })
given-holds bytes old = λ v one. ⊎_elim (λ e. inl (inl e)) (λ more. ⊎_elim (λ e. inr e) (λ later. inl (inr later)) more) one

-- what holds before a write, and for all that it may leave, holds at each moment
each-write : (P : Disk → Type 0) (old new : DeviceState) (n : ℕ) (bytes : List ℕ) → Writes old new Log n bytes → P old.disk →
    ((cell : Cell) → HoldsOrOld bytes (old.disk Log n) cell → P (with_cell old.disk Log n cell)) → EachMoment P old new
each-write P old new n bytes (Undone stays) before after = each-stays P old new stays before
each-write P old new n bytes (Whole moves) before after =
    each-moves P old new (written old.disk Log n bytes) moves before
    (after (record { reads = bytes; others = held (old.disk Log n) }) (written-holds bytes (old.disk Log n)))
each-write P old new n bytes (HandedOver moves) before after =
    each-moves P old new (handed_over old.disk Log n bytes) moves before
    (after (record { reads = (old.disk Log n).reads; others = bytes ∷ (old.disk Log n).others }) (given-holds bytes (old.disk Log n)))

-- moments with a weaker property
each-as : (P Q : Disk → Type 0) (old new : DeviceState) → ((disk : Disk) → P disk → Q disk) → EachMoment P old new → EachMoment Q old new
each-as P Q old new weaker each = record {
  since = each.since;
  past = each.past;
  each = all-weaker P Q weaker each.since each.each;
  now = weaker new.disk each.now;
}

-- moments, then a call that changed nothing
pub after-stays : (P : Disk → Type 0) (a b c : DeviceState) → EachMoment P a b → Stays b c → EachMoment P a c
after-stays P a b c each stays = each-joins P a b c each (each-stays P b c stays each.now)

-- nothing was done yet
pub zeroing-none : (zeros : List ℕ) (maxlen : ℕ) (old : DeviceState) → EachMoment (IsZeroingMoment zeros maxlen old.disk) old old
zeroing-none zeros maxlen old =
    each-stays (IsZeroingMoment zeros maxlen old.disk) old old (record { shape = refl; disk = refl; past = refl })
    (record { home = λ b. refl; first = refl; behind = λ n from. refl; zeros_are = λ n above below v one. inl one })

pub making-none : (shape : Shape) (maxlen : ℕ) (uuid : List ℕ) (is_wide : Bool) (old new : DeviceState) → Stays old new →
    EachMoment (IsMakingMoment shape maxlen uuid is_wide old.disk) old new
making-none shape maxlen uuid is_wide old new stays =
    each-stays (IsMakingMoment shape maxlen uuid is_wide old.disk) old new stays
    (record { home = λ b. refl; behind = λ n from. inl refl; zeros = λ n above below v one. inl one; superblock = λ v one. inl one })

-- a block may become zeros
zeroing-cell : (zeros : List ℕ) (maxlen n : ℕ) (old disk : Disk) (cell : Cell) → 0 < n → n < maxlen → IsZeroingMoment zeros maxlen old disk →
    HoldsOrOld zeros (disk Log n) cell → IsZeroingMoment zeros maxlen old (with_cell disk Log n cell)
zeroing-cell zeros maxlen n old disk cell above below is holds = record {
  home = is.home;
  first = other-cell disk n 0 cell (λ same. omega arith) ∙ is.first;
  behind = λ m from. other-cell disk n m cell (λ same. omega arith) ∙ is.behind m from;
  zeros_are = λ m first last.
      elim (cases_eq m n) [
        | inl same ↦ subst (λ (k : ℕ). HoldsOrOld zeros (old Log k) (with_cell disk Log n cell Log k)) (sym same)
            (subst (λ (c : Cell). HoldsOrOld zeros (old Log n) c) (sym (own-cell disk n cell))
            (λ v one. ⊎_elim (λ before. is.zeros_are n above below v before) (λ e. inr e) (holds v one)))
        | inr other ↦ subst (λ (c : Cell). HoldsOrOld zeros (old Log m) c) (sym (other-cell disk n m cell other)) (is.zeros_are m first last)
      ];
}

pub zeroing-write : (zeros : List ℕ) (maxlen n : ℕ) (old s t : DeviceState) → 0 < n → n < maxlen → EachMoment (IsZeroingMoment zeros maxlen old.disk) old s →
    Writes s t Log n zeros → EachMoment (IsZeroingMoment zeros maxlen old.disk) old t
zeroing-write zeros maxlen n old s t above below each writes =
    each-joins (IsZeroingMoment zeros maxlen old.disk) old s t each
    (each-write (IsZeroingMoment zeros maxlen old.disk) s t n zeros writes each.now
    (λ cell holds. zeroing-cell zeros maxlen n old.disk s.disk cell above below each.now holds))

-- a moment of the zeros is one of the making
zeroing-making : (shape : Shape) (maxlen : ℕ) (uuid : List ℕ) (is_wide : Bool) (old disk : Disk) → IsZeroingMoment (replicate shape.block_size 0) maxlen old disk →
    IsMakingMoment shape maxlen uuid is_wide old disk
zeroing-making shape maxlen uuid is_wide old disk is = record {
  home = is.home;
  behind = λ n from. inl (is.behind n from);
  zeros = is.zeros_are;
  superblock = λ v one. inl (subst (λ (c : Cell). IsOneOf (held c) v) is.first one);
}

pub making-zeroed : (shape : Shape) (maxlen : ℕ) (uuid : List ℕ) (is_wide : Bool) (s t : DeviceState) →
    EachMoment (IsZeroingMoment (replicate shape.block_size 0) maxlen s.disk) s t → EachMoment (IsMakingMoment shape maxlen uuid is_wide s.disk) s t
making-zeroed shape maxlen uuid is_wide s t each =
    each-as (IsZeroingMoment (replicate shape.block_size 0) maxlen s.disk) (IsMakingMoment shape maxlen uuid is_wide s.disk) s t
    (zeroing-making shape maxlen uuid is_wide s.disk) each

-- a flush keeps it one
flush-making : (shape : Shape) (maxlen : ℕ) (uuid : List ℕ) (is_wide : Bool) (old disk : Disk) → IsMakingMoment shape maxlen uuid is_wide old disk →
    IsMakingMoment shape maxlen uuid is_wide old (flushed disk Log)
flush-making shape maxlen uuid is_wide old disk is = record {
  home = is.home;
  behind = λ n from. ⊎_elim (λ e. inr (durable n (old Log n) e)) (λ e. inr (durable n (flushed old Log Log n) e)) (is.behind n from);
  zeros = λ n above below v one. ⊎_elim (λ e. is.zeros n above below v (inl e)) (λ none. absurd none) one;
  superblock = λ v one.
      ⊎_elim (λ e. ⊎_elim (λ before. inl before) (λ named. inr (named.0, λ n above below. durable n (durable_cell (replicate shape.block_size 0)) (named.1 n above below)))
      (is.superblock v (inl e))) (λ none. absurd none) one;
}
  where
    durable : (n : ℕ) (cell : Cell) → disk Log n ≡ cell → flushed disk Log Log n ≡ durable_cell cell.reads
    durable n cell is = ap (λ (c : Cell). durable_cell c.reads) is

pub making-flush : (shape : Shape) (maxlen : ℕ) (uuid : List ℕ) (is_wide : Bool) (old s t : DeviceState) → EachMoment (IsMakingMoment shape maxlen uuid is_wide old.disk) old s →
    Moves s t (flushed s.disk Log) → EachMoment (IsMakingMoment shape maxlen uuid is_wide old.disk) old t
making-flush shape maxlen uuid is_wide old s t each moves =
    let P : Disk → Type 0 = IsMakingMoment shape maxlen uuid is_wide old.disk in
    each-joins P old s t each (each-moves P s t (flushed s.disk Log) moves each.now (flush-making shape maxlen uuid is_wide old.disk s.disk each.now))

-- so does the superblock's write after durable zeros
naming-making : (shape : Shape) (maxlen : ℕ) (uuid : List ℕ) (is_wide : Bool) (old disk : Disk) (cell : Cell) → 0 < maxlen →
    ((n : ℕ) → 0 < n → n < maxlen → disk Log n ≡ durable_cell (replicate shape.block_size 0)) → IsMakingMoment shape maxlen uuid is_wide old disk →
    HoldsOrOld (formatted_super shape.block_size maxlen uuid is_wide) (disk Log 0) cell → IsMakingMoment shape maxlen uuid is_wide old (with_cell disk Log 0 cell)
naming-making shape maxlen uuid is_wide old disk cell some all is holds = record {
  home = is.home;
  behind = λ n from.
      subst (λ (c : Cell). (c ≡ old Log n) ⊎ (c ≡ flushed old Log Log n)) (sym (other-cell disk 0 n cell (λ none. omega arith))) (is.behind n from);
  zeros = λ n above below.
      subst (λ (c : Cell). HoldsOrOld (replicate shape.block_size 0) (old Log n) c) (sym (other-cell disk 0 n cell (λ none. omega arith))) (is.zeros n above below);
  superblock = λ v one.
      ⊎_elim (λ before. ⊎_elim (λ held. inl held) (λ named. inr (named.0, still)) (is.superblock v before)) (λ e. inr (e, still))
      (holds v (subst (λ (c : Cell). IsOneOf (held c) v) (own-cell disk 0 cell) one));
}
  where
    still : (n : ℕ) → 0 < n → n < maxlen → with_cell disk Log 0 cell Log n ≡ durable_cell (replicate shape.block_size 0)
    still n above below = other-cell disk 0 n cell (λ none. omega (arith, above, none)) ∙ all n above below

pub making-named : (shape : Shape) (maxlen : ℕ) (uuid block : List ℕ) (is_wide : Bool) (old zeroed s t : DeviceState) → 0 < maxlen →
    HasZeros (replicate shape.block_size 0) maxlen old.disk zeroed.disk → s.disk ≡ flushed zeroed.disk Log →
    block ≡ formatted_super shape.block_size maxlen uuid is_wide → EachMoment (IsMakingMoment shape maxlen uuid is_wide old.disk) old s → Writes s t Log 0 block →
    EachMoment (IsMakingMoment shape maxlen uuid is_wide old.disk) old t
making-named shape maxlen uuid block is_wide old zeroed s t some has flush is each writes =
    let P : Disk → Type 0 = IsMakingMoment shape maxlen uuid is_wide old.disk in
    let all : (n : ℕ) → 0 < n → n < maxlen → s.disk Log n ≡ durable_cell (replicate shape.block_size 0) = λ n above below.
    ap (λ (d : Disk). d Log n) flush ∙ ap durable_cell (has.reads n above below) in
    each-joins P old s t each
    (each-write P s t 0 block writes each.now
    (λ cell holds. naming-making shape maxlen uuid is_wide old.disk s.disk cell some all each.now
    (subst (λ (bytes : List ℕ). HoldsOrOld bytes (s.disk Log 0) cell) is holds)))
