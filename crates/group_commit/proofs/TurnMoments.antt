-- What holds at each moment of turns, in sequence.
use Rattle.std.proofs.Common.{refl, sym, ◌∙◌, ap, subst, arith, inl, inr, ⊎_elim}
use Rattle.std.specs.Prelude.{◌≡◌, ◌≢◌, ℕ, zero, suc, ◌≤◌, true, false, List, [], ◌∷◌, ◌++◌, eqb, length}
use Rattle.std.proofs.lemmas.Bool.Decides.{eqb_tells}
use Rattle.std.specs.List.{AllByRecursion}
use Rattle.journal_model.specs.declared.number.Area.TheVariants.{Home}
use Rattle.journal_model.specs.Disk.{Disk, IsOneOf, Shape, held}
use Rattle.journal_model.specs.Transaction.{History}
use Rattle.log_model.specs.HomeChange.{Addition, HomeAddsOnly, IsCommittedCopy}
use Rattle.block_device.specs.State.{DeviceState, EachMoment}
use Rattle.block_device.proofs.Moments.{each-joins, each-stays}
use Rattle.journal_world.specs.Engine.{Engine}
use Rattle.journal_world.specs.Front.{Front}
use Rattle.journal_world.specs.Journal.{Journal}
use Rattle.journal_world.proofs.HomeCopies.{adds-none}
use Rattle.log_engine.specs.Close.{IsDuringClose}
use Rattle.journal_steps.specs.Journal.{Agrees, IsDuringCheckTurn, IsDuringTurn, OpensNow, OpensOver, Requests}
use Rattle.journal_steps.specs.Values.{JournalValue}
use Rattle.group_commit.specs.Close.{GoesOn, HasSealed, IsFinished, IsSealedInClose, sealed_with, with_running}
use Rattle.group_commit.specs.During.{HoldsDuringRounds, HoldsDuringTurns, IsCopyOfTurns, IsDuringRounds, IsDuringTurns}
use Rattle.group_commit.proofs.Closed.{opens-closed}

-- additions of fewer kinds are additions of more kinds
adds-weaker : (may more : Addition) (old new : Disk) → ((b : ℕ) (v : List ℕ) → may b v → more b v) → HomeAddsOnly may old new → HomeAddsOnly more old new
adds-weaker may more old new weaker adds = record {
  reads = λ b.
      ⊎_elim (λ (same : (new Home b).reads ≡ (old Home b).reads). inl same)
      (λ (added : may b (new Home b).reads). inr (weaker b (new Home b).reads added)) (adds.reads b);
  left = λ b v holds.
      ⊎_elim (λ (was : IsOneOf (held (old Home b)) v). inl was) (λ (added : may b v). inr (weaker b v added)) (adds.left b v holds);
}

-- two sequences of additions make one
adds-after : (may : Addition) (old mid new : Disk) → HomeAddsOnly may old mid → HomeAddsOnly may mid new → HomeAddsOnly may old new
adds-after may old mid new first second = record {
  reads = λ b.
      ⊎_elim
      (λ (same : (new Home b).reads ≡ (mid Home b).reads).
      ⊎_elim (λ (was : (mid Home b).reads ≡ (old Home b).reads). inl (same ∙ was))
      (λ (added : may b (mid Home b).reads). inr (subst (may b) (sym same) added)) (first.reads b))
      (λ (added : may b (new Home b).reads). inr added) (second.reads b);
  left = λ b v holds.
      ⊎_elim (λ (was : IsOneOf (held (mid Home b)) v). first.left b v was) (λ (added : may b v). inr added) (second.left b v holds);
}

-- at each moment the weaker property holds too
all-weaker : (P Q : Disk → Type 0) → ((disk : Disk) → P disk → Q disk) → (disks : List Disk) → AllByRecursion P disks → AllByRecursion Q disks
all-weaker P Q weaker [] all = tt
all-weaker P Q weaker (d ∷ disks) all = (weaker d all.0, all-weaker P Q weaker disks all.1)

each-weaker : (P Q : Disk → Type 0) (old new : DeviceState) → ((disk : Disk) → P disk → Q disk) → EachMoment P old new → EachMoment Q old new
each-weaker P Q old new weaker each = record {
  since = each.since;
  past = each.past;
  each = all-weaker P Q weaker each.since each.each;
  now = weaker new.disk each.now;
}

-- a later journal of the same call: what is sealed in the rest of the call is sealed in the whole
record IsLater (j k : Journal) : Type 0 where
  shape : k.engine.shape ≡ j.engine.shape
  committed : j.engine.committed ≤ k.engine.committed
  sealed : (ts : History) → IsSealedInClose k.front ts → IsSealedInClose j.front ts

-- copies of the rest are copies of the whole
later-copies : (j k : Journal) (most more : ℕ) (old new : Disk) → IsLater j k → most ≤ more → HomeAddsOnly (IsCopyOfTurns k most) old new →
    HomeAddsOnly (IsCopyOfTurns j more) old new
later-copies j k most more old new later larger adds =
    let fewer : j.engine.committed ≤ k.engine.committed = later.committed in
    adds-weaker (IsCopyOfTurns k most) (IsCopyOfTurns j more) old new
    (λ b v copy.
    let low : k.engine.committed ≤ copy.n = copy.low in
    let high : copy.n ≤ most = copy.high in
    record { sealed = copy.sealed; among = later.sealed copy.sealed copy.among; n = copy.n; low = (omega arith); high = (omega arith); copy = copy.copy }) adds

later-self : (j : Journal) → IsLater j j
later-self j = record { shape = refl; committed = omega arith; sealed = λ ts among. among }

-- a moment of the rest is one of the whole
during-later : (j k : Journal) (old mid disk : Disk) → IsLater j k → HomeAddsOnly (IsCopyOfTurns j k.engine.committed) old mid → IsDuringTurns k mid disk →
    IsDuringTurns j old disk
during-later j k old mid disk later before during =
    let fewer : j.engine.committed ≤ k.engine.committed = later.committed in
    let low : k.engine.committed ≤ during.least = during.low in
    record {
      least = during.least;
      low = (omega arith);
      home =
          adds-after (IsCopyOfTurns j during.least) old mid disk (later-copies j j k.engine.committed during.least old mid (later-self j) low before)
          (later-copies j k during.least during.least mid disk later (omega arith) during.home);
      sealed = during.sealed;
      among = later.sealed during.sealed during.among;
      opens = subst (λ (s : Shape). OpensOver s during.sealed during.least (length during.sealed) disk) later.shape during.opens;
    }

-- after a seal, nothing more is to be sealed
after-seal : (f : Front) (handles : List ℕ) (ts : History) → f.running.handles ≡ handles → IsSealedInClose (sealed_with f handles) ts → IsSealedInClose f ts
after-seal f [] ts none among = among
after-seal f (h ∷ handles) ts some among =
    let all : ts ≡ f.sealed ++ f.running ∷ [] =
    ⊎_elim (λ (is : ts ≡ f.sealed ++ f.running ∷ []). is) (λ (is : ts ≡ f.sealed ++ f.running ∷ []). is) among in
    inr (subst (λ (hs : List ℕ). ts ≡ with_running f.sealed f.running hs) (sym some) all)

-- a moment of a commit step, which leaves home, is one of turns
turn-during : (j : Journal) (old disk : Disk) → IsDuringTurn j old disk → IsDuringTurns j old disk
turn-during j old disk during = record {
  least = j.engine.committed;
  low = omega arith;
  home = adds-none (IsCopyOfTurns j j.engine.committed) old disk during.home.same;
  sealed = j.front.sealed;
  among = inl refl;
  opens = during.opens;
}

rounds-copies : (j : Journal) (most : ℕ) (old disk : Disk) → j.engine.committed ≤ most → HomeAddsOnly (IsCommittedCopy j.front.sealed j.engine.committed) old disk →
    HomeAddsOnly (IsCopyOfTurns j most) old disk
rounds-copies j most old disk high adds =
    adds-weaker (IsCommittedCopy j.front.sealed j.engine.committed) (IsCopyOfTurns j most) old disk
    (λ b v copy. record { sealed = j.front.sealed; among = inl refl; n = j.engine.committed; low = (omega arith); high = high; copy = copy }) adds

-- a moment of rounds is one of turns
rounds-during : (j : Journal) (old disk : Disk) → IsDuringRounds j old disk → IsDuringTurns j old disk
rounds-during j old disk during = record {
  least = j.engine.committed;
  low = omega arith;
  home = rounds-copies j j.engine.committed old disk (omega arith) during.home;
  sealed = j.front.sealed;
  among = inl refl;
  opens = during.opens;
}

-- a moment of the log's close, when everything is committed, is one of rounds
closing-during : (f : Front) (e : Engine) (old disk : Disk) → Agrees (record { front = f; engine = e }) → e.committed ≡ length f.sealed → IsDuringClose e old disk →
    IsDuringRounds (record { front = f; engine = e }) old disk
closing-during f e old disk agrees all during = record {
  home = adds-none (IsCommittedCopy f.sealed e.committed) old disk during.home.same;
  opens = subst (λ (n : ℕ). OpensOver e.shape f.sealed n (length f.sealed) disk) (sym all) (opens-closed f e disk agrees during.opens);
}

pub each-closing : (f : Front) (e : Engine) (old new : DeviceState) → Agrees (record { front = f; engine = e }) → e.committed ≡ length f.sealed →
    EachMoment (IsDuringClose e old.disk) old new → EachMoment (IsDuringRounds (record { front = f; engine = e }) old.disk) old new
each-closing f e old new agrees all each =
    each-weaker (IsDuringClose e old.disk) (IsDuringRounds (record { front = f; engine = e }) old.disk) old new
    (λ disk during. closing-during f e old.disk disk agrees all during) each

module _ {D : Type 0} (state : D → DeviceState) where
  -- each moment from a journal to this device
  abbrev EachTo : JournalValue D → D → Type 0
  EachTo old device = EachMoment (IsDuringTurns old.journal (state old.device).disk) (state old.device) (state device)

  abbrev EachRoundTo : JournalValue D → D → Type 0
  EachRoundTo old device = EachMoment (IsDuringRounds old.journal (state old.device).disk) (state old.device) (state device)

  -- if nothing is done, the one moment holds what holds now
  pub each-still : (v : JournalValue D) → OpensNow v.journal (state v.device).disk → HoldsDuringTurns state v v
  each-still v opens = record {
    each =
        each-stays (IsDuringTurns v.journal (state v.device).disk) (state v.device) (state v.device) (record { shape = refl; disk = refl; past = refl })
        (turn-during v.journal (state v.device).disk (state v.device).disk (record { home = record { same = λ b. refl }; opens = opens }));
    count = omega arith;
    home = adds-none _ (state v.device).disk (state v.device).disk (λ b. refl);
  }

  pub each-same : (old new : JournalValue D) → new ≡ old → OpensNow old.journal (state old.device).disk → HoldsDuringTurns state old new
  each-same old new same opens = subst (λ (v : JournalValue D). HoldsDuringTurns state old v) (sym same) (each-still old opens)

  -- an unchanged device adds no moments, if as many are committed
  pub each-device : (old mid new : JournalValue D) → new.device ≡ mid.device → new.journal.engine.committed ≡ mid.journal.engine.committed →
      HoldsDuringTurns state old mid → HoldsDuringTurns state old new
  each-device old mid new same count holds = record {
    each = subst (EachTo old) (sym same) holds.each;
    count = subst (λ (n : ℕ). old.journal.engine.committed ≤ n) (sym count) holds.count;
    home =
        subst (λ (n : ℕ). HomeAddsOnly (IsCopyOfTurns old.journal n) (state old.device).disk (state new.device).disk) (sym count)
        (subst (λ (d : D). HomeAddsOnly (IsCopyOfTurns old.journal mid.journal.engine.committed) (state old.device).disk (state d).disk) (sym same) holds.home);
  }

  -- the moments of one call, then those of another
  each-on : (a b c : JournalValue D) → IsLater a.journal b.journal → HoldsDuringTurns state a b → HoldsDuringTurns state b c → HoldsDuringTurns state a c
  each-on a b c later first second =
      let P = IsDuringTurns a.journal (state a.device).disk in
      let low : a.journal.engine.committed ≤ b.journal.engine.committed = first.count in
      let high : b.journal.engine.committed ≤ c.journal.engine.committed = second.count in
      record {
        each =
            each-joins P (state a.device) (state b.device) (state c.device) first.each
            (each-weaker (IsDuringTurns b.journal (state b.device).disk) P (state b.device) (state c.device)
            (λ disk during. during-later a.journal b.journal (state a.device).disk (state b.device).disk disk later first.home during) second.each);
        count = omega arith;
        home =
            adds-after (IsCopyOfTurns a.journal c.journal.engine.committed) (state a.device).disk (state b.device).disk (state c.device).disk
            (later-copies a.journal a.journal b.journal.engine.committed c.journal.engine.committed (state a.device).disk (state b.device).disk (later-self a.journal) high
            first.home)
            (later-copies a.journal b.journal c.journal.engine.committed c.journal.engine.committed (state b.device).disk (state c.device).disk later (omega arith)
            second.home);
      }

  on-later : (a b : JournalValue D) → GoesOn state a b → IsLater a.journal b.journal
  on-later a b on = record {
    shape = on.measures;
    committed = on.committed;
    sealed = λ ts among. subst (λ (f : Front). IsSealedInClose f ts) on.front among;
  }

  sealed-later : (a b : JournalValue D) → HasSealed state a b → IsLater a.journal b.journal
  sealed-later a b has = record {
    shape = has.measures;
    committed = has.committed;
    sealed = λ ts among.
        after-seal a.journal.front a.journal.front.running.handles ts refl (subst (λ (f : Front). IsSealedInClose f ts) has.front among);
  }

  -- moments after commit and checkpoint steps
  pub each-went : (a b c : JournalValue D) → GoesOn state a b → HoldsDuringTurns state a b → HoldsDuringTurns state b c → HoldsDuringTurns state a c
  each-went a b c on first second = each-on a b c (on-later a b on) first second

  -- moments after a seal
  pub each-sealed : (a b c : JournalValue D) → HasSealed state a b → HoldsDuringTurns state a b → HoldsDuringTurns state b c → HoldsDuringTurns state a c
  each-sealed a b c has first second = each-on a b c (sealed-later a b has) first second

  -- the moments of a commit step
  pub each-commit : (old new : JournalValue D) → old.journal.engine.committed ≤ new.journal.engine.committed →
      EachMoment (IsDuringTurn old.journal (state old.device).disk) (state old.device) (state new.device) → HoldsDuringTurns state old new
  each-commit old new count each = record {
    each =
        each-weaker (IsDuringTurn old.journal (state old.device).disk) (IsDuringTurns old.journal (state old.device).disk) (state old.device) (state new.device)
        (turn-during old.journal (state old.device).disk) each;
    count = count;
    home = adds-none _ (state old.device).disk (state new.device).disk each.now.home.same;
  }

  -- the moments of rounds
  pub each-rounds : (old new : JournalValue D) → new.journal.engine.committed ≡ old.journal.engine.committed → HoldsDuringRounds state old new →
      HoldsDuringTurns state old new
  each-rounds old new same holds =
      let count : old.journal.engine.committed ≤ new.journal.engine.committed = omega arith in
      record {
        each =
            each-weaker (IsDuringRounds old.journal (state old.device).disk) (IsDuringTurns old.journal (state old.device).disk) (state old.device) (state new.device)
            (rounds-during old.journal (state old.device).disk) holds.each;
        count = count;
        home = rounds-copies old.journal new.journal.engine.committed (state old.device).disk (state new.device).disk count holds.each.now.home;
      }

  pub rounds-still : (v : JournalValue D) → OpensNow v.journal (state v.device).disk → HoldsDuringRounds state v v
  rounds-still v opens = record {
    each =
        each-stays (IsDuringRounds v.journal (state v.device).disk) (state v.device) (state v.device) (record { shape = refl; disk = refl; past = refl })
        (record { home = adds-none _ (state v.device).disk (state v.device).disk (λ b. refl); opens = opens });
  }

  -- a checkpoint step after others, which left front and committed count
  pub rounds-on : (a b c : JournalValue D) → GoesOn state a b → b.journal.front ≡ a.journal.front → b.journal.engine.committed ≡ a.journal.engine.committed →
      Agrees b.journal → HoldsDuringRounds state a b →
      EachMoment (IsDuringCheckTurn b.journal (state b.device).disk) (state b.device) (state c.device) → HoldsDuringRounds state a c
  rounds-on a b c on front committed agrees first second =
      let P = IsDuringRounds a.journal (state a.device).disk in
      record {
        each =
            each-joins P (state a.device) (state b.device) (state c.device) first.each
            (each-weaker (IsDuringCheckTurn b.journal (state b.device).disk) P (state b.device) (state c.device) told second);
      }
    where
      told : (disk : Disk) → IsDuringCheckTurn b.journal (state b.device).disk disk → IsDuringRounds a.journal (state a.device).disk disk
      told disk during =
          let copies = during.home.adds b.journal.front.sealed agrees.batches in
          record {
            home =
                adds-after (IsCommittedCopy a.journal.front.sealed a.journal.engine.committed) (state a.device).disk (state b.device).disk disk first.each.now.home
                (subst (λ (n : ℕ). HomeAddsOnly (IsCommittedCopy a.journal.front.sealed n) (state b.device).disk disk) committed
                (subst (λ (f : Front). HomeAddsOnly (IsCommittedCopy f.sealed b.journal.engine.committed) (state b.device).disk disk) front copies));
            opens =
                subst (λ (n : ℕ). OpensOver a.journal.engine.shape a.journal.front.sealed n (length a.journal.front.sealed) disk) committed
                (subst (λ (f : Front). OpensOver a.journal.engine.shape f.sealed b.journal.engine.committed (length f.sealed) disk) front
                (subst (λ (s : Shape). OpensOver s b.journal.front.sealed b.journal.engine.committed (length b.journal.front.sealed) disk) on.measures during.opens));
          }

  -- the log's close after everything before it
  pub each-finished : (a b : JournalValue D) (device : D) → IsFinished state a b → b.journal.engine.shape ≡ a.journal.engine.shape → HoldsDuringTurns state a b →
      EachRoundTo b device → EachTo a device
  each-finished a b device done shape first second =
      let P = IsDuringTurns a.journal (state a.device).disk in
      each-joins P (state a.device) (state b.device) (state device) first.each
      (each-weaker (IsDuringRounds b.journal (state b.device).disk) P (state b.device) (state device) told second)
    where
      told : (disk : Disk) → IsDuringRounds b.journal (state b.device).disk disk → IsDuringTurns a.journal (state a.device).disk disk
      told disk during = record {
        least = b.journal.engine.committed;
        low = done.committed;
        home =
            adds-after (IsCopyOfTurns a.journal b.journal.engine.committed) (state a.device).disk (state b.device).disk disk first.home
            (adds-weaker (IsCommittedCopy b.journal.front.sealed b.journal.engine.committed) (IsCopyOfTurns a.journal b.journal.engine.committed) (state b.device).disk disk
            (λ n v copy. record {
              sealed = b.journal.front.sealed;
              among = inr done.sealed;
              n = b.journal.engine.committed;
              low = done.committed;
              high = (omega arith);
              copy = copy;
            }) during.home);
        sealed = b.journal.front.sealed;
        among = inr done.sealed;
        opens =
            subst (λ (s : Shape). OpensOver s b.journal.front.sealed b.journal.engine.committed (length b.journal.front.sealed) disk) shape during.opens;
      }

  -- a request changes only the lock
  record IsAsked (a b : JournalValue D) : Type 0 where
    later : IsLater a.journal b.journal
    count : b.journal.engine.committed ≡ a.journal.engine.committed

  asked-same : (a b : JournalValue D) → b ≡ a → IsAsked a b
  asked-same a b same = subst (IsAsked a) (sym same) (record { later = later-self a.journal; count = refl })

  asked-of : (tid : ℕ) (a b : JournalValue D) → Requests state tid a b → (n : ℕ) → length a.journal.front.running.handles ≡ n → IsAsked a b
  asked-of tid a b asks zero none = asked-same a b (asks.empty none)
  asked-of tid a b asks (suc n) some =
      ⊎_elim
      (λ (is : (eqb tid a.journal.front.running.tid ≡ true) × (tid ≡ a.journal.front.running.tid)).
      let step = asks.same is.1 (omega arith) in
      let same : b.journal.engine.committed ≡ a.journal.engine.committed = ap (λ (e : Engine). e.committed) step.engine in
      record {
        later = record {
          shape = ap (λ (e : Engine). e.shape) step.engine;
          committed = omega arith;
          sealed = λ ts among. subst (λ (f : Front). IsSealedInClose f ts) step.front.after among;
        };
        count = same;
      })
      (λ (other : (eqb tid a.journal.front.running.tid ≡ false) × (tid ≢ a.journal.front.running.tid)). asked-same a b (asks.other other.1))
      (eqb_tells tid a.journal.front.running.tid)

  -- the moments after a request
  pub each-asked : (tid : ℕ) (a b c : JournalValue D) → Requests state tid a b → b.device ≡ a.device → OpensNow a.journal (state a.device).disk →
      HoldsDuringTurns state b c → HoldsDuringTurns state a c
  each-asked tid a b c asks device opens holds =
      let is = asked-of tid a b asks (length a.journal.front.running.handles) refl in
      each-on a b c is.later (each-device a a b device is.count (each-still a opens)) holds
