-- Each crash image of such an opening gives the same home.
use Rattle.std.proofs.Common.{refl, sym, ◌∙◌, ap, subst, arith, inl, inr, zero, ⊎_elim}
use Rattle.std.specs.Prelude.{◌≡◌, ◌≢◌, ◌⊎◌, ℕ, suc, ◌+◌, ◌<◌, List, [], length, None, Some, Option, slice_get}
use Rattle.std.proofs.lemmas.Bool.{cases_eq}
use Rattle.journal_model.specs.declared.number.Area.TheVariants.{Log, Home}
use Rattle.journal_model.specs.declared.refusal.JournalError.{JournalError}
use Rattle.journal_model.specs.Disk.{Cell, Disk, Image, IsOneOf, Leaves, Shape, disk_of, flushed, held, reading, written}
use Rattle.journal_model.specs.Transaction.{Volume}
use Rattle.log_model.specs.declared.log.Text.{Text}
use Rattle.log_model.specs.Chain.{IsChain}
use Rattle.log_model.specs.HomeChange.{Addition, HomeAddsOnly}
use Rattle.log_model.specs.Opening.{greatest_number, layout_of, log_lap, super_of}
use Rattle.log_model.specs.Replay.{HasNoLive, IsNewest, IsReplayed}
use Rattle.log_model.specs.Superblock.{super_in, super_refusal, with_tail}
use Rattle.journal_world.specs.Call.{IsAfterFault}
use Rattle.journal_world.specs.Call.Call.{Write}
use Rattle.journal_world.specs.Call.IsAfterFault.{HandedOver, Undone, Whole}
use Rattle.journal_world.specs.Sound.{durable_cell}
use Rattle.journal_world.proofs.HomeCopies.{adds-none, adds-written, write-adds}
use Rattle.journal_world.proofs.Places.{IsWrite, held-after, held-durable, held-flushed}
use Rattle.log_epochs.proofs.CleanLogs.{clean-tail}
use Rattle.log_epochs.proofs.Replaying.{SameLog, same-log_lap}
use Rattle.recovery.specs.Calls.{disk_after, writes_home}
use Rattle.recovery.specs.HomeCopies.{home_copies}
use Rattle.recovery.proofs.CopiesReplayed.{copies-replayed}
use Rattle.damaged_logs.specs.Before.{AreTaken, GivesSame, IsMomentBefore, Takes}
use Rattle.damaged_logs.specs.Before.AreTaken.{OfChain, OfClean}
use Rattle.damaged_logs.specs.Before.IsMomentBefore.{Past}

-- what may be added in two steps may be added in one
pub adds-joined : (may : Addition) (a b c : Disk) → HomeAddsOnly may a b → HomeAddsOnly may b c → HomeAddsOnly may a c
adds-joined may a b c first second = record {
  reads = λ n. elim (second.reads n) [
    | inl same ↦
        elim (first.reads n) [
          | inl also ↦ inl (same ∙ also)
          | inr added ↦ inr (subst (may n) (sym same) added)
        ]
    | inr added ↦ inr added
  ];
  left = λ n v one. ⊎_elim (λ was. first.left n v was) (λ added. inr added) (second.left n v one);
}

-- the empty chain has no live copy
pub none-live : (b : ℕ) → HasNoLive [] b
none-live b i k bytes live = nothing i live.text live.stands
  where
    nothing : (i : ℕ) (text : Text) → (let none : List Text = [] in slice_get none i ≡ Some text) → ⊥
    nothing zero text stands = cc
    nothing (suc i) text stands = cc

-- block 0 of an image of which something is taken is accepted
pub taken-accepted : (shape : Shape) (image : Image) (texts : List Text) → AreTaken shape image texts → super_refusal shape (image Log 0) ≡ None
taken-accepted shape image texts (OfClean clean) = clean.accepted
taken-accepted shape image texts (OfChain ts started are) = started.accepted

-- the same is taken of images of one log
same-taken : (shape : Shape) (image other : Image) (texts : List Text) → SameLog image other → AreTaken shape image texts → AreTaken shape other texts
same-taken shape image other texts same (OfClean is) = OfClean (record {
  accepted = ap (super_refusal shape) (same 0) ∙ is.accepted;
  clean = ap (λ (block : List ℕ). (super_in block).s_start) (same 0) ∙ is.clean;
})
same-taken shape image other texts same (OfChain ts started are) =
    OfChain texts
    (record {
      accepted = ap (super_refusal shape) (same 0) ∙ started.accepted;
      started = λ clean. started.started (sym (ap (λ (block : List ℕ). (super_in block).s_start) (same 0)) ∙ clean);
    })
    (subst (λ (blocks : List (List ℕ)). IsChain (layout_of (super_of other)) shape.home_blocks (super_of other).s_sequence blocks texts)
    (sym (same-log_lap image other same))
    (subst (λ (block : List ℕ). IsChain (layout_of (super_in block)) shape.home_blocks (super_in block).s_sequence (log_lap image) texts) (sym (same 0)) are))

-- a durable log block is left as it reads
only-read : (disk : Disk) (image : Image) (n : ℕ) (v : List ℕ) → Leaves disk image → disk Log n ≡ durable_cell v → image Log n ≡ v
only-read disk image n v leaves durable = held-durable disk n v (image Log n) durable (leaves.each Log n)

-- the superblock of the clean log
abbrev pub tail_of : Disk → ℕ → List ℕ
tail_of old greatest = with_tail (old Log 0).reads (greatest + 1) 0

module _ (shape : Shape) (old : Disk) (texts : List Text) where
  -- home holds what it might have held, or newest copies
  abbrev HoldsRightly : Image → Type 0
  HoldsRightly image = (b : ℕ) → IsOneOf (held (old Home b)) (image Home b) ⊎ IsNewest texts b (image Home b)

  -- while the log is as it was read, it is replayed again
  gives-again : (image : Image) → AreTaken shape (reading old) texts → SameLog (reading old) image → HoldsRightly image → GivesSame shape old texts image
  gives-again image taken same holds =
      let got : Volume = reading (disk_after (writes_home (home_copies texts)) (disk_of image)) Home in
      let replayed : IsReplayed shape.home_blocks texts (image Home) got = copies-replayed shape.home_blocks texts (disk_of image) in
      record {
        again = texts;
        taken = same-taken shape (reading old) image texts same taken;
        got = got;
        replayed = replayed;
        same = λ b below.
            elim (replayed b below) [
              | inl newest ↦ inl newest
              | inr (none, kept) ↦
                  inr (
                    none,
                    subst (IsOneOf (held (old Home b))) (sym kept)
                        (⊎_elim (λ was. was) (λ newest. absurd (none newest.i newest.k (image Home b) newest.live)) (holds b)),
                  )
            ];
      }

  -- after the clean superblock home has all of it
  gives-clean : (image : Image) (greatest : ℕ) → super_refusal shape (old Log 0).reads ≡ None → length (old Log 0).reads ≡ shape.block_size →
      greatest < greatest_number → image Log 0 ≡ tail_of old greatest → IsReplayed shape.home_blocks texts (reading old Home) (image Home) →
      GivesSame shape old texts image
  gives-clean image greatest accepted size small is replayed =
      let tail = clean-tail shape (old Log 0).reads (greatest + 1) accepted size (omega arith) in
      record {
        again = [];
        taken = OfClean (record {
          accepted = ap (super_refusal shape) is ∙ tail.accepted;
          clean = ap (λ (block : List ℕ). (super_in block).s_start) is ∙ tail.clean;
        });
        got = image Home;
        replayed = λ b below. inr (none-live b, refl);
        same = λ b below. ⊎_elim (λ newest. inl newest) (λ kept. inr (kept.0, inl kept.1)) (replayed b below);
      }

  -- while copies go home: the log is durable as it was read
  pub record CopiesGo (disk : Disk) : Type 0 where
    pub home : HomeAddsOnly (IsNewest texts) old disk
    pub log : (n : ℕ) → disk Log n ≡ flushed old Log Log n

  -- once they are durable: block 0 may be the clean superblock
  pub record CopiesDone (greatest : ℕ) (disk : Disk) : Type 0 where
    pub home : HomeAddsOnly (IsNewest texts) old disk
    pub durable : (b : ℕ) → disk Home b ≡ durable_cell (disk Home b).reads
    pub replayed : IsReplayed shape.home_blocks texts (reading old Home) (reading disk Home)
    pub log : (n : ℕ) → n ≢ 0 → disk Log n ≡ flushed old Log Log n
    pub block_0 : (v : List ℕ) → IsOneOf (held (disk Log 0)) v → (v ≡ (old Log 0).reads) ⊎ (v ≡ tail_of old greatest)

  -- the log was flushed
  pub go-flushed : CopiesGo (flushed old Log)
  go-flushed = record { home = adds-none (IsNewest texts) old (flushed old Log) (λ b. refl); log = λ n. refl }

  -- a newest copy is written
  pub go-written : (disk : Disk) (b : ℕ) (v : List ℕ) → IsNewest texts b v → CopiesGo disk → CopiesGo (written disk Home b v)
  go-written disk b v newest go = record {
    home = adds-joined (IsNewest texts) old disk (written disk Home b v) go.home (adds-written (IsNewest texts) disk b v newest);
    log = λ n. go.log n;
  }

  -- a write of home that failed leaves the log as it was
  fault-log : (disk after : Disk) (b n : ℕ) (v : List ℕ) → IsAfterFault (Write Home b v) disk after → after Log n ≡ disk Log n
  fault-log disk after b n v (Undone call x y same) = ap (λ (d : Disk). d Log n) same
  fault-log disk after b n v (Whole a m w x y same) = ap (λ (d : Disk). d Log n) same
  fault-log disk after b n v (HandedOver a m w x y same) = ap (λ (d : Disk). d Log n) same

  -- a write of a newest copy fails
  pub go-fault : (disk after : Disk) (b : ℕ) (v : List ℕ) → IsNewest texts b v → IsAfterFault (Write Home b v) disk after → CopiesGo disk → CopiesGo after
  go-fault disk after b v newest fault go = record {
    home = adds-joined (IsNewest texts) old disk after go.home (write-adds (IsNewest texts) b v disk after newest fault);
    log = λ n. fault-log disk after b n v fault ∙ go.log n;
  }

  -- home is flushed once all copies are written
  pub go-done : (greatest : ℕ) (disk : Disk) → IsReplayed shape.home_blocks texts (reading old Home) (reading disk Home) → CopiesGo disk →
      CopiesDone greatest (flushed disk Home)
  go-done greatest disk replayed go = record {
    home = record {
      reads = λ b. go.home.reads b;
      left = λ b v one. go.home.left b v (only b v one);
    };
    durable = λ b. refl;
    replayed = replayed;
    log = λ n other. go.log n;
    block_0 = λ v one. inl (held-flushed old 0 v (subst (λ (c : Cell). IsOneOf (held c) v) (go.log 0) one));
  }
    where
      only : (b : ℕ) (v : List ℕ) → IsOneOf (held (flushed disk Home Home b)) v → IsOneOf (held (disk Home b)) v
      only b v (inl is) = inl is
      only b v (inr none) = absurd none

  -- the superblock is written, or its write fails
  pub done-written : (greatest : ℕ) (disk after : Disk) → IsWrite disk after 0 (tail_of old greatest) → CopiesDone greatest disk → CopiesDone greatest after
  done-written greatest disk after write done = record {
    home = adds-joined (IsNewest texts) old disk after done.home (adds-none (IsNewest texts) disk after write.home.same);
    durable = λ b. write.home.same b ∙ done.durable b ∙ ap (λ (c : Cell). durable_cell c.reads) (sym (write.home.same b));
    replayed = λ b below.
        elim (done.replayed b below) [
          | inl newest ↦ inl (subst (IsNewest texts b) (ap (λ (c : Cell). c.reads) (sym (write.home.same b))) newest)
          | inr (none, kept) ↦ inr (none, ap (λ (c : Cell). c.reads) (write.home.same b) ∙ kept)
        ];
    log = λ n other. write.others n other ∙ done.log n other;
    block_0 = λ v one. ⊎_elim (λ is. inr is.1) (λ was. done.block_0 v was) (held-after disk after 0 (tail_of old greatest) 0 v write one);
  }

  -- it is flushed
  pub done-flushed : (greatest : ℕ) (disk : Disk) → CopiesDone greatest disk → CopiesDone greatest (flushed disk Log)
  done-flushed greatest disk done = record {
    home = record { reads = λ b. done.home.reads b; left = λ b v one. done.home.left b v one };
    durable = λ b. done.durable b;
    replayed = λ b below. done.replayed b below;
    log = λ n other. ap (λ (c : Cell). durable_cell c.reads) (done.log n other);
    block_0 = λ v one. done.block_0 v (inl (held-flushed disk 0 v one));
  }

  module _ (greatest : ℕ) (stopped : Option JournalError) (takes : Takes shape (reading old) texts greatest stopped) where
    -- a moment while copies go home
    pub go-moment : (disk : Disk) → CopiesGo disk → IsMomentBefore shape old disk
    go-moment disk go =
        Past texts greatest stopped takes
        (λ image leaves.
        gives-again image takes.taken (λ n. only-read disk image n (old Log n).reads leaves (go.log n))
        (λ b. go.home.left b (image Home b) (leaves.each Home b)))
        go.home (λ n other. go.log n) (λ v one. inl (held-flushed old 0 v (subst (λ (c : Cell). IsOneOf (held c) v) (go.log 0) one)))

    module _ (size : length (old Log 0).reads ≡ shape.block_size) (small : greatest < greatest_number) where
      -- the log is the same if block 0 is as it was
      whole-log : (disk : Disk) (image : Image) → CopiesDone greatest disk → Leaves disk image → image Log 0 ≡ (old Log 0).reads → SameLog (reading old) image
      whole-log disk image done leaves first n =
          elim (cases_eq n 0) [
            | inl here ↦ ap (λ (k : ℕ). image Log k) here ∙ first ∙ ap (λ (k : ℕ). (old Log k).reads) (sym here)
            | inr other ↦ only-read disk image n (old Log n).reads leaves (done.log n other)
          ]

      -- home as a crash leaves it
      home-left : (disk : Disk) (image : Image) (b : ℕ) → CopiesDone greatest disk → Leaves disk image → image Home b ≡ (disk Home b).reads
      home-left disk image b done leaves = ⊎_elim (λ is. is) (λ none. absurd none) (subst (λ (c : Cell). IsOneOf (held c) (image Home b)) (done.durable b) (leaves.each Home b))

      -- a moment once they are durable
      pub done-moment : (disk : Disk) → CopiesDone greatest disk → IsMomentBefore shape old disk
      done-moment disk done =
          Past texts greatest stopped takes
          (λ image leaves.
          elim (done.block_0 (image Log 0) (leaves.each Log 0)) [
            | inl first ↦
                gives-again image takes.taken (whole-log disk image done leaves first)
                (λ b. done.home.left b (image Home b) (leaves.each Home b))
            | inr tail ↦
                gives-clean image greatest (taken-accepted shape (reading old) texts takes.taken) size small tail
                (λ b below.
                elim (done.replayed b below) [
                  | inl newest ↦ inl (subst (IsNewest texts b) (sym (home-left disk image b done leaves)) newest)
                  | inr (none, kept) ↦ inr (none, home-left disk image b done leaves ∙ kept)
                ])
          ])
          done.home done.log done.block_0
